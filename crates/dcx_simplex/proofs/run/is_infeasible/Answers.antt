-- The right side of the row of phase 1 is tested.
use Rattle.std.proofs.Common.{arith, ◌≡◌, ◌+◌, ◌<ℤ◌, ◌≤ℤ◌, pos, ap₂, ◌∙◌, subst, to_z-of_z, SFits}
use Rattle.std.specs.Bool.{OnTrue, OnFalse}
use Rattle.std.specs.Int.{w128}
use Rattle.dcx_tab.specs.Table.{entry_at}
use Rattle.dcx_simplex.specs.Run.{right_at}
use Rattle.dcx_simplex.specs.Whole.{phase_row}
use Rattle.dcx_simplex.proofs.run.is_infeasible.Goals as goal

pub overflow_add-cost : goal.overflow_add-cost
overflow_add-cost g c = record { fits = omega (arith, c.rows-cost.ensures.few) }

pub returns-clause-yes : goal.returns-clause-yes
returns-clause-yes g c =
    let t = g.T.Tableau.table c.args.tableau.now in
    let ec : c.rows-cost.result + 1 ≡ phase_row t = omega (arith, c.rows-cost.ensures.count) in
    let ft : SFits w128 c.entry.result = record { sfits = c.entry.type_inv } in
    let er : c.entry.result ≡ right_at t (phase_row t) = c.entry.ensures.value ∙ ap₂ (λ k n. entry_at t k (n + 2)) ec c.columns-columns.ensures in
    let h = simp to_z-of_z at c.is_positive.ensures.yes in
    subst (λ z. OnTrue c.is_positive.result (pos 0 <ℤ z)) er h

pub returns-clause-no : goal.returns-clause-no
returns-clause-no g c =
    let t = g.T.Tableau.table c.args.tableau.now in
    let ec : c.rows-cost.result + 1 ≡ phase_row t = omega (arith, c.rows-cost.ensures.count) in
    let ft : SFits w128 c.entry.result = record { sfits = c.entry.type_inv } in
    let er : c.entry.result ≡ right_at t (phase_row t) = c.entry.ensures.value ∙ ap₂ (λ k n. entry_at t k (n + 2)) ec c.columns-columns.ensures in
    let h = simp to_z-of_z at c.is_positive.ensures.no in
    subst (λ z. OnFalse c.is_positive.result (z ≤ℤ pos 0)) er h
