-- The rows come first, then the two rows of costs.
use Rattle.std.proofs.Common.{rules, ◌+◌, ◌≤◌, ◌++◌, ◌∷◌, [], map, length, pos, arith, ap, ap₂, sym, ◌∙◌, to_z-of_z, SFits, append_assoc, append-nil, mul-le-mul_left, mul-le-mul_right}
use Rattle.std.specs.Int.{w128}
use Rattle.dcx_tab.specs.Program.{tableau_row, objective_row, phase_row}
use Rattle.dcx_tab.specs.Cells.{joined}
use Rattle.dcx_tab.proofs.Joined.{joined-append}
use Rattle.dcx_tab.proofs.Programs.{few_in_all}
use Rattle.dcx_tab.proofs.build.first_cells.Goals as goal

pub overflow_mul-rows : goal.overflow_mul-rows
overflow_mul-rows c =
    let p = c.args.program.now in
    let few = few_in_all p.rows p.columns p.objective p.phase p.form in
    let a : length c.as_slice-rows.result.now + 2 ≤ 602 = omega (arith, p.form.few_rows, ap length c.as_slice-rows.ensures) in
    let b : length c.as_slice.result.now + 3 ≤ 3003 = omega (arith, few, ap length c.as_slice.ensures) in
    let m = mul-le-mul_right (length c.as_slice.result.now + 3) a in
    let n = mul-le-mul_left 602 b in
    record { fits = omega (arith, m, n) }

pub returns : goal.returns
returns c =
    let p = c.args.program.now in
    let rows = map tableau_row p.rows in
    let f1 : SFits w128 p.objective.lead = search rules in
    let f2 : SFits w128 p.objective.right = search rules in
    let f3 : SFits w128 p.phase.lead = search rules in
    let f4 : SFits w128 p.phase.right = search rules in
    let first = c.in_ok-push_rows.ensures ∙ ap₂ (λ cells rs. cells ++ joined (map tableau_row rs)) c.in_ok-cells.ensures.items c.as_slice-rows.ensures in
    let second = (simp to_z-of_z at c.in_ok-push_row.ensures) ∙ ap₂ (λ cells es. cells ++ (es ++ p.objective.lead ∷ pos 0 ∷ p.objective.right ∷ [])) first c.as_slice-2.ensures in
    (simp to_z-of_z at c.in_ok-push_row-2.ensures) ∙ ap₂ (λ cells es. cells ++ (es ++ pos 0 ∷ p.phase.lead ∷ p.phase.right ∷ [])) second c.as_slice-3.ensures
    ∙ append_assoc (joined rows) (objective_row p.objective) (phase_row p.phase)
    ∙ ap (λ r. joined rows ++ (objective_row p.objective ++ r)) (sym (append-nil (phase_row p.phase)))
    ∙ sym (joined-append rows (objective_row p.objective ∷ phase_row p.phase ∷ []))
