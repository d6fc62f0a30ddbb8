-- The next cost is looked at.
use Rattle.std.proofs.Common.{◌<◌, ◌<ℤ◌, ◌≤ℤ◌, pos, arith, rules, subst}
use borrow.Author.Count.{below_more}
use mir.Syntax.{w128}
use mir.Val.{SFits}
use Rattle.dcx_tab.specs.Table.{entry_at}
use Rattle.dcx_simplex.specs.Run.{NoneEnters}
use Rattle.dcx_simplex.specs.Whole.{objective_row}
use Rattle.dcx_warm.proofs.Entries.{high_by, low_by, never_both, refuted, shown, cost_row}
use Rattle.dcx_warm.proofs.run.costs_are_least.Goals as goal

pub columns-init : goal.columns-init
columns-init g c = search rules

pub columns-smaller : goal.columns-smaller
columns-smaller g c = search rules

pub columns-preserved : goal.columns-preserved
columns-preserved g c =
    let t = g.T.Tableau.table c.args.tableau.now in
    let f : SFits w128 c.entry.result = search rules in
    below_more (λ k. entry_at t (objective_row t) k ≤ℤ pos 0) c.columns.c c.columns.invariant
    (subst (λ i. entry_at t i c.columns.c ≤ℤ pos 0) (cost_row t c.rows-cost.result c.rows-cost.ensures.count)
    (low_by c.entry.result (entry_at t c.rows-cost.result c.columns.c) f c.entry.ensures.value c.if-entry-gt0.false))

pub returns-then-entry-gt0 : goal.returns-then-entry-gt0
returns-then-entry-gt0 g c =
    let t = g.T.Tableau.table c.args.tableau.now in
    let j = c.columns.c in
    let f : SFits w128 c.entry.result = search rules in
    let high = high_by c.entry.result (entry_at t c.rows-cost.result j) f c.entry.ensures.value c.if-entry-gt0.true in
    let below : j < t.plain = subst (λ n. j < n) c.plain-c-end.ensures c.columns-test.true in
    refuted (NoneEnters (objective_row t) t)
    (λ none. never_both (entry_at t (objective_row t) j) (subst (λ i. pos 0 <ℤ entry_at t i j) (cost_row t c.rows-cost.result c.rows-cost.ensures.count) high) (none j below))

pub returns : goal.returns
returns g c =
    let t = g.T.Tableau.table c.args.tableau.now in
    shown (NoneEnters (objective_row t) t) (λ k l. c.columns.invariant k (omega (arith, l, c.columns-test.false, c.plain-c-end.ensures)))
