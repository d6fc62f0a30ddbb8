-- Each pivot is the one that the rule takes.
use Rattle.std.proofs.Common.{◌+◌, sym, subst}
use Rattle.dcx_tab.specs.Table.{Table}
use Rattle.dcx_warm.specs.Install.{IsSound}
use Rattle.dcx_warm.specs.Dual.{RepairsAlike}
use Rattle.dcx_warm.specs.Dual.Repairs.{Repaired}
use Rattle.dcx_warm.proofs.Pivoting.{sound_next}
use Rattle.dcx_warm.proofs.Repairing.{is_pivot, alike_next, refused, none_enters, all_high}
use Rattle.dcx_warm.proofs.dual.repair.Goals as goal

pub returns-in_default-clause-repairs : goal.returns-in_default-clause-repairs
returns-in_default-clause-repairs g c =
    let t = g.T.Tableau.table c.pivots.tableau in
    c.pivots.invariant.alike.onward t c.pivots.pivots (Repaired (all_high t c.in_default.ensures.none))

pub returns-in_default-entering-clause-none : goal.returns-in_default-entering-clause-none
returns-in_default-entering-clause-none g c =
    let t = g.T.Tableau.table c.pivots.tableau in
    none_enters c.args.limit (g.T.Tableau.table c.args.tableau.now) c.args.pivots.now t c.pivots.pivots c.in-Some.row c.pivots.invariant.alike c.pivots.invariant.sound c.in-Some.ensures.found
    c.in_default-entering.ensures.none

pub returns-then-not-step-clause-none : goal.returns-then-not-step-clause-none
returns-then-not-step-clause-none g c =
    let t = g.T.Tableau.table c.pivots.tableau in
    refused c.args.limit (g.T.Tableau.table c.args.tableau.now) c.args.pivots.now t c.pivots.pivots c.in-Some.row c.in-Some-entering.column c.pivots.invariant.alike c.pivots.invariant.sound
    c.in-Some.ensures.found c.in-Some-entering.ensures.found c.if-not-step.ensures.refused

pub pivots-preserved : goal.pivots-preserved
pivots-preserved g c =
    let s = g.T.Tableau.table c.args.tableau.now in
    let t = g.T.Tableau.table c.pivots.tableau in
    let n = c.pivots.pivots in
    let r = c.in-Some.row in
    let d = c.in-Some-entering.column in
    let e = c.if-not-step.ensures.done in
    let found = c.in-Some.ensures.found in
    let enters = c.in-Some-entering.ensures.found in
    let next = alike_next c.args.limit s c.args.pivots.now t n r d c.pivots.invariant.alike c.pivots.invariant.sound found enters c.if-not-step.ensures.allowed in
    record {
      sound = subst IsSound (sym e) (sound_next t r d c.pivots.invariant.sound (is_pivot t r d found enters));
      alike = subst (λ k. RepairsAlike c.args.limit s c.args.pivots.now (g.T.Tableau.table c.step.new.tableau) k) (sym c.if-not-step.ensures.counted)
          (subst (λ (u : Table). RepairsAlike c.args.limit s c.args.pivots.now u (n + 1)) (sym e) next);
    }
