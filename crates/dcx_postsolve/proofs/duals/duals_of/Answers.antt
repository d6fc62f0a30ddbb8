-- One more constraint has its array, or is the first at which a multiplier passes.
use Rattle.std.proofs.Common.{◌+◌, ◌≤◌, length, drop, sym, ap, ◌∙◌, subst}
use Rattle.std.specs.Prelude.{sum_by}
use Rattle.std.proofs.lemmas.Result.{err_from_is_err_and}
use Rattle.dcx_lp_answer.specs.Multipliers.{passing_from}
use Rattle.dcx_unknowns.specs.Layout.{constraint_rows}
use Rattle.dcx_postsolve.specs.Duals.{all_multipliers, AreDuals}
use Rattle.dcx_postsolve.proofs.DualSteps.{rows_there, stops_here, passing_next, duals_next, duals_all}
use Rattle.dcx_postsolve.proofs.duals.duals_of.Goals as goal

pub returns-in_err-push_dual-clause-stops : goal.returns-in_err-push_dual-clause-stops
returns-in_err-push_dual-clause-stops c =
    let cs = c.args.constraints.now in
    let notes = c.args.answer.now.rows in
    let status = c.args.answer.now.status in
    let p = err_from_is_err_and c.from_residual-in_err-push_dual.result c.from_residual-in_err-push_dual.ensures.1 in
    rw (p.1, p.2)
    (stops_here status cs notes c.constraints.constraint-index c.constraints.next c.constraint-item.result c.constraints-test.true c.constraint-item.is
    (all_multipliers status cs notes) _ c.constraints.invariant.passing
    c.in_err-push_dual.ensures.stops)

pub constraints-preserved : goal.constraints-preserved
constraints-preserved c =
    let cs = c.args.constraints.now in
    let notes = c.args.answer.now.rows in
    let status = c.args.answer.now.status in
    let i = c.constraints.constraint-index in
    let next = c.constraints.next in
    let d = c.constraint-item.result in
    let h = c.constraints.invariant in
    let there = rows_there status cs notes i next d c.constraints-test.true c.constraint-item.is (length notes) h.rows in
    let made = duals_next status cs notes i next d c.constraints-test.true c.constraint-item.is c.constraints.duals.items c.push_dual.new.duals.items c.in_ok-push_dual.ensures.made h.made in
    let passing = passing_next status cs notes i next d c.constraints-test.true c.constraint-item.is c.constraints.duals.items c.push_dual.new.duals.items c.in_ok-push_dual.ensures.made ∙ h.passing in
    let size = c.size-next.ensures.value in
    record {
      made = λ es are. made es (subst (λ n. AreDuals status (drop (i + 1) cs) (drop (next + n) notes) es) size are);
      passing = ap (λ n. passing_from (next + n) (all_multipliers status (drop (i + 1) cs) (drop (next + n) notes))) size ∙ passing;
      rows = subst (λ n. (next + n) + sum_by constraint_rows (drop (i + 1) cs) ≤ length notes) (sym size) there.1;
    }

pub returns-clause-made : goal.returns-clause-made
returns-clause-made c =
    subst (AreDuals c.args.answer.now.status c.args.constraints.now c.args.answer.now.rows) (sym c.from_vec.ensures)
    (duals_all c.args.answer.now.status c.args.constraints.now c.args.answer.now.rows
    (drop c.constraints.next c.args.answer.now.rows) c.constraints.constraint-index c.constraints.duals.items c.constraints-test.false c.constraints.invariant.made)
