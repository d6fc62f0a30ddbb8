-- The sum has the terms of the call that are passed: one more is added, or it is the first that stops.
use Rattle.std.proofs.Common.{Err, map, arith}
use Rattle.std.proofs.lemmas.Result.{err_from_is_err_and}
use Rattle.dcx_linear.specs.Stops.{OnPass-weaker}
use Rattle.dcx_linear.specs.Parts.{adds_parts}
use Rattle.dcx_atom.specs.Linear.{linear_term}
use Rattle.dcx_entries.specs.Parts.{term_part}
use Rattle.dcx_entries.specs.Standing.{args_of}
use Rattle.dcx_entries.specs.Sums.{adds}
use Rattle.dcx_entries.proofs.Folds.{made_goes, made_stops, made_ends}
use Rattle.dcx_entries.proofs.sums.add_terms.Goals as goal

pub returns-in_err-add_term : goal.returns-in_err-add_term
returns-in_err-add_term g c =
    let t = g.C.Coef in
    let p = err_from_is_err_and c.from_residual.result c.from_residual.ensures.1 in
    rw (p.1, p.2)
    (OnPass-weaker _ (λ passes. adds t.number_of t.sum_gives t.change_gives (term_part (args_of t.of_number c.args.args.now) (linear_term c.term-item.result)) c.terms.sum (Err passes))
    (λ passes. adds_parts t.number_of t.sum_gives t.change_gives (map (term_part (args_of t.of_number c.args.args.now)) (map linear_term c.args.terms.now)) c.args.sum.now (Err passes))
    (λ passes h. made_stops t.number_of t.sum_gives t.change_gives linear_term
    (term_part (args_of t.of_number c.args.args.now)) c.args.sum.now c.args.terms.now c.terms.term-index c.term-item.result (omega arith) c.term-item.is c.terms.sum passes h c.terms.invariant)
    c.in_err-add_term.ensures)

pub terms-preserved : goal.terms-preserved
terms-preserved g c =
    let t = g.C.Coef in
    made_goes t.number_of t.sum_gives t.change_gives linear_term (term_part (args_of t.of_number c.args.args.now)) c.args.sum.now c.args.terms.now c.terms.term-index c.term-item.result
    (omega arith) c.term-item.is c.terms.sum c.add_term.new.sum c.in_ok-add_term.ensures c.terms.invariant

pub returns : goal.returns
returns g c =
    let t = g.C.Coef in
    made_ends t.number_of t.sum_gives t.change_gives linear_term (term_part (args_of t.of_number c.args.args.now)) c.args.sum.now c.args.terms.now c.terms.term-index c.terms.sum
    (omega arith) c.terms.invariant
