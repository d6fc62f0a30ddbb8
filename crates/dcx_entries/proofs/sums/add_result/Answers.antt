-- The sum has the terms of the result that are passed: one more is added, or it is the first that stops.
use Rattle.std.proofs.Common.{Err, map, sym, subst, arith, ◌^◌, ◌+◌, ◌<◌}
use Rattle.std.proofs.lemmas.Result.{err_from_is_err_and}
use Rattle.dcx_linear.specs.Stops.{OnPass-weaker}
use Rattle.dcx_linear.specs.Parts.{adds_parts}
use Rattle.dcx_atom.specs.Graph.{form_term}
use Rattle.dcx_entries.specs.Parts.{aux_part}
use Rattle.dcx_entries.specs.Sums.{adds}
use Rattle.dcx_entries.proofs.Folds.{made_goes, made_stops, made_ends}
use Rattle.dcx_entries.proofs.sums.add_result.Goals as goal

pub add_aux-requires : goal.add_aux-requires
add_aux-requires g c =
    let t = g.C.Coef in
    subst (λ x. c.args.first + x.aux < 2 ^ 32) (sym c.term-item.is) (c.requires c.terms.term-index c.term-item.result (omega arith))

pub returns-in_err-add_aux : goal.returns-in_err-add_aux
returns-in_err-add_aux g c =
    let t = g.C.Coef in
    let p = err_from_is_err_and c.from_residual.result c.from_residual.ensures.1 in
    rw (p.1, p.2)
    (OnPass-weaker _ (λ passes. adds t.number_of t.sum_gives t.change_gives (aux_part t.of_number c.args.first (form_term c.term-item.result)) c.terms.sum (Err passes))
    (λ passes. adds_parts t.number_of t.sum_gives t.change_gives (map (aux_part t.of_number c.args.first) (map form_term c.args.terms.now)) c.args.sum.now (Err passes))
    (λ passes h. made_stops t.number_of t.sum_gives t.change_gives form_term (aux_part t.of_number c.args.first) c.args.sum.now c.args.terms.now c.terms.term-index c.term-item.result
    (omega arith) c.term-item.is c.terms.sum passes h c.terms.invariant)
    c.in_err-add_aux.ensures)

pub terms-preserved : goal.terms-preserved
terms-preserved g c =
    let t = g.C.Coef in
    made_goes t.number_of t.sum_gives t.change_gives form_term (aux_part t.of_number c.args.first) c.args.sum.now c.args.terms.now c.terms.term-index c.term-item.result
    (omega arith) c.term-item.is c.terms.sum c.add_aux.new.sum c.in_ok-add_aux.ensures c.terms.invariant

pub returns : goal.returns
returns g c =
    let t = g.C.Coef in
    made_ends t.number_of t.sum_gives t.change_gives form_term (aux_part t.of_number c.args.first) c.args.sum.now c.args.terms.now c.terms.term-index c.terms.sum (omega arith) c.terms.invariant
