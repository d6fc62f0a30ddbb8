-- The products so far are those of the terms passed: one more is formed, or it is the first that stops.
use Rattle.std.proofs.Common.{Err, sym, subst, arith}
use Rattle.std.proofs.lemmas.Result.{err_from_is_err_and}
use Rattle.dcx_linear.specs.Stops.{OnPass-weaker}
use Rattle.dcx_linear.specs.Terms.{ChangesTerms}
use Rattle.dcx_linear.specs.FormTerms.{unknown_of, has_zero_coefficient}
use Rattle.dcx_linear.specs.Multiples.{is_number_term, times_unknown}
use Rattle.dcx_linear.proofs.Formed.{change_goes, change_stops, change_ends}
use Rattle.dcx_linear.proofs.multiple.times_terms.Goals as goal

pub times_term-requires : goal.times_term-requires
times_term-requires g c = subst (is_number_term g.C.Coef.number_of) (sym c.term-item.is) (c.requires.numbers c.terms.term-index c.term-item.result (omega arith))

pub returns-in_err-times_term : goal.returns-in_err-times_term
returns-in_err-times_term g c =
    let p = err_from_is_err_and c.from_residual.result c.from_residual.ensures.1 in
    let t = g.C.Coef in
    let z = has_zero_coefficient t.number_of in
    let Times = times_unknown t.number_of t.change_gives c.args.coefficient.now in
    rw (p.1, p.2)
    (OnPass-weaker _ (λ passes. Times c.term-item.result (Err passes)) (λ passes. ChangesTerms unknown_of z Times c.args.terms.now (Err passes))
    (λ passes h. change_stops unknown_of z Times c.args.terms.now c.requires.sparse c.terms.term-index c.term-item.result
    (omega arith) c.term-item.is c.terms.products.items passes h c.terms.invariant)
    c.in_err-times_term.ensures)

pub terms-preserved : goal.terms-preserved
terms-preserved g c =
    let t = g.C.Coef in
    change_goes unknown_of (has_zero_coefficient t.number_of) (times_unknown t.number_of t.change_gives c.args.coefficient.now) c.args.terms.now c.requires.sparse c.terms.term-index
    c.term-item.result (omega arith) c.term-item.is c.terms.products.items
    c.push_nonzero.new.list.items c.in_ok-times_term.field-0 c.in_ok-times_term.ensures.0 c.in_ok-times_term.ensures c.in_ok-push_nonzero.ensures c.terms.invariant

pub returns : goal.returns
returns g c =
    let t = g.C.Coef in
    change_ends unknown_of (has_zero_coefficient t.number_of) (times_unknown t.number_of t.change_gives c.args.coefficient.now) c.args.terms.now c.terms.term-index
    (omega arith) c.terms.products.items c.terms.invariant
