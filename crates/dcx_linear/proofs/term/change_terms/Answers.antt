-- The terms so far are changed: one more is changed, or it is the first that stops.
use Rattle.std.proofs.Common.{Err, arith}
use Rattle.std.proofs.lemmas.Result.{err_from_is_err_and}
use Rattle.dcx_linear.specs.Stops.{OnPass-weaker}
use Rattle.dcx_linear.specs.Terms.{ChangesTerms}
use Rattle.dcx_linear.proofs.Formed.{change_goes, change_stops, change_ends}
use Rattle.dcx_linear.proofs.term.change_terms.Goals as goal

pub returns-in_err-changed : goal.returns-in_err-changed
returns-in_err-changed g c =
    let p = err_from_is_err_and c.from_residual.result c.from_residual.ensures.1 in
    let t = g.T.Term in
    rw (p.1, p.2)
    (OnPass-weaker _ (λ passes. t.change_gives c.args.change c.term-item.result (Err passes)) (λ passes. ChangesTerms t.key t.is_zero (t.change_gives c.args.change) c.args.terms.now (Err passes))
    (λ passes h. change_stops t.key t.is_zero (t.change_gives c.args.change) c.args.terms.now c.requires.terms c.terms.term-index c.term-item.result
    (omega arith) c.term-item.is c.terms.changed.items passes h c.terms.invariant)
    c.in_err-changed.ensures)

pub terms-preserved : goal.terms-preserved
terms-preserved g c =
    let t = g.T.Term in
    change_goes t.key t.is_zero (t.change_gives c.args.change) c.args.terms.now c.requires.terms c.terms.term-index c.term-item.result (omega arith) c.term-item.is c.terms.changed.items
    c.push_nonzero.new.list.items c.in_ok-changed.field-0 (g.met.T.Term.change_key c.args.change _ _ c.in_ok-changed.ensures) c.in_ok-changed.ensures c.in_ok-push_nonzero.ensures c.terms.invariant

pub returns : goal.returns
returns g c =
    let t = g.T.Term in
    change_ends t.key t.is_zero (t.change_gives c.args.change) c.args.terms.now c.terms.term-index (omega arith) c.terms.changed.items c.terms.invariant
