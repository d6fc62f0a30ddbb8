-- Each term isn't 0 and is added in its turn, or it is the first that stops.
use Rattle.std.proofs.Common.{Err, length, arith, rules}
use Rattle.std.proofs.lemmas.List.{length_push}
use Rattle.std.proofs.lemmas.Result.{err_from_is_err_and}
use Rattle.std.proofs.lemmas.Iterator.Adapters.{YieldsList-from_vec}
use Rattle.std.proofs.lemmas.Iterator.Consumers.{YieldsList-turn, YieldsList-end}
use Rattle.dcx_linear.specs.Slots.{listed_from, adds_term}
use Rattle.dcx_linear.specs.Terms.{SumsTerms}
use Rattle.dcx_linear.specs.FormTerms.{unknown_of, has_zero_coefficient, sum_gives_unknown}
use Rattle.dcx_linear.specs.Stops.{OnPass-weaker}
use Rattle.dcx_linear.proofs.SlotSums.{term_nonzero, terms_go, terms_stop, terms_done}
use Rattle.dcx_linear.proofs.slots.add_terms.Goals as goal

pub add_term-requires-clause-nonzero : goal.add_term-requires-clause-nonzero
add_term-requires-clause-nonzero g c =
    let t = g.C.Coef in
    let turn = YieldsList-turn (YieldsList-from_vec {s = c.into_iter-term-iterator.result} c.args.terms.items (search rules) (search rules)) c.terms.yielded c.terms.term-iterator c.terms.yielded_by
    c.next.result c.next.new.self c.in-Some.term c.in-Some.is c.next.ensures.steps in
    term_nonzero t.number_of t.sum_gives (listed_from t.number_of 0 c.args.slots.now.items) c.args.terms.items c.requires.sparse (length c.terms.yielded) c.in-Some.term turn.0 turn.1

pub returns-in_err-add_term-clause-sum : goal.returns-in_err-add_term-clause-sum
returns-in_err-add_term-clause-sum g c =
    let t = g.C.Coef in
    let start = listed_from t.number_of 0 c.args.slots.now.items in
    let p = err_from_is_err_and c.from_residual.result c.from_residual.ensures.1 in
    let turn = YieldsList-turn (YieldsList-from_vec {s = c.into_iter-term-iterator.result} c.args.terms.items (search rules) (search rules)) c.terms.yielded c.terms.term-iterator c.terms.yielded_by
    c.next.result c.next.new.self c.in-Some.term c.in-Some.is c.next.ensures.steps in
    rw (p.1, p.2)
    (OnPass-weaker _ (λ passes. adds_term t.number_of t.sum_gives (listed_from t.number_of 0 c.terms.slots.items) c.in-Some.term (Err passes))
    (λ passes. SumsTerms unknown_of (has_zero_coefficient t.number_of) (sum_gives_unknown t.sum_gives) start c.args.terms.items (Err passes))
    (λ passes h. terms_stop t.number_of t.sum_gives start c.args.terms.items c.requires.sparse (length c.terms.yielded) c.in-Some.term turn.0 turn.1 c.terms.slots.items passes h c.terms.invariant.sum)
    c.in_err-add_term.ensures.sum)

pub terms-preserved : goal.terms-preserved
terms-preserved g c =
    let t = g.C.Coef in
    let turn = YieldsList-turn (YieldsList-from_vec {s = c.into_iter-term-iterator.result} c.args.terms.items (search rules) (search rules)) c.terms.yielded c.terms.term-iterator c.terms.yielded_by
    c.next.result c.next.new.self c.in-Some.term c.in-Some.is c.next.ensures.steps in
    rw length_push (record {
      room = c.add_term.ensures.room;
      sum = terms_go t.number_of t.sum_gives (listed_from t.number_of 0 c.args.slots.now.items) c.args.terms.items c.requires.sparse
          (length c.terms.yielded) c.in-Some.term turn.0 turn.1 c.terms.slots.items c.add_term.new.slots.items c.in_ok-add_term.ensures.sum c.terms.invariant.sum;
    })

pub returns-clause-sum : goal.returns-clause-sum
returns-clause-sum g c =
    let t = g.C.Coef in
    let end = YieldsList-end (YieldsList-from_vec {s = c.into_iter-term-iterator.result} c.args.terms.items (search rules) (search rules)) c.terms.yielded c.terms.term-iterator c.terms.yielded_by
    c.next.result c.next.new.self c.in-None.is c.next.ensures.steps in
    terms_done t.number_of t.sum_gives (listed_from t.number_of 0 c.args.slots.now.items) c.args.terms.items (length c.terms.yielded) c.terms.slots.items (omega (arith, end.1)) c.terms.invariant.sum
