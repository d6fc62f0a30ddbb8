-- The next term gets its share.
use Rattle.std.proofs.Common.{◌∙◌, ◌+◌, map}
use Rattle.std.proofs.lemmas.Result.{err_from_is_err_and}
use Rattle.dcx_atom.specs.Linear.{linear_term}
use Rattle.dcx_arena.specs.Nodes.{positions}
use Rattle.dcx_cert_collect.specs.Calls.{term_share}
use Rattle.dcx_cert_collect.proofs.Sharing.{shares-within}
use Rattle.dcx_cert_collect.proofs.Arguments.{term_next}
use Rattle.dcx_cert_collect.proofs.linear.hand_terms.Goals as goal

pub loop-term-preserved : goal.loop-term-preserved
loop-term-preserved c =
    term_next c.args.places.now.tree.now c.args.places.now.args.now c.args.coefficient c.args.terms.now c.args.table.now.items c.loop-term.table.items c.loop-term.term-index c.term-item.result
    c.place-place.result c.mul.result c.loop-term-test.true c.term-item.is c.place-place.ensures c.mul.ensures.answer c.loop-term.invariant
    ∙ c.in_ok-add_share.ensures.ok

pub returns-in_err-add_share-clause-passes : goal.returns-in_err-add_share-clause-passes
returns-in_err-add_share-clause-passes c =
    let r = err_from_is_err_and c.from_residual.result c.from_residual.ensures.1 in
    let ss = map (term_share c.args.places.now.tree.now (positions c.args.places.now.args.now) c.args.coefficient) (map linear_term c.args.terms.now) in
    rw (r.1, r.2) (shares-within c.args.table.now.items ss (c.loop-term.term-index + 1) c.in_err-add_share.field-0.0
    (term_next c.args.places.now.tree.now c.args.places.now.args.now c.args.coefficient c.args.terms.now c.args.table.now.items c.loop-term.table.items c.loop-term.term-index c.term-item.result
    c.place-place.result c.mul.result c.loop-term-test.true c.term-item.is c.place-place.ensures c.mul.ensures.answer c.loop-term.invariant
    ∙ c.in_err-add_share.ensures.passes))
