-- The next pair gives its share.
use Rattle.std.proofs.Common.{◌∙◌, ◌+◌, map, get_or}
use Rattle.std.proofs.lemmas.Result.{err_from_is_err_and}
use Rattle.dcx_affine.specs.declared.pairing.Pair.{Pair}
use Rattle.dcx_arena.specs.Nodes.{positions}
use Rattle.dcx_call.proofs.Products.{own_item}
use Rattle.dcx_cert_collect.specs.Calls.{pair_share}
use Rattle.dcx_cert_collect.proofs.Sharing.{shares-within}
use Rattle.dcx_cert_collect.proofs.Arguments.{share_next}
use Rattle.dcx_cert_collect.proofs.pairs.hand_entry.Goals as goal

pub loop-pair-preserved : goal.loop-pair-preserved
loop-pair-preserved c =
    let d : Pair = record { left = 0; right = 0 } in
    let f = pair_share c.args.places.now.tree.now (positions c.args.places.now.args.now) c.args.scaling c.args.numbers.now c.args.coefficient in
    let b = c.loop-pair-test.true in
    share_next f c.args.pairs.now c.args.table.now.items c.loop-pair.table.items c.loop-pair.pair-index (get_or c.args.pairs.now c.loop-pair.pair-index d) b
    (own_item c.args.pairs.now c.loop-pair.pair-index d b) c.loop-pair.invariant
    ∙ c.in_ok-hand_pair.ensures.ok

pub returns-in_err-hand_pair-clause-passes : goal.returns-in_err-hand_pair-clause-passes
returns-in_err-hand_pair-clause-passes c =
    let r = err_from_is_err_and c.from_residual.result c.from_residual.ensures.1 in
    let d : Pair = record { left = 0; right = 0 } in
    let f = pair_share c.args.places.now.tree.now (positions c.args.places.now.args.now) c.args.scaling c.args.numbers.now c.args.coefficient in
    let b = c.loop-pair-test.true in
    rw (r.1, r.2) (shares-within c.args.table.now.items (map f c.args.pairs.now) (c.loop-pair.pair-index + 1) c.in_err-hand_pair.field-0.0
    (share_next f c.args.pairs.now c.args.table.now.items c.loop-pair.table.items c.loop-pair.pair-index (get_or c.args.pairs.now c.loop-pair.pair-index d) b
    (own_item c.args.pairs.now c.loop-pair.pair-index d b) c.loop-pair.invariant
    ∙ c.in_err-hand_pair.ensures.passes))
