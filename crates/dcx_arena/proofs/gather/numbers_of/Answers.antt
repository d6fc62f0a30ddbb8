-- Each of the nodes is in the order, and its number comes behind those of the nodes before it.
use Rattle.std.proofs.Common.{◌<◌, ◌∙◌, ◌∷◌, [], sym, ap, length, get_or, Some, arith}
use Rattle.std.proofs.lemmas.List.{map-append}
use Rattle.std.proofs.lemmas.Option.{slice_get-get_or}
use Rattle.dcx_arena.specs.declared.node.NodeId.{NodeId}
use Rattle.dcx_arena.specs.Nodes.{positions}
use Rattle.dcx_arena.proofs.Orders.{has_from}
use Rattle.dcx_arena.proofs.Parts.{stand_more}
use Rattle.dcx_arena.proofs.Positions.{length-positions, position_at}
use Rattle.dcx_arena.proofs.gather.numbers_of.Goals as goal

pub number_of-requires-clause-there : goal.number_of-requires-clause-there
number_of-requires-clause-there c =
    let ps = positions c.args.nodes.now in
    let i = c.loop-node.node-index in
    let lt : i < length ps = let n = length-positions c.args.nodes.now in omega (arith, n, c.loop-node-test.true) in
    rw (← position_at c.args.nodes.now i) (c.requires.there (get_or ps i 0) (has_from ps i (get_or ps i 0) (slice_get-get_or ps i 0 lt)))

pub loop-node-preserved : goal.loop-node-preserved
loop-node-preserved c =
    let ps = positions c.args.nodes.now in
    let i = c.loop-node.node-index in
    let lt : i < length ps = let n = length-positions c.args.nodes.now in omega (arith, n, c.loop-node-test.true) in
    rw (c.in_ok-push.ensures.items, map-append (λ (a : NodeId). a.0) c.loop-node.numbers.items (c.number_of.result ∷ []))
    (stand_more c.args.finished.now.order.items (positions c.loop-node.numbers.items) ps i c.number_of.result.0 lt c.loop-node.invariant
    (c.number_of.ensures ∙ ap Some (sym (position_at c.args.nodes.now i))))
