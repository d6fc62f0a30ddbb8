-- One more copy.
use Rattle.std.proofs.Common.{◌<◌, ◌∙◌, IsSome, Some, ap, sym, length, arith}
use Rattle.dcx_arena.specs.Nodes.{positions}
use Rattle.dcx_arena.proofs.Positions.{length-positions, position_at}
use Rattle.dcx_tree.specs.Values.{array_at}
use Rattle.dcx_tree.proofs.Forming.{args_more, each_id}
use Rattle.dcx_tree.proofs.value.copies_of.Goals as goal

pub kept_value-requires : goal.kept_value-requires
kept_value-requires c = each_id (λ a. IsSome (array_at c.args.arrays.now a)) c.args.ids.now c.loop-id.id-index c.requires c.loop-id-test.true

pub loop-id-preserved : goal.loop-id-preserved
loop-id-preserved c =
    let ids = positions c.args.ids.now in
    let k = c.loop-id.id-index in
    let lt : k < length ids = let n = length-positions c.args.ids.now in omega (arith, n, c.loop-id-test.true) in
    args_more c.args.arrays.now c.loop-id.copies.items c.push.new.self.items ids k _ lt c.loop-id.invariant
    (ap (array_at c.args.arrays.now) (position_at c.args.ids.now k) ∙ c.kept_value.ensures ∙ ap Some (sym c.in_ok-copy_array.ensures)) c.in_ok-push.ensures.items
