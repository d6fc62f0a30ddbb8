-- The end stands above one more.
use Rattle.std.proofs.Common.{◌<◌, IsSome, get_or, length, sym, subst, arith}
use Rattle.dcx_arena.specs.Nodes.{positions}
use Rattle.dcx_arena.proofs.Positions.{length-positions, position_at}
use Rattle.dcx_tree.specs.Values.{array_at}
use Rattle.dcx_tree.proofs.Forming.{each_id}
use Rattle.dcx_cert_values.proofs.Marking.{above_more, not_both}
use Rattle.dcx_cert_values.proofs.marks.end_of.Goals as goal
use Rattle.dcx_cert_values.proofs.marks.end_of.Goals.{then-end-id+then-not-is_kept, else-end-id, else-end-id-via-then-end-id+else-not-is_kept, else-end-id-via-else-end-id}

pub overflow_add-end : goal.overflow_add-end
overflow_add-end c =
    let b = each_id (λ a. a < c.args.nodes) c.args.ids.now c.loop-id.id-index c.requires c.loop-id-test.true in
    let f = c.ranges.nodes.fits in
    omega (arith, b, f)

pub loop-id-preserved : goal.loop-id-preserved
loop-id-preserved c =
    let arrays = c.args.arrays.now in
    let ids = positions c.args.ids.now in
    let k = c.loop-id.id-index in
    let lt : k < length ids = let n = length-positions c.args.ids.now in omega (arith, n, c.loop-id-test.true) in
    let e = position_at c.args.ids.now k in
    let b = each_id (λ a. a < c.args.nodes) c.args.ids.now k c.requires c.loop-id-test.true in
    let more = above_more arrays ids k lt c.loop-id.end c.if-end-id.end c.loop-id.invariant.above in
    elim c.if-end-id.branch [
      | then-end-id+then-not-is_kept w ↦ record {
        most = let i = w.end-is in omega (arith, i, b);
        above = more (let i = w.end-is in let t = w.if-end-id.true in omega (arith, i, t)) (λ free. let i = w.end-is in omega (arith, i, e));
      }
      | else-end-id w ↦ record {
        most = let i = w.end-is in let m = c.loop-id.invariant.most in omega (arith, i, m);
        above = more (let i = w.end-is in omega (arith, i)) (λ free. elim w.else-end-id.branch [
          | else-end-id-via-then-end-id+else-not-is_kept w' ↦
              absurd (not_both (array_at arrays (get_or ids k 0)) free (subst (λ a. IsSome (array_at arrays a)) (sym e) (w'.is_kept.ensures.kept w'.if-not-is_kept.false)))
          | else-end-id-via-else-end-id w' ↦ let i = w.end-is in let t = w'.if-end-id.false in omega (arith, i, t, e)
        ]);
      }
    ]
