-- The marks are those of the nodes that are reached.
use Rattle.std.proofs.Common.{◌≡◌, ℕ, ◌+◌, ◌-◌, ◌<◌, ◌⊎◌, ◌↔◌, true, false, Bool, List, All, length, replicate, subst, ap, ◌∙◌, arith, rules}
use Rattle.std.proofs.lemmas.List.{length-replicate}
use Rattle.dcx_arena.specs.Nodes.{positions}
use Rattle.dcx_arena.specs.Gather.{has}
use Rattle.dcx_tree.specs.Values.{IsMarked}
use Rattle.dcx_tree.proofs.Forming.{args_below}
use Rattle.dcx_tree.proofs.Marking.{IsMarking, marking_none, marking_more, marking_all}
use Rattle.dcx_tree.proofs.reached.reached_from.Goals as goal

pub mark_all-requires : goal.mark_all-requires
mark_all-requires c =
    let made : c.in_ok-marks.marks.items ≡ replicate c.nodes-count.result false = search rules in
    let l = length-replicate c.nodes-count.result false in
    let size : length c.args.tree.now ≡ length c.in_ok-marks.marks.items = omega (arith, ap length made, l, c.nodes-count.ensures.count) in
    subst (λ n. All (λ (r : ℕ). r < n) (positions c.args.roots.now)) size c.requires

pub loop-k-init : goal.loop-k-init
loop-k-init c =
    let nodes = c.args.tree.now in
    let roots = positions c.args.roots.now in
    let size = c.nodes-count.result in
    let made : c.in_ok-marks.marks.items ≡ replicate size false = search rules in
    let l = length-replicate size false in
    let more = subst (λ (ms : List Bool). (i : ℕ) → IsMarked c.mark_all.new.marks.items i ↔ (IsMarked ms i ⊎ (has roots i ≡ true))) made c.mark_all.ensures.marked in
    record {
      count = omega (arith, c.mark_all.ensures.count, ap length made, l, c.nodes-count.ensures.count);
      marking = λ n e.
          let z : size ≡ n = omega (arith, e, c.nodes-count.ensures.count) in
          subst (λ m. IsMarking nodes roots m c.mark_all.new.marks.items) z (marking_none nodes roots size c.mark_all.new.marks.items c.nodes-count.ensures.count more);
    }

pub mark_args-requires-clause-below : goal.mark_args-requires-clause-below
mark_args-requires-clause-below c =
    let i : (c.nodes-count.result - 1) - c.loop-k.k < length c.loop-k.marks.items = omega (arith, c.loop-k-test.true, c.loop-k.invariant.count, c.nodes-count.ensures.count) in
    args_below c.args.tree.now c.nodes-count.ensures.nodes ((c.nodes-count.result - 1) - c.loop-k.k) (length c.loop-k.marks.items) i

pub loop-k-preserved : goal.loop-k-preserved
loop-k-preserved c =
    let nodes = c.args.tree.now in
    let roots = positions c.args.roots.now in
    let at = (c.nodes-count.result - 1) - c.loop-k.k in
    record {
      count = c.mark_args.ensures.count ∙ c.loop-k.invariant.count;
      marking = λ n e.
          let z : at ≡ n = omega (arith, e, c.nodes-count.ensures.count) in
          let up : (n + 1) + c.loop-k.k ≡ length nodes = omega (arith, e) in
          subst (λ m. IsMarking nodes roots m c.mark_args.new.marks.items) z
          (marking_more nodes roots c.nodes-count.ensures.nodes at (n + 1) c.loop-k.marks.items c.mark_args.new.marks.items (omega (arith, z))
          (c.loop-k.invariant.marking (n + 1) up) c.in_ok-mark_args.ensures.marked);
    }

pub returns-clause-marked : goal.returns-clause-marked
returns-clause-marked c =
    let nodes = c.args.tree.now in
    let e : 0 + c.loop-k.k ≡ length nodes = omega (arith, c.loop-k-test.false, c.nodes-count.ensures.count) in
    marking_all nodes (positions c.args.roots.now) c.loop-k.marks.items (c.loop-k.invariant.marking 0 e)
