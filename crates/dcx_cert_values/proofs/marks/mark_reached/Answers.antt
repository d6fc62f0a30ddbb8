-- The arguments of one more node are marked.
use Rattle.std.proofs.Common.{◌≡◌, ℕ, ◌-◌, ◌<◌, Bool, List, true, false, All, length, get_or, sym, ap, subst, ◌∙◌, arith}
use Rattle.dcx_arena.specs.Nodes.{positions}
use Rattle.dcx_tree.proofs.Forming.{args_below}
use Rattle.dcx_cert_values.proofs.Marking.{AreMarkedOf, down_none, down_over, down_more, down_all}
use Rattle.dcx_cert_values.proofs.marks.mark_reached.Goals as goal

pub loop-lowest-init : goal.loop-lowest-init
loop-lowest-init c = record {
  count = c.requires.count;
  most = omega arith;
  down = down_none c.args.tree.now c.requires.nodes c.args.arrays.now c.args.marks.now.items c.args.end c.args.low c.requires.within;
}

pub mark_unkept-lowest-requires-clause-room : goal.mark_unkept-lowest-requires-clause-room
mark_unkept-lowest-requires-clause-room c =
    let are = ap positions c.deref-then-is_marked.ensures.value ∙ c.in_ok-args.ensures in
    let lt : c.loop-lowest.at - 1 < length c.loop-lowest.marks.items = omega (arith, c.loop-lowest.invariant.count, c.loop-lowest.invariant.most, c.requires.most, c.loop-lowest-test.true) in
    subst (All (λ (a : ℕ). a < length c.loop-lowest.marks.items)) (sym are) (args_below c.args.tree.now c.requires.nodes (c.loop-lowest.at - 1) (length c.loop-lowest.marks.items) lt)

pub loop-lowest-preserved-then-is_marked : goal.loop-lowest-preserved-then-is_marked
loop-lowest-preserved-then-is_marked c =
    let nodes = c.args.tree.now in
    let arrays = c.args.arrays.now in
    let n = c.loop-lowest.at - 1 in
    let marks = c.loop-lowest.marks.items in
    let are = ap positions c.deref-then-is_marked.ensures.value ∙ c.in_ok-args.ensures in
    let here : get_or marks n false ≡ true = ap (λ (xs : List Bool). get_or xs n false) (sym c.deref.ensures.value) ∙ sym c.is_marked.ensures ∙ c.if-is_marked.true in
    record {
      count = c.mark_unkept-lowest.ensures.count ∙ c.loop-lowest.invariant.count;
      most = omega (arith, c.loop-lowest.invariant.most);
      down = down_more nodes c.requires.nodes arrays c.args.marks.now.items c.args.end n c.loop-lowest.at c.loop-lowest.lowest c.mark_unkept-lowest.result marks c.mark_unkept-lowest.new.marks.items
          (omega (arith, c.loop-lowest-test.true)) c.loop-lowest.invariant.most here c.loop-lowest.invariant.down
          (subst (λ xs. AreMarkedOf arrays xs marks c.mark_unkept-lowest.new.marks.items) are c.mark_unkept-lowest.ensures.marked) c.mark_unkept-lowest.ensures.lowest;
    }

pub loop-lowest-preserved : goal.loop-lowest-preserved
loop-lowest-preserved c =
    let n = c.loop-lowest.at - 1 in
    let marks = c.loop-lowest.marks.items in
    let free : get_or marks n false ≡ false = ap (λ (xs : List Bool). get_or xs n false) (sym c.deref.ensures.value) ∙ sym c.is_marked.ensures ∙ c.if-is_marked.false in
    record {
      count = c.loop-lowest.invariant.count;
      most = omega (arith, c.loop-lowest.invariant.most);
      down = down_over c.args.tree.now c.requires.nodes c.args.arrays.now c.args.marks.now.items c.args.end n c.loop-lowest.at c.loop-lowest.lowest marks
          (omega (arith, c.loop-lowest-test.true)) free c.loop-lowest.invariant.down;
    }

pub returns-clause-marked : goal.returns-clause-marked
returns-clause-marked c =
    down_all c.args.tree.now c.requires.nodes c.args.arrays.now c.args.marks.now.items c.args.end c.loop-lowest.at c.loop-lowest.lowest c.loop-lowest.marks.items
    (omega (arith, c.loop-lowest-test.false)) c.loop-lowest.invariant.down
