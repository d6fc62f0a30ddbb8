-- One more node is marked.
use Rattle.std.proofs.Common.{◌<◌, inl, inr, true, length, get_or, refl, ◌∙◌, arith}
use Rattle.std.proofs.lemmas.List.{length-set, take_all}
use Rattle.dcx_arena.specs.Nodes.{positions}
use Rattle.dcx_arena.proofs.Positions.{length-positions, position_at}
use Rattle.dcx_tree.proofs.Forming.{each_id}
use Rattle.dcx_tree.proofs.Marks.{marks_more}
use Rattle.dcx_tree.proofs.reached.mark_all.Goals as goal

pub loop-a-init : goal.loop-a-init
loop-a-init c = record { count = refl; marked = λ i. ((λ m. inl m), elim [ inl m ↦ m | inr p ↦ absurd (cc) ]) }

pub index_mut-requires : goal.index_mut-requires
index_mut-requires c =
    let b = each_id (λ a. a < length c.args.marks.now.items) c.args.ids.now c.loop-a.a-index c.requires c.loop-a-test.true in
    omega (arith, b, c.loop-a.invariant.count)

pub loop-a-preserved : goal.loop-a-preserved
loop-a-preserved c =
    let items = c.args.ids.now in
    let k = c.loop-a.a-index in
    let now = c.loop-a.marks.items in
    let old = c.args.marks.now.items in
    let b = each_id (λ a. a < length old) items k c.requires c.loop-a-test.true in
    let e = position_at items k in
    let lt : k < length (positions items) = let n = length-positions items in omega (arith, n, c.loop-a-test.true) in
    let within : get_or (positions items) k 0 < length now = omega (arith, e, b, c.loop-a.invariant.count) in
    let l = length-set now (get_or items k (record { 0 = 0 })).0 true in
    record {
      count = l ∙ c.loop-a.invariant.count;
      marked = rw e at (marks_more (positions items) k old now lt within c.loop-a.invariant.marked);
    }

pub returns-clause-marked : goal.returns-clause-marked
returns-clause-marked c =
    let items = c.args.ids.now in
    let n = length-positions items in
    let all = take_all c.loop-a.a-index (positions items) (omega (arith, n, c.loop-a-test.false)) in
    rw all at c.loop-a.invariant.marked
