-- A node that isn't the call's leads to the one before it in its bucket, and behind the last there is none.
use Rattle.std.proofs.Common.{length, refl}
use Rattle.std.proofs.lemmas.Option.{slice_get_read}
use Rattle.dcx_arena.specs.Nodes.{positions, IsOf}
use Rattle.dcx_arena.specs.Chains.{node_of, IsIn}
use Rattle.dcx_arena.proofs.Walks.{stored_node, head_up, link_smaller, walk_within, walk_rest}
use Rattle.dcx_arena.proofs.store.find.Goals as goal
use Rattle.dcx_arena.proofs.store.find.Goals.{else-same-via-then-same+else-is_chain_of, else-same-via-else-same}

pub returns-then-is_chain_of-clause-some : goal.returns-then-is_chain_of-clause-some
returns-then-is_chain_of-clause-some g c =
    let inside = rw c.in-Some.is at c.loop-at.invariant.within in
    let e = slice_get_read c.args.stored.now (length c.args.stored.now) c.in-Some.i c.index-stored-i.result refl inside.0 c.index-stored-i.is in (
      node_of c.args.cells.now c.index-stored-i.result,
      stored_node c.args.cells.now c.args.stored.now c.in-Some.i c.index-stored-i.result e,
      record {
        same_call = c.same.ensures.0 c.if-same.true;
        same_args = c.is_chain_of.ensures.0 c.if-is_chain_of.true;
      },
    )

pub loop-at-smaller : goal.loop-at-smaller
loop-at-smaller g c =
    let inside = rw c.in-Some.is at c.loop-at.invariant.within in
    let e = slice_get_read c.args.stored.now (length c.args.stored.now) c.in-Some.i c.index-stored-i.result refl inside.0 c.index-stored-i.is in
    link_smaller c.loop-at.at c.index-stored-i.result.next c.in-Some.i (IsIn c.args.stored.now c.index-stored-i.result.bucket) c.in-Some.is
    (c.requires.kept.linked c.in-Some.i c.index-stored-i.result e).within

pub loop-at-preserved : goal.loop-at-preserved
loop-at-preserved g c =
    let inside = rw c.in-Some.is at c.loop-at.invariant.within in
    let e = slice_get_read c.args.stored.now (length c.args.stored.now) c.in-Some.i c.index-stored-i.result refl inside.0 c.index-stored-i.is in
    let differs : ¬ IsOf (node_of c.args.cells.now c.index-stored-i.result) c.args.call.now (positions c.args.args.now) = elim c.else-same.branch [
      | else-same-via-then-same+else-is_chain_of w ↦ λ o. let t = w.is_chain_of.ensures.1 o.same_args in let f = w.if-is_chain_of.false in cc
      | else-same-via-else-same w ↦ λ o. let t = c.same.ensures.1 o.same_call in let f = w.if-same.false in cc
    ] in
    record {
      within = walk_within g.C.Operator.bucket_of c.args.cells.now c.args.stored.now c.args.call.now (positions c.args.args.now) c.in-Some.i c.index-stored-i.result c.requires.kept e inside.1;
      rest = walk_rest g.C.Operator.bucket_of c.args.cells.now c.args.stored.now c.args.call.now
          (positions c.args.args.now) c.in-Some.i c.index-stored-i.result c.requires.kept e inside.1 differs (rw c.in-Some.is at c.loop-at.invariant.rest);
    }

pub returns-clause-none : goal.returns-clause-none
returns-clause-none g c = rw c.in_default.is at c.loop-at.invariant.rest

pub loop-at-init : goal.loop-at-init
loop-at-init g c = record {
  within = c.requires.head.within;
  rest = head_up g.C.Operator.bucket_of c.args.cells.now c.args.stored.now c.args.call.now (positions c.args.args.now) c.args.head c.requires.kept c.requires.head;
}

pub bounds-stored-i : goal.bounds-stored-i
bounds-stored-i g c = (rw c.in-Some.is at c.loop-at.invariant.within).0

pub is_chain_of-requires : goal.is_chain_of-requires
is_chain_of-requires g c =
    let inside = rw c.in-Some.is at c.loop-at.invariant.within in
    let e = slice_get_read c.args.stored.now (length c.args.stored.now) c.in-Some.i c.index-stored-i.result refl inside.0 c.index-stored-i.is in
    c.requires.kept.chained c.in-Some.i c.index-stored-i.result e

pub returns-then-is_chain_of-clause-none : goal.returns-then-is_chain_of-clause-none
returns-then-is_chain_of-clause-none g c = tt

pub returns-clause-some : goal.returns-clause-some
returns-clause-some g c = tt
