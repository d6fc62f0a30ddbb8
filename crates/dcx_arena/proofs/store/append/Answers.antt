-- One more node keeps the store sound; cells alone, where memory runs out then, change no node.
use Rattle.std.proofs.Common.{◌≡◌, ◌∙◌, ◌<◌, sym, refl, length, get_or, None, arith}
use Rattle.std.proofs.lemmas.Option.{slice_get_read, get_or_from_slice_get}
use Rattle.std.proofs.lemmas.Result.{err_from_is_err_and}
use mathlib.Core.Logic.{inr}
use Rattle.dcx_arena.specs.declared.store.Stored.{Stored}
use Rattle.dcx_arena.specs.Nodes.{positions}
use Rattle.dcx_arena.specs.Chains.{nodes_in}
use Rattle.dcx_arena.proofs.Kept.{store_with, store_appended, nodes_appended, count_nodes}
use Rattle.dcx_arena.proofs.store.append.Goals as goal

pub returns-in_err-add_cells-clause-sound : goal.returns-in_err-add_cells-clause-sound
returns-in_err-add_cells-clause-sound g c =
    let o = c.args.store.now in
    (store_with g.C.Operator.gives g.C.Operator.bucket_of o.cells.items c.add_cells.new.cells.items o.stored.items o.heads.items o.entries c.add_cells.ensures.more c.requires.sound).0

pub returns-in_err-add_cells-clause-same : goal.returns-in_err-add_cells-clause-same
returns-in_err-add_cells-clause-same g c =
    let o = c.args.store.now in
    let p = err_from_is_err_and c.from_residual-in_err-add_cells.result c.from_residual-in_err-add_cells.ensures.1 in
    rw p.1 (store_with g.C.Operator.gives g.C.Operator.bucket_of o.cells.items c.add_cells.new.cells.items o.stored.items o.heads.items o.entries c.add_cells.ensures.more c.requires.sound).1

pub returns-in_err-push-clause-sound : goal.returns-in_err-push-clause-sound
returns-in_err-push-clause-sound g c =
    let o = c.args.store.now in
    rw c.in_err-push.ensures.items (store_with g.C.Operator.gives g.C.Operator.bucket_of o.cells.items c.add_cells.new.cells.items o.stored.items o.heads.items o.entries
    c.add_cells.ensures.more c.requires.sound).0

pub returns-in_err-push-clause-same : goal.returns-in_err-push-clause-same
returns-in_err-push-clause-same g c =
    let o = c.args.store.now in
    let p = err_from_is_err_and c.from_residual-in_err-push.result c.from_residual-in_err-push.ensures.1 in
    rw (p.1, c.in_err-push.ensures.items) (store_with g.C.Operator.gives g.C.Operator.bucket_of o.cells.items c.add_cells.new.cells.items o.stored.items o.heads.items
    o.entries c.add_cells.ensures.more c.requires.sound).1

pub returns-clause-sound : goal.returns-clause-sound
returns-clause-sound g c =
    let o = c.args.store.now in
    let now = c.add_cells.new.cells.items in
    let a = store_with g.C.Operator.gives g.C.Operator.bucket_of o.cells.items now o.stored.items o.heads.items o.entries c.add_cells.ensures.more c.requires.sound in
    let l : c.len-len.result ≡ length o.stored.items = c.len-len.ensures ∙ o.stored.ok.0 in
    let f : c.len-first.result ≡ length o.cells.items = c.len-first.ensures ∙ o.cells.ok.0 in
    let n = count_nodes o.cells.items o.stored.items in
    let below : c.args.bucket < length o.heads.items = omega (arith, c.requires.within, c.requires.heads) in
    let h : c.index-head.result.now ≡ get_or o.heads.items c.args.bucket None = sym (get_or_from_slice_get o.heads.items c.args.bucket c.index-head.result.now None
    (slice_get_read o.heads.items (length o.heads.items) c.args.bucket c.index-head.result.now refl below c.index-head.ensures)) in
    let s : Stored g.row.C.Denot = record {
      call = c.args.call;
      shape = c.args.shape;
      place = c.args.place;
      count = length c.args.args.now;
      first = c.len-first.result;
      bucket = c.args.bucket;
      next = c.index-head.result.now;
    } in
    rw (c.in_ok-push.ensures.items, l, c.size.ensures.value) (store_appended now o.stored.items s (positions c.args.args.now) (nodes_in o) a.1
    (rw f c.in_ok-add_cells.ensures.chain) g.C.Operator.gives g.C.Operator.bucket_of o.heads.items o.entries a.0
    (rw f c.in_ok-add_cells.ensures.there) c.requires.bucket c.requires.within c.requires.heads h c.requires.args c.requires.new c.requires.shape
    (rw (n, ← l, ← c.size.ensures.value) c.in_ok-check_room.ensures.ok))

pub returns-clause-pushed : goal.returns-clause-pushed
returns-clause-pushed g c =
    let o = c.args.store.now in
    let now = c.add_cells.new.cells.items in
    let a = store_with g.C.Operator.gives g.C.Operator.bucket_of o.cells.items now o.stored.items o.heads.items o.entries c.add_cells.ensures.more c.requires.sound in
    let l : c.len-len.result ≡ length o.stored.items = c.len-len.ensures ∙ o.stored.ok.0 in
    let f : c.len-first.result ≡ length o.cells.items = c.len-first.ensures ∙ o.cells.ok.0 in
    let n = count_nodes o.cells.items o.stored.items in
    let s : Stored g.row.C.Denot = record {
      call = c.args.call;
      shape = c.args.shape;
      place = c.args.place;
      count = length c.args.args.now;
      first = c.len-first.result;
      bucket = c.args.bucket;
      next = c.index-head.result.now;
    } in
    inr (record {
      new = c.requires.new;
      room = rw (n, ← l, ← c.requires.sound.counted, ← c.size.ensures.value) c.in_ok-check_room.ensures.ok;
      last = l ∙ sym n;
      added = rw c.in_ok-push.ensures.items (nodes_appended now o.stored.items s (positions c.args.args.now) (nodes_in o) a.1 (rw f c.in_ok-add_cells.ensures.chain));
    })
