-- A cell of the matrix may take another number that isn't 0: its place changes, and no other.
use Rattle.std.proofs.Common.{rules, ◌≡◌, to_z-of_z, SFits}
use Rattle.std.specs.Int.{w128}
use Rattle.dcx_links.specs.Cells.{cell_at}
use Rattle.dcx_links.proofs.Numbers.{at_within}
use Rattle.dcx_links.proofs.Stores.{cell_read}
use Rattle.dcx_links.proofs.Changes.{now_at, changed, changed_there, changed_same}
use Rattle.dcx_links.proofs.write.change_at.Goals as goal

pub returns-clause-here : goal.returns-clause-here
returns-clause-here c =
    let o = c.args.store.now in
    let lt = at_within o.cells.items c.args.at c.requires.here.number in
    let e : c.index_mut.result.now ≡ cell_at o.cells.items c.args.at = cell_read o.cells.items c.args.at c.index_mut.result.now lt c.index_mut.ensures.value in
    let f : SFits w128 c.args.value = search rules in
    let whole = now_at o.cells.items o.row_heads.items o.column_heads.items o.free c.requires.sound c.args.at c.args.row c.args.column c.requires.here c.args.value
    c.requires.number c.args.at c.args.row c.args.column c.requires.here in
    rw e (simp to_z-of_z whole)

pub returns-clause-sound : goal.returns-clause-sound
returns-clause-sound c =
    let o = c.args.store.now in
    let lt = at_within o.cells.items c.args.at c.requires.here.number in
    let e : c.index_mut.result.now ≡ cell_at o.cells.items c.args.at = cell_read o.cells.items c.args.at c.index_mut.result.now lt c.index_mut.ensures.value in
    let f : SFits w128 c.args.value = search rules in
    let whole = changed o.cells.items o.row_heads.items o.column_heads.items o.free c.requires.sound c.args.at c.args.row c.args.column c.requires.here c.args.value c.requires.number in
    rw e (simp to_z-of_z whole)

pub returns-clause-there : goal.returns-clause-there
returns-clause-there c =
    let o = c.args.store.now in
    let lt = at_within o.cells.items c.args.at c.requires.here.number in
    let e : c.index_mut.result.now ≡ cell_at o.cells.items c.args.at = cell_read o.cells.items c.args.at c.index_mut.result.now lt c.index_mut.ensures.value in
    let f : SFits w128 c.args.value = search rules in
    let whole = changed_there o.cells.items o.row_heads.items o.column_heads.items o.free c.requires.sound c.args.at c.args.row c.args.column c.requires.here c.args.value c.requires.number in
    rw e (simp to_z-of_z whole)

pub returns-clause-same : goal.returns-clause-same
returns-clause-same c =
    let o = c.args.store.now in
    let lt = at_within o.cells.items c.args.at c.requires.here.number in
    let e : c.index_mut.result.now ≡ cell_at o.cells.items c.args.at = cell_read o.cells.items c.args.at c.index_mut.result.now lt c.index_mut.ensures.value in
    let f : SFits w128 c.args.value = search rules in
    let whole = changed_same o.cells.items o.row_heads.items o.column_heads.items o.free c.requires.sound c.args.at c.args.row c.args.column c.requires.here c.args.value c.requires.number in
    λ r d n. rw e (simp to_z-of_z (whole r d n))
