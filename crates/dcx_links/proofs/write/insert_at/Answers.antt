-- Where a place is empty a cell is free: linked behind both spots it has the number there, and no other place changes.
use Rattle.std.proofs.Common.{arith, rules, ap, ◌∙◌, to_z-of_z, SFits, length}
use Rattle.std.specs.Int.{w128}
use Rattle.dcx_links.proofs.Inserts.{length_head, free_in, insertion}
use Rattle.dcx_links.proofs.write.insert_at.Goals as goal

pub index-requires : goal.index-requires
index-requires c =
    let o = c.args.store.now in
    let z = free_in o c.requires.sound c.requires.ready c.args.row c.args.column c.requires.row c.requires.column c.requires.empty in
    let l = o.cells.ok.0 in
    omega (arith, z, l)

pub index_mut-requires : goal.index_mut-requires
index_mut-requires c =
    let o = c.args.store.now in
    let z = free_in o c.requires.sound c.requires.ready c.args.row c.args.column c.requires.row c.requires.column c.requires.empty in
    let l = o.cells.ok.0 in
    omega (arith, z, l)

pub returns-clause-here : goal.returns-clause-here
returns-clause-here c =
    let o = c.args.store.now in
    let a = c.args.in_row in
    let b = c.args.in_column in
    let f : SFits w128 c.args.value = search rules in
    let w = insertion o c.requires.sound c.requires.ready c.args.row c.args.column c.requires.row c.requires.column c.requires.empty c.args.value c.requires.number a.from a.link
    c.requires.in_row c.requires.row_link b.from b.link c.requires.in_column c.requires.column_link c.index.result.now c.index.ensures in
    rw (c.link_column.ensures.cells, c.link_row.ensures.cells) (simp to_z-of_z w.here)

pub returns-clause-sound : goal.returns-clause-sound
returns-clause-sound c =
    let o = c.args.store.now in
    let a = c.args.in_row in
    let b = c.args.in_column in
    let f : SFits w128 c.args.value = search rules in
    let w = insertion o c.requires.sound c.requires.ready c.args.row c.args.column c.requires.row c.requires.column c.requires.empty c.args.value c.requires.number a.from a.link
    c.requires.in_row c.requires.row_link b.from b.link c.requires.in_column c.requires.column_link c.index.result.now c.index.ensures in
    rw (c.link_column.ensures.cells, c.link_column.ensures.heads, c.link_row.ensures.cells, c.link_row.ensures.heads) (simp to_z-of_z w.sound)

pub returns-clause-there : goal.returns-clause-there
returns-clause-there c =
    let o = c.args.store.now in
    let a = c.args.in_row in
    let b = c.args.in_column in
    let f : SFits w128 c.args.value = search rules in
    let w = insertion o c.requires.sound c.requires.ready c.args.row c.args.column c.requires.row c.requires.column c.requires.empty c.args.value c.requires.number a.from a.link
    c.requires.in_row c.requires.row_link b.from b.link c.requires.in_column c.requires.column_link c.index.result.now c.index.ensures in
    rw (c.link_column.ensures.cells, c.link_row.ensures.cells) (simp to_z-of_z w.there)

pub returns-clause-same : goal.returns-clause-same
returns-clause-same c = λ r d n.
    let o = c.args.store.now in
    let a = c.args.in_row in
    let b = c.args.in_column in
    let f : SFits w128 c.args.value = search rules in
    let w = insertion o c.requires.sound c.requires.ready c.args.row c.args.column c.requires.row c.requires.column c.requires.empty c.args.value c.requires.number a.from a.link
    c.requires.in_row c.requires.row_link b.from b.link c.requires.in_column c.requires.column_link c.index.result.now c.index.ensures in
    rw (c.link_column.ensures.cells, c.link_row.ensures.cells) (simp to_z-of_z (w.same r d n))

pub returns-clause-rows : goal.returns-clause-rows
returns-clause-rows c = ap length c.link_row.ensures.heads ∙ length_head c.args.store.now.row_heads.items c.args.row c.args.in_row.from c.args.store.now.free

pub returns-clause-columns : goal.returns-clause-columns
returns-clause-columns c = ap length c.link_column.ensures.heads ∙ length_head c.args.store.now.column_heads.items c.args.column c.args.in_column.from c.args.store.now.free
