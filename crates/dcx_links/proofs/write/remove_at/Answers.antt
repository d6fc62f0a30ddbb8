-- The spot leads to the cell of the place, which leaves both lines and is free.
use Rattle.std.proofs.Common.{arith, ap, ◌∙◌, length}
use Rattle.dcx_links.proofs.Inserts.{length_head, length_row, length_column}
use Rattle.dcx_links.proofs.Removes.{spot_within, removal}
use Rattle.dcx_links.proofs.write.remove_at.Goals as goal

pub index-cell-requires : goal.index-cell-requires
index-cell-requires c =
    let o = c.args.store.now in
    let lt = spot_within o c.requires.sound c.args.row c.args.column c.requires.there c.args.in_row.from c.args.in_row.link c.requires.in_row in
    let l = o.cells.ok.0 in
    omega (arith, lt, l)

pub index_mut-requires : goal.index_mut-requires
index_mut-requires c =
    let o = c.args.store.now in
    let lt = spot_within o c.requires.sound c.args.row c.args.column c.requires.there c.args.in_row.from c.args.in_row.link c.requires.in_row in
    let l = c.link_column.new.cells.ok.0 in
    let x = c.index-cell.result.now in
    let n = ap length c.link_column.ensures.cells ∙ length_column c.link_row.new.cells.items c.args.in_column.from x.next_in_column ∙ ap length c.link_row.ensures.cells
    ∙ length_row o.cells.items c.args.in_row.from x.next_in_row in
    omega (arith, lt, l, n)

pub returns-clause-free : goal.returns-clause-free
returns-clause-free c = λ e.
    let o = c.args.store.now in
    let lt = spot_within o c.requires.sound c.args.row c.args.column c.requires.there c.args.in_row.from c.args.in_row.link c.requires.in_row in
    let few = c.requires.sound.few in
    omega (arith, lt, few, e)

pub returns-clause-rows : goal.returns-clause-rows
returns-clause-rows c = ap length c.link_row.ensures.heads ∙ length_head c.args.store.now.row_heads.items c.args.row c.args.in_row.from c.index-cell.result.now.next_in_row

pub returns-clause-columns : goal.returns-clause-columns
returns-clause-columns c = ap length c.link_column.ensures.heads ∙ length_head c.args.store.now.column_heads.items c.args.column c.args.in_column.from c.index-cell.result.now.next_in_column

pub returns-clause-sound : goal.returns-clause-sound
returns-clause-sound c =
    let o = c.args.store.now in
    let a = c.args.in_row in
    let b = c.args.in_column in
    let w = removal o c.requires.sound c.args.row c.args.column c.requires.there a.from a.link c.requires.in_row c.requires.row c.requires.column c.requires.row_link b.from b.link
    c.requires.in_column c.requires.column_link c.index-cell.result.now c.index-cell.ensures in
    rw (c.link_column.ensures.cells, c.link_column.ensures.heads, c.link_row.ensures.cells, c.link_row.ensures.heads) w.sound

pub returns-clause-there : goal.returns-clause-there
returns-clause-there c =
    let o = c.args.store.now in
    let a = c.args.in_row in
    let b = c.args.in_column in
    let w = removal o c.requires.sound c.args.row c.args.column c.requires.there a.from a.link c.requires.in_row c.requires.row c.requires.column c.requires.row_link b.from b.link
    c.requires.in_column c.requires.column_link c.index-cell.result.now c.index-cell.ensures in
    rw (c.link_column.ensures.cells, c.link_row.ensures.cells) w.there

pub returns-clause-same : goal.returns-clause-same
returns-clause-same c = λ r d n.
    let o = c.args.store.now in
    let a = c.args.in_row in
    let b = c.args.in_column in
    let w = removal o c.requires.sound c.args.row c.args.column c.requires.there a.from a.link c.requires.in_row c.requires.row c.requires.column c.requires.row_link b.from b.link
    c.requires.in_column c.requires.column_link c.index-cell.result.now c.index-cell.ensures in
    rw (c.link_column.ensures.cells, c.link_row.ensures.cells) (w.same r d n)

pub returns-clause-kept : goal.returns-clause-kept
returns-clause-kept c = λ i r d at n.
    let o = c.args.store.now in
    let a = c.args.in_row in
    let b = c.args.in_column in
    let w = removal o c.requires.sound c.args.row c.args.column c.requires.there a.from a.link c.requires.in_row c.requires.row c.requires.column c.requires.row_link b.from b.link
    c.requires.in_column c.requires.column_link c.index-cell.result.now c.index-cell.ensures in
    rw (c.link_column.ensures.cells, c.link_row.ensures.cells) (w.kept i r d at n)
