-- The spot's link leads to the number, or the place has none.
use Rattle.std.proofs.Common.{rules, ◌≡◌, sym, ap, ◌∙◌, to_z-of_z, SFits}
use Rattle.std.specs.Int.{w128}
use Rattle.dcx_links.specs.declared.store.Cell.{Cell}
use Rattle.dcx_links.specs.Cells.{cell_at}
use Rattle.dcx_links.proofs.Numbers.{number_none}
use Rattle.dcx_links.proofs.Stores.{cell_read, empty_none, empty_other, link_within, number_found}
use Rattle.dcx_links.proofs.number.number_at_spot.Goals as goal

pub returns-then-spot-eq-NONE : goal.returns-then-spot-eq-NONE
returns-then-spot-eq-NONE c =
    let s = c.args.store.now in
    sym (number_none s.cells.items c.args.row c.args.column (empty_none s.cells.items s.row_heads.items s.column_heads.items s.free c.requires.sound c.args.row c.args.column _ _ _
    c.requires.spot c.if-spot-eq-NONE.true))

pub returns-then-cell-column : goal.returns-then-cell-column
returns-then-cell-column c =
    let s = c.args.store.now in
    let p = c.requires.spot in
    let lt = link_within s.cells.items s.row_heads.items s.column_heads.items s.free c.requires.sound c.args.row c.args.column _ _ _ p c.if-spot-eq-NONE.false in
    let e : c.index-cell.result.now ≡ cell_at s.cells.items c.args.spot.link = cell_read s.cells.items c.args.spot.link c.index-cell.result.now lt c.index-cell.ensures in
    let f : SFits w128 c.index-cell.result.now.value = search rules in
    let g : (cell_at s.cells.items c.args.spot.link).column ≡ c.args.column = ap (λ (x : Cell). x.column) (sym e) ∙ c.if-cell-column.true in
    simp to_z-of_z (ap (λ (x : Cell). x.value) e ∙ number_found s.cells.items s.row_heads.items s.column_heads.items s.free c.requires.sound c.args.row c.args.column _ _ _ p c.if-spot-eq-NONE.false g)

pub returns-else-cell-column : goal.returns-else-cell-column
returns-else-cell-column c =
    let s = c.args.store.now in
    let p = c.requires.spot in
    let lt = link_within s.cells.items s.row_heads.items s.column_heads.items s.free c.requires.sound c.args.row c.args.column _ _ _ p c.if-spot-eq-NONE.false in
    let e : c.index-cell.result.now ≡ cell_at s.cells.items c.args.spot.link = cell_read s.cells.items c.args.spot.link c.index-cell.result.now lt c.index-cell.ensures in
    sym (number_none s.cells.items c.args.row c.args.column (empty_other s.cells.items s.row_heads.items s.column_heads.items s.free c.requires.sound c.args.row c.args.column _ _ _
    p c.if-spot-eq-NONE.false (λ g. c.if-cell-column.false (ap (λ (x : Cell). x.column) e ∙ g))))
