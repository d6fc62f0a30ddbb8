-- At 0 a number is there where a cell is, and none where there is none.
use Rattle.std.proofs.Common.{rules, ◌≡◌, ◌∙◌, sym, ap, pos, to_z, to_z-of_z, SFits}
use Rattle.std.specs.Int.{w128}
use Rattle.dcx_links.specs.Cells.{IsAt}
use Rattle.dcx_links.proofs.Numbers.{none_there, number_none}
use Rattle.dcx_links.proofs.write.put_at.Goals as goal

pub take_out-requires-clause-there : goal.take_out-requires-clause-there
take_out-requires-clause-there c = λ e.
    let s = c.args.store.now in
    let link = c.args.in_row.link in
    let at : IsAt s.cells.items link c.args.row c.args.column = rw c.deref.ensures.value at (c.is_there.ensures.yes c.if-is_there.true) in
    none_there s.cells.items c.requires.sound.one_cell c.args.row c.args.column e link at

pub returns-then-value-eq0-2-clause-there : goal.returns-then-value-eq0-2-clause-there
returns-then-value-eq0-2-clause-there c =
    let s = c.args.store.now in
    let empty = rw c.deref.ensures.value at (c.is_there.ensures.no c.if-is_there.false) in
    let f : SFits w128 c.args.value = search rules in
    let e : c.args.value ≡ pos 0 = sym (to_z-of_z f) ∙ ap (to_z w128) c.if-value-eq0-2.true in
    number_none s.cells.items c.args.row c.args.column empty ∙ sym e

pub is_there-requires-clause-apart : goal.is_there-requires-clause-apart
is_there-requires-clause-apart c = rw c.deref.ensures.value c.requires.sound.one_cell

pub put_in-requires-clause-empty : goal.put_in-requires-clause-empty
put_in-requires-clause-empty c = search rules

pub change_at-requires-clause-here : goal.change_at-requires-clause-here
change_at-requires-clause-here c = search rules
