-- The cell that is made has no number, and is the first free one.
use Rattle.std.proofs.Common.{arith, rules, ◌≡◌, ◌<◌, length, pos, refl, sym}
use Rattle.dcx_links.specs.declared.store.Cell.{Cell}
use Rattle.dcx_links.specs.Lines.{none}
use Rattle.dcx_links.proofs.Empty.{pushed, number_push}
use Rattle.dcx_links.proofs.reserve.make_free.Goals as goal

pub returns-then-at-capacity-clause-sound : goal.returns-then-at-capacity-clause-sound
returns-then-at-capacity-clause-sound c =
    let o = c.args.store.now in
    let x : Cell = record { value = pos 0; row = 0; column = 0; next_in_row = none; next_in_column = none } in
    let l : c.len-at.result ≡ length o.cells.items = search rules in
    let lt = c.if-at-capacity.true in
    let k = o.few in
    let r = c.capacity.ensures in
    let few : length o.cells.items < none = omega (arith, l, lt, k, r) in
    rw (c.push_reserved.ensures.items, l) (pushed o.cells.items o.row_heads.items o.column_heads.items o.free c.requires.sound x refl (sym c.if-store.false) few)

pub returns-then-at-capacity-clause-same : goal.returns-then-at-capacity-clause-same
returns-then-at-capacity-clause-same c = λ r d. rw c.push_reserved.ensures.items (number_push c.args.store.now.cells.items
    (record { value = pos 0; row = 0; column = 0; next_in_row = none; next_in_column = none }) refl r d)
