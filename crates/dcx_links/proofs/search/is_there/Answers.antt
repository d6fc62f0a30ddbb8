-- Where the spot's link leads nowhere no cell stands at the place.
use Rattle.std.proofs.Common.{arith}
use Rattle.dcx_links.specs.Cells.{InRow, bound_in_row}
use Rattle.dcx_links.proofs.Lines.{nothing_from}
use Rattle.dcx_links.proofs.Numbers.{at_within}
use Rattle.dcx_links.proofs.search.is_there.Goals as goal

pub returns-then-in_row-eq-NONE-clause-no : goal.returns-then-in_row-eq-NONE-clause-no
returns-then-in_row-eq-NONE-clause-no c = λ _ i at.
    let p = c.requires.in_row in
    let z = nothing_from (InRow c.args.cells.now) c.args.row (bound_in_row c.args.cells.now c.args.in_row.from) c.args.column c.args.in_row.link p.next p.within
    (λ k m q h. let y = at_within c.args.cells.now k h.number in omega (arith, y, c.requires.few)) c.if-in_row-eq-NONE.true i c.args.column at in
    let w = p.within in
    omega (arith, z, w)
