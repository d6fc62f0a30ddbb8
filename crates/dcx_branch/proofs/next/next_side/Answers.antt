-- A side that is an upper one has nothing open beside it; a lower one has its upper side.
use Rattle.std.proofs.Common.{◌-◌, length, take, sym, ap, ◌∙◌}
use Rattle.dcx_branch.proofs.Lists.{some_left, popped_open, turned_open}
use Rattle.dcx_branch.proofs.next.next_side.Goals as goal

pub sides-preserved : goal.sides-preserved
sides-preserved c =
    let xs = c.sides.sides.items in
    let n = c.len-last.result - 1 in
    let count = some_left c.sides.sides.len (length xs) c.len-last.result c.is_empty.result c.sides.sides.ok.0 c.is_empty.ensures c.sides-test.true c.len-last.ensures in
    let rest = c.pop.ensures.rest ∙ ap (λ m. take (m - 1) xs) (sym c.len-last.ensures) in
    λ box. c.sides.invariant box ∙ popped_open xs c.pop.new.self.items n c.index.result.now count c.index.ensures c.if-side.true rest box

pub returns-else-side : goal.returns-else-side
returns-else-side c =
    let xs = c.sides.sides.items in
    let n = c.len-last.result - 1 in
    let count = some_left c.sides.sides.len (length xs) c.len-last.result c.is_empty.result c.sides.sides.ok.0 c.is_empty.ensures c.sides-test.true c.len-last.ensures in
    λ box. c.sides.invariant box ∙ turned_open xs n c.index.result.now c.upper_of.result count c.index.ensures c.if-side.false c.upper_of.ensures box
