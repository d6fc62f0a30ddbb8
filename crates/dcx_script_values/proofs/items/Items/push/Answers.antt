-- The count that is tested is that of the definition: too many are told, and else the item comes.
use Rattle.std.proofs.Common.{arith}
use Rattle.dcx_script_values.specs.Meant.{meant}
use Rattle.dcx_script_values.proofs.Limits.{room-over, room-within}
use Rattle.dcx_script_values.proofs.items.Items.push.Goals as goal

pub returns-then-count-gt-MOST_ITEMS-clause-gives : goal.returns-then-count-gt-MOST_ITEMS-clause-gives
returns-then-count-gt-MOST_ITEMS-clause-gives c = λ s. rw (c.too_many.ensures, c.count.ensures.told, c.counted.ensures.told)
    (room-over c.args.place c.args.self.now (meant c.args.value) s (omega (arith, c.if-depth-ge-MOST_DEPTH.false, c.depth.ensures.told))
    (omega (arith, c.if-count-gt-MOST_ITEMS.true, c.count.ensures.told, c.counted.ensures.told)))

pub returns-clause-gives : goal.returns-clause-gives
returns-clause-gives c = λ s. rw c.in_ok-append.ensures.added
    (room-within c.args.place c.args.self.now (meant c.args.value) s (omega (arith, c.if-depth-ge-MOST_DEPTH.false, c.depth.ensures.told))
    (omega (arith, c.if-count-gt-MOST_ITEMS.false, c.count.ensures.told, c.counted.ensures.told)))
