-- The count that is tested is that of both lists, and too many are told.
use Rattle.std.proofs.Common.{arith}
use Rattle.dcx_script_values.proofs.Limits.{joined-over}
use Rattle.dcx_script_values.proofs.items.joined.Goals as goal

pub returns-then-count-gt-MOST_ITEMS : goal.returns-then-count-gt-MOST_ITEMS
returns-then-count-gt-MOST_ITEMS c = λ s. rw (c.too_many.ensures, c.count.ensures.told, c.count-2.ensures.told, c.deref.ensures)
    (joined-over c.args.place c.args.first.value c.args.second.now s (rw (← c.deref.ensures) (omega (arith, c.if-count-gt-MOST_ITEMS.true, c.count.ensures.told, c.count-2.ensures.told))))
