-- A range has as many items as it counts.
use Rattle.std.proofs.Common.{sym}
use Rattle.dcx_signature.proofs.Ranges.{range_items-length}
use Rattle.dcx_signature.proofs.turns.Through.count.Goals as goal

pub returns-in-Range : goal.returns-in-Range
returns-in-Range c =
    let r = c.in-Range.range.value in
    rw (c.in-Range.is, c.deref-in-Range.ensures) (sym (range_items-length r.first r.step r.count))
