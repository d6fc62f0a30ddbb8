-- The rows so far, and that tokens were read.
use Rattle.std.proofs.Common.{◌<◌, length}
use Rattle.dcx_settings.specs.Terminal.{terminals}
use Rattle.dcx_settings.specs.Steps.{AreRowsRead}
use Rattle.dcx_settings.proofs.value.rows.Given as goal

abbrev pub invariant-rows : goal.invariant-rows
invariant-rows l = AreRowsRead l.width l.count (terminals l.fn.text l.fn.tokens) l.numbers.items (terminals l.fn.text l.rest) × (length l.rest < length l.fn.tokens)

abbrev pub decreases-rows : goal.decreases-rows
decreases-rows l = length l.rest
