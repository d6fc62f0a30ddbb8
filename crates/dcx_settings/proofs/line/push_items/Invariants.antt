-- The items so far, their names, and that tokens were read.
use Rattle.std.proofs.Common.{◌<◌, length}
use Rattle.dcx_settings.specs.Terminal.{terminals}
use Rattle.dcx_settings.specs.Steps.{AreItemsRead}
use Rattle.dcx_settings.proofs.line.push_items.Given as goal

abbrev pub invariant-items : goal.invariant-items
invariant-items l = AreItemsRead l.names (terminals l.fn.text l.fn.tokens) l.found.items (terminals l.fn.text l.rest) × (length l.rest < length l.fn.tokens)

abbrev pub decreases-items : goal.decreases-items
decreases-items l = length l.rest
