-- The numbers so far, and that tokens were read.
use Rattle.std.proofs.Common.{◌<◌, length}
use Rattle.dcx_settings.specs.Terminal.{terminals}
use Rattle.dcx_settings.specs.Steps.{IsRowBegun}
use Rattle.dcx_settings.proofs.value.push_numbers.Given as goal

abbrev pub invariant-numbers : goal.invariant-numbers
invariant-numbers l = IsRowBegun l.fn.width (terminals l.fn.text l.fn.tokens) l.found.items (terminals l.fn.text l.rest) × (length l.rest < length l.fn.tokens)

abbrev pub decreases-numbers : goal.decreases-numbers
decreases-numbers l = length l.rest
