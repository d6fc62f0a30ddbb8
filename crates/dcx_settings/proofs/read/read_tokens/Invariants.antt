-- The lines so far.
use Rattle.std.proofs.Common.{length}
use Rattle.dcx_settings.specs.Terminal.{terminals}
use Rattle.dcx_settings.specs.Steps.{AreLinesRead}
use Rattle.dcx_settings.proofs.read.read_tokens.Given as goal

abbrev pub invariant-lines : goal.invariant-lines
invariant-lines l = AreLinesRead (terminals l.fn.text l.fn.tokens) l.found.items (terminals l.fn.text l.rest)

abbrev pub decreases-lines : goal.decreases-lines
decreases-lines l = length l.rest
