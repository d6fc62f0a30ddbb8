-- The words so far stand before what the rest is.
use Rattle.std.proofs.Common.{string_bytes}
use Rattle.dcx_words.proofs.Taking.{StandBefore}
use Rattle.dcx_words.proofs.operands.without_option.Given as goal

abbrev pub invariant-loop-index : goal.invariant-loop-index
invariant-loop-index l = StandBefore string_bytes l.words l.index
