-- What was passed over is another word.
use Rattle.std.proofs.Common.{◌≡◌, drop}
use Rattle.std.specs.List.{list_any}
use Rattle.dcx_point.specs.Pairs.{same_name}
use Rattle.dcx_signature.specs.View.{words}
use Rattle.dcx_signature.proofs.matching.was_given.Given as goal

abbrev pub invariant-loop-known : goal.invariant-loop-known
invariant-loop-known l = list_any (same_name l.word) (words (drop l.known-index l.before)) ≡ list_any (same_name l.word) (words l.before)
