-- What was passed over isn't of this word.
use Rattle.std.proofs.Common.{◌≡◌, map, drop}
use Rattle.dcx_signature.specs.Arguments.{given_for}
use Rattle.dcx_signature.specs.Seen.{argument_seen}
use Rattle.dcx_signature.proofs.matching.given_for.Given as goal

abbrev pub invariant-loop-argument : goal.invariant-loop-argument
invariant-loop-argument l = given_for l.word (map argument_seen (drop l.argument-index l.arguments)) ≡ given_for l.word (map argument_seen l.arguments)
