-- What was passed over has another name.
use Rattle.std.proofs.Common.{◌≡◌, map, drop}
use Rattle.std.specs.Prelude.{find}
use Rattle.dcx_signature.specs.Arguments.{is_named}
use Rattle.dcx_signature.specs.View.{param_seen}
use Rattle.dcx_signature.proofs.matching.of_word.Given as goal

abbrev pub invariant-loop-param : goal.invariant-loop-param
invariant-loop-param l = find (is_named l.word) (map param_seen (drop l.param-index l.row.params.now)) ≡ find (is_named l.word) (map param_seen l.row.params.now)
