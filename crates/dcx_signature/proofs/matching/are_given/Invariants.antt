-- What was passed over is given.
use Rattle.std.proofs.Common.{◌≡◌, map, drop}
use Rattle.std.specs.List.{list_all}
use Rattle.dcx_signature.specs.Arguments.{is_given}
use Rattle.dcx_signature.specs.View.{param_seen}
use Rattle.dcx_signature.proofs.matching.are_given.Given as goal

abbrev pub invariant-loop-param : goal.invariant-loop-param
invariant-loop-param l = list_all (is_given l.bound) (map param_seen (drop l.param-index l.row.params.now)) ≡ list_all (is_given l.bound) (map param_seen l.row.params.now)
