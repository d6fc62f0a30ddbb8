-- What was passed over isn't given for x.
use Rattle.std.proofs.Common.{◌≡◌, map, drop}
use Rattle.dcx_signature.specs.Arguments.{bound_of, sides_of_x}
use Rattle.dcx_signature.specs.View.{assignment_seen}
use Rattle.dcx_signature.proofs.matching.shape_of_x.Given as goal

abbrev pub invariant-loop-argument : goal.invariant-loop-argument
invariant-loop-argument l = sides_of_x l.tree (bound_of (map assignment_seen (drop l.argument-index l.matches))) ≡ sides_of_x l.tree (bound_of (map assignment_seen l.matches))
