-- What was given so far, and then what is left.
use Rattle.std.proofs.Common.{◌≡◌, ◌++◌, map}
use Rattle.std.specs.Vec.Iter.{into_iter_items}
use Rattle.dcx_signature.specs.Arguments.{bound_of}
use Rattle.dcx_signature.specs.Seen.{argument_seen}
use Rattle.dcx_signature.specs.View.{assignment_seen}
use Rattle.dcx_signature.proofs.matching.bound_of.Given as goal

abbrev pub invariant-loop-argument : goal.invariant-loop-argument
invariant-loop-argument l =
    map argument_seen l.arguments.items ++ bound_of (map assignment_seen (into_iter_items l.argument-iterator)) ≡ bound_of (map assignment_seen l.fn.matches.items)
