-- What was matched, and then what is left.
use Rattle.std.proofs.Common.{◌≡◌, ◌++◌, length, map}
use Rattle.std.specs.Vec.Iter.{into_iter_items}
use Rattle.dcx_signature.specs.Arguments.{matched, matched_from}
use Rattle.dcx_signature.specs.View.{row_seen, words, given_seen, assignment_seen}
use Rattle.dcx_signature.proofs.matching.matches_of.Given as goal

abbrev pub invariant-loop-argument : goal.invariant-loop-argument
invariant-loop-argument l =
    map assignment_seen l.matches.items ++ matched_from (row_seen l.row) (length l.matches.items) l.named (words l.before.items) (map given_seen (into_iter_items l.argument-iterator))
    ≡ matched (row_seen l.row) (map given_seen l.fn.given.items)
