-- The text has the characters exactly where what is left of it has those that are left.
use Rattle.std.proofs.Common.{◌≡◌, drop, nat_eq}
use Rattle.std.specs.Cmp.Lexicographic.{pointwise}
use Rattle.dcx_tokens.proofs.word.is_word.Given as goal

abbrev pub invariant-loop-b : goal.invariant-loop-b
invariant-loop-b l = pointwise nat_eq l.rest (drop l.b-index l.b-items) ≡ pointwise nat_eq l.chars l.b-items
