-- The signs so far spell the tokens that are passed, and fewer are left with each.
use Rattle.std.proofs.Common.{◌≤◌, ◌≡◌, ◌++◌, ℕ, List, length}
use Rattle.dcx_read.specs.Terminals.{terminals}
use Rattle.dcx_syntax.specs.Expressions.{signs_text}
use Rattle.dcx_read.proofs.expression.signs.Given as goal

abbrev pub invariant-more : goal.invariant-more
invariant-more l = ((source : List ℕ) → terminals source l.fn.tokens ≡ signs_text l.all.items ++ terminals source l.rest) × (length l.rest ≤ length l.fn.tokens)

abbrev pub decreases-more : goal.decreases-more
decreases-more l = length l.rest
