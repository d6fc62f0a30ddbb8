-- How far each function may still go, and what each loop has read.
use Rattle.std.proofs.Common.{◌≤◌, length}
use Rattle.dcx_read.specs.Lines.{BalancedTo, LacksPlain}
use Rattle.dcx_read.proofs.statement.+balanced.Given as goal

abbrev pub invariant-more : goal.invariant-more
invariant-more l = BalancedTo l.fn.text l.fn.tokens l.rest × (LacksPlain l.rest × (length l.rest ≤ length l.fn.tokens))

abbrev pub decreases-more : goal.decreases-more
decreases-more l = length l.rest

abbrev pub decreases-balanced : goal.decreases-balanced
decreases-balanced l = length l.tokens.now
