-- How far each function may still go, and what each loop has read.
use Rattle.std.proofs.Common.{◌≤◌, length}
use Rattle.dcx_read.specs.Lines.{BalancedTo}
use Rattle.dcx_read.proofs.statement.behind_plain.Given as goal

abbrev pub invariant-more : goal.invariant-more
invariant-more l = BalancedTo l.fn.text l.fn.tokens l.rest × (length l.rest ≤ length l.fn.tokens)

abbrev pub decreases-more : goal.decreases-more
decreases-more l = length l.rest
