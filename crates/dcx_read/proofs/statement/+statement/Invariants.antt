-- How far each function may still go, and what each loop has read.
use Rattle.std.proofs.Common.{◌+◌, ◌*◌, ◌≤◌, length, map}
use Rattle.dcx_read.specs.Terminals.{terminals}
use Rattle.dcx_syntax.specs.View.{chained, line_view, then_line}
use Rattle.dcx_read.proofs.LineDescent.{LinesTo}
use Rattle.dcx_read.proofs.statement.+statement.Given as goal

abbrev pub decreases-block : goal.decreases-block
decreases-block l = length l.tokens.now * 4 + 0

abbrev pub decreases-body : goal.decreases-body
decreases-body l = length l.tokens.now * 4 + 3

abbrev pub decreases-line : goal.decreases-line
decreases-line l = length l.tokens.now * 4 + 1

abbrev pub decreases-lines : goal.decreases-lines
decreases-lines l = length l.tokens.now * 4 + 2

abbrev pub invariant-lines-more : goal.invariant-lines-more
invariant-lines-more l = LinesTo (terminals l.fn.text l.fn.tokens) (terminals l.fn.text l.rest) (chained (map then_line (map line_view l.all.items))) × (length l.rest ≤ length l.fn.tokens)

abbrev pub decreases-lines-more : goal.decreases-lines-more
decreases-lines-more l = length l.rest
