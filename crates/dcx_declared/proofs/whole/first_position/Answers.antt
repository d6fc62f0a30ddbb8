-- One more variable isn't whole, or it is the first that is.
use Rattle.std.proofs.Common.{below_more}
use Rattle.dcx_declared.proofs.Marked.{not_whole}
use Rattle.dcx_declared.proofs.whole.first_position.Goals as goal

pub loop-k-preserved : goal.loop-k-preserved
loop-k-preserved c = below_more _ _ c.loop-k.invariant (not_whole _ _ c.is_whole.result c.is_whole.ensures c.if-is_whole.false)

pub returns-then-is_whole : goal.returns-then-is_whole
returns-then-is_whole c = record { is = c.is_whole.ensures.0 c.if-is_whole.true; before = c.loop-k.invariant }
