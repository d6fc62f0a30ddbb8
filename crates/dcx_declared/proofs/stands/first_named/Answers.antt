-- One more node doesn't declare the name, or it is the first that does.
use Rattle.std.proofs.Common.{below_more}
use Rattle.dcx_declared.proofs.Standing.{not_named_at}
use Rattle.dcx_declared.proofs.stands.first_named.Goals as goal

pub loop-i-preserved : goal.loop-i-preserved
loop-i-preserved c = below_more _ _ c.loop-i.invariant (not_named_at _ _ _ c.is_named.result c.is_named.ensures c.if-is_named.false)

pub returns-then-is_named : goal.returns-then-is_named
returns-then-is_named c = record { is = c.is_named.ensures.0 c.if-is_named.true; before = c.loop-i.invariant }
