-- A table without values keeps what holds of kept values, at any setting and point.
use Rattle.std.proofs.Common.{arith}
use Rattle.dcx_cert_values.proofs.Keeping.{values_none}
use Rattle.dcx_cert_values.proofs.table.Values.new.Goals as goal

pub returns-clause-none : goal.returns-clause-none
returns-clause-none c = c.loop-i.invariant.none

pub returns-clause-values : goal.returns-clause-values
returns-clause-values c = λ setting point. values_none c.args.problem.now setting point c.loop-i.arrays.items (omega (arith, c.loop-i.invariant.count, c.loop-i-test.false)) c.loop-i.invariant.none
