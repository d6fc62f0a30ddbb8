-- One more digit makes the number ten times as large and adds its own worth.
use Rattle.std.proofs.Common.{arith}
use Rattle.dcx_lines.proofs.Worth.{worth_more}
use Rattle.dcx_lines.proofs.numbers.worth.Goals as goal

pub loop-digit-preserved : goal.loop-digit-preserved
loop-digit-preserved c = omega (arith, worth_more c.args.digits.now c.loop-digit.digit-index (omega arith))
