-- A constant names no unknown.
use Rattle.dcx_linear.proofs.Narrow.{constant_narrow}
use Rattle.dcx_part_cases.proofs.programs.rows.constant.Goals as goal

pub returns : goal.returns
returns c = constant_narrow c.args.count c.args.x c.number.result c.number.ensures
