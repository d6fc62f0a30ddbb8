-- A sum names no other unknowns.
use Rattle.dcx_linear.proofs.Narrow.{sum_narrow}
use Rattle.dcx_part_cases.proofs.programs.rows.sum.Goals as goal

pub returns : goal.returns
returns c =
    sum_narrow c.args.count c.args.left.now c.args.right.now c.in_ok-add.field-0 c.in_ok-add.ensures c.requires.left c.requires.right
