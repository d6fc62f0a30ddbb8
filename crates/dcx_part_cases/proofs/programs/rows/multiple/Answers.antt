-- A multiple of an unknown below the count.
use Rattle.dcx_linear.proofs.Narrow.{unknown_narrow, multiple_narrow}
use Rattle.dcx_part_cases.proofs.programs.rows.multiple.Goals as goal

pub returns : goal.returns
returns c =
    multiple_narrow c.args.count c.args.coefficient c.in_ok-one.one c.in_ok-scale.field-0 c.in_ok-scale.ensures
    (unknown_narrow c.args.count c.args.unknown c.in_ok-one.one c.requires c.in_ok-one.ensures)
