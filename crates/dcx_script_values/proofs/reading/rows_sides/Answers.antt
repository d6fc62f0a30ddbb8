-- Of more rows than a side may be long there is no array.
use Rattle.std.proofs.Common.{map, arith}
use Rattle.std.proofs.lemmas.List.{length-map}
use Rattle.dcx_script_values.specs.Meant.{meant}
use Rattle.dcx_script_values.proofs.Rows.{many_rows}
use Rattle.dcx_script_values.proofs.reading.rows_sides.Goals as goal

pub returns-in_err-count-clause-none : goal.returns-in_err-count-clause-none
returns-in_err-count-clause-none c =
    rw c.from_residual.ensures (many_rows (map meant c.args.values.now) (omega (arith, length-map c.args.values.now meant, c.in_err-count.ensures)))
