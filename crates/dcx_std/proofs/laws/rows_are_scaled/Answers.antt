-- Each row of the program is a row of fractions times its factor.
use Rattle.dcx_std.proofs.ScaledProgram.{scaled_program}
use Rattle.dcx_std.proofs.laws.rows_are_scaled.Goals as goal

pub returns : goal.returns
returns c = λ rows q m. scaled_program rows q m
