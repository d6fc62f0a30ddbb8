-- Columns that solve the program stand for unknowns that solve the rows.
use Rattle.dcx_std.proofs.Solutions.{solution_of}
use Rattle.dcx_std.proofs.laws.solutions_carry_over.Goals as goal

pub returns : goal.returns
returns c = λ rows q zs known scaled solution. solution_of rows q known scaled zs solution
