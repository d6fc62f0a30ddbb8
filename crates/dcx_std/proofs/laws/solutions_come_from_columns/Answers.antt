-- Unknowns that solve the rows are those of columns that solve the program.
use Rattle.dcx_std.proofs.RowSolutions.{solution_from}
use Rattle.dcx_std.proofs.laws.solutions_come_from_columns.Goals as goal

pub returns : goal.returns
returns c = λ rows q x known scaled solves. solution_from rows q known scaled x solves
