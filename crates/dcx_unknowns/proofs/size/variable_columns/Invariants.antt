-- The columns of the variables so far.
use Rattle.std.proofs.Common.{◌≡◌, take, sum_by}
use Rattle.dcx_linear.specs.Size.{columns_for, capped}
use Rattle.dcx_unknowns.specs.Unknowns.{variable_kinds}
use Rattle.dcx_unknowns.proofs.size.variable_columns.Given as goal

abbrev pub invariant-variables : goal.invariant-variables
invariant-variables l = l.count ≡ capped (sum_by columns_for (variable_kinds (take l.variable-index l.variables)))
