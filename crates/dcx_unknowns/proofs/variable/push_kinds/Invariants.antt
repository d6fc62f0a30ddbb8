-- The kinds of the variables so far are added.
use Rattle.std.proofs.Common.{◌≡◌, ◌++◌, take}
use Rattle.dcx_unknowns.specs.Unknowns.{variable_kinds}
use Rattle.dcx_unknowns.proofs.variable.push_kinds.Given as goal

abbrev pub invariant-variables : goal.invariant-variables
invariant-variables l = l.kinds.items ≡ l.fn.kinds.items ++ variable_kinds (take l.variable-index l.variables)
