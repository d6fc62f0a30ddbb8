-- The names of a module as the code has them are those of the definition: both are written out.
use Rattle.std.proofs.Common.{◌≡◌, subst, sym}
use Rattle.dcx_signature.specs.Table.{function_named}
use Rattle.dcx_signature.proofs.table.function_named.Goals as goal

pub returns-in-Cvxpy : goal.returns-in-Cvxpy
returns-in-Cvxpy c = subst (λ m. c.found.result ≡ function_named m c.args.name.now) (sym c.in-Cvxpy.is) c.found.ensures
