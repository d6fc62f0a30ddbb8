-- What reaches the variables so far may.
use Rattle.std.proofs.Common.{ℕ, ◌<◌}
use Rattle.std.specs.Prelude.{slice_get}
use Rattle.dcx_cert_bound.specs.Variables.{variable_check}
use Rattle.dcx_cert_bound.proofs.variables.check_variables.Given as goal

abbrev pub invariant-loop-k : goal.invariant-loop-k
invariant-loop-k l = (m : ℕ) → m < l.k → (variable_check l.problem.tree l.reached m (slice_get l.problem.variables m)).passes
