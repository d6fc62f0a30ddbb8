-- The constraints so far hold, what is kept are values, and those below the constraints so far are.
use Rattle.std.proofs.Common.{◌≡◌, ℕ, ◌<◌, [], ◌∷◌, Some}
use Rattle.std.specs.List.{slice_get}
use Rattle.dcx_tree.specs.declared.constraint.Constraint.{Constraint}
use Rattle.dcx_cert_values.specs.Tables.{AreKeptValues, AreKeptBelow}
use Rattle.dcx_cert_check.specs.SingleChecks.{constraint_holds}
use Rattle.dcx_cert_check.proofs.Steps.{PassBelow, at_place}
use Rattle.dcx_cert_check.proofs.constraints.check_constraints.Given as goal

abbrev pub invariant-constraints : goal.invariant-constraints
invariant-constraints l = PassBelow (at_place l.problem.constraints (constraint_holds l.problem l.setting l.point)) l.k × AreKeptValues l.problem l.setting l.point l.values
    × ((j : ℕ) (c : Constraint) → j < l.k → slice_get l.problem.constraints j ≡ Some c → AreKeptBelow l.problem (c.left.0 ∷ c.right.0 ∷ []) l.values)
