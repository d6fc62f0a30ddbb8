-- The last variables are found by their names.
use Rattle.std.proofs.Common.{◌≡◌, ℕ, ◌-◌, List, drop}
use Rattle.std.specs.HashMap.{get}
use Rattle.dcx_point.specs.Pairs.{same_name}
use Rattle.dcx_cert_bound.specs.Variables.{reaching, coefficients_in}
use Rattle.dcx_cert_bound.proofs.variables.places_of.Given as goal

abbrev pub invariant-loop-k : goal.invariant-loop-k
invariant-loop-k l = (name : List ℕ) → coefficients_in l.reached (get same_name l.places name) ≡ reaching l.tree (drop (l.count - l.k) l.reached) name
