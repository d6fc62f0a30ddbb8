-- The bound checks of a certificate: what its multipliers and weights show.
use Rattle.std.specs.Prelude.{◌≡◌, ℕ, Bool, List, Option, Result, Ok, Err}
use Rattle.dcx_math.specs.Rational.{◌≤ℚ◌, ◌<ℚ◌}
use Rattle.dcx_frac.specs.declared.fraction.Frac.{Frac}
use Rattle.dcx_frac.specs.Frac.{value}
use Rattle.dcx_atom.specs.declared.array.Array.{Array}
use Rattle.dcx_point.specs.Pairs.{Pairs}
use Rattle.dcx_tree.specs.declared.problem.Problem.{Problem}
use Rattle.dcx_cert_collect.specs.declared.stop.CollectStop.{CollectStop}
use Rattle.dcx_cert_collect.specs.Pass.{Kept, HaveFractions}
use Rattle.dcx_cert_sections.specs.declared.weights.NodeWeights.{NodeWeights}
use Rattle.dcx_answer.specs.declared.cert_fault.CertFault.TheVariants as faults
use Rattle.dcx_cert_sections.specs.Checks.{Check, in_turn}
use Rattle.dcx_cert_values.specs.Forming.{forming_fixed}
use Rattle.dcx_cert_bound.specs.Refusal.{refused}
use Rattle.dcx_cert_bound.specs.Fixed.{AreFixedValues}
use Rattle.dcx_cert_bound.specs.Weights.{weights_at}
use Rattle.dcx_cert_bound.specs.Collecting.{collected, fault_of}
use Rattle.dcx_cert_bound.specs.Variables.{variables_check}

-- the total is at least what is stated
abbrev pub total_check : (stated total : Frac) → Check
total_check stated total = record { passes = value stated ≤ℚ value total; fails = λ f. (value total <ℚ value stated) × (f ≡ faults.Bound stated total) }

-- the slopes that the weights give are fractions of 128 bits: where they are all formed, they can't fail
abbrev pub slopes_check : Problem → List (Option Array) → (ℕ → List Frac) → Check
slopes_check p values weights = record { passes = HaveFractions p.tree values weights; fails = λ f. ⊥ }

-- all is collected, what reaches the variables may, and the total is at least what is stated
abbrev pub shown_by : Problem → List (Option Array) → (ℕ → List Frac) → (stated : Frac) → Result Kept CollectStop → Check
shown_by p values weights stated (Ok kept) = in_turn (slopes_check p values weights) (in_turn (variables_check p kept.reached) (total_check stated kept.total))
shown_by p values weights stated (Err stop) = refused (fault_of stop)

-- the same, where these are the values of the nodes without a variable below them
abbrev pub shown_with : Problem → (duals : List Array) → List NodeWeights → (with_objective : Bool) → (stated : Frac) → List (Option Array) → Check
shown_with p duals weights with_objective stated values = shown_by p values (weights_at weights) stated (collected p values duals (weights_at weights) with_objective)

-- a check with those values
abbrev pub with_fixed : Problem → Pairs → (List (Option Array) → Check) → Check
with_fixed p setting check = record {
  passes = (values : List (Option Array)) × AreFixedValues p setting values × (check values).passes;
  fails = λ f. (values : List (Option Array)) × AreFixedValues p setting values × (check values).fails f;
}

-- the values of the nodes without a variable below them are formed; with them all is collected, what reaches the variables may, and
-- the total is at least what is stated
abbrev pub bound_checks : Problem → Pairs → (duals : List Array) → List NodeWeights → (with_objective : Bool) → (stated : Frac) → Check
bound_checks p setting duals weights with_objective stated = in_turn (forming_fixed p setting) (with_fixed p setting (shown_with p duals weights with_objective stated))
