-- The bound checks tell one thing.
use Rattle.std.proofs.Common.{◌≡◌, ℕ, Bool, true, false, List, Option, Some, None, Result, Ok, Err, sym, ◌∙◌, subst}
use Rattle.std.specs.List.{slice_get}
use Rattle.dcx_math.specs.Rational.{ℚ}
use Rattle.dcx_math.proofs.Orders.{<ℚ-not}
use Rattle.dcx_frac.specs.declared.fraction.Frac.{Frac}
use Rattle.dcx_frac.specs.declared.fraction.Passes.{Passes}
use Rattle.dcx_frac.specs.Frac.{value}
use Rattle.dcx_shape.specs.declared.shape.Sides.{Sides}
use Rattle.dcx_shape.specs.Sides.{entries_of}
use Rattle.dcx_atom.specs.declared.array.Array.{Array}
use Rattle.dcx_point.specs.Pairs.{Pairs}
use Rattle.dcx_call.specs.declared.attribute.Attribute.{Attribute}
use Rattle.dcx_call.specs.declared.attribute.Attribute.TheVariants.{Free, Nonneg, Nonpos, Symmetric, Diag}
use Rattle.dcx_call.specs.declared.attribute.Variable.{Variable}
use Rattle.dcx_tree.specs.declared.problem.Problem.{Problem}
use Rattle.dcx_tree.specs.Nodes.{Node}
use Rattle.dcx_unknowns.specs.Own.{is_own}
use Rattle.dcx_unknowns.specs.Unknowns.{demanded, sides_in}
use Rattle.dcx_cert_collect.specs.declared.collected.Reached.{Reached}
use Rattle.dcx_cert_collect.specs.declared.stop.CollectStop.{CollectStop}
use Rattle.dcx_cert_collect.specs.Pass.{Kept}
use Rattle.dcx_answer.specs.declared.cert_fault.CertFault.{CertFault}
use Rattle.dcx_answer.specs.declared.cert_fault.CertFault.TheVariants as faults
use Rattle.dcx_cert_sections.specs.Checks.{Check}
use Rattle.dcx_cert_sections.specs.Laws.{IsSettled}
use Rattle.dcx_cert_sections.proofs.Settled.{settled_together, two, many}
use Rattle.dcx_cert_values.specs.Forming.{forming_fixed}
use Rattle.dcx_cert_bound.specs.Refusal.{refused}
use Rattle.dcx_cert_bound.specs.Weights.{weights_at}
use Rattle.dcx_cert_bound.specs.Collecting.{collected, fault_of}
use Rattle.dcx_cert_bound.specs.Variables.{reaching, reaching_entry, MayReachEntry, MayNotReachEntry, number_check, asked, entry_check, variable_check}
use Rattle.dcx_cert_bound.specs.Checks.{total_check, slopes_check, shown_by, shown_with, with_fixed}
use Rattle.dcx_cert_bound.specs.Laws.{BoundsAreSettled}
use Rattle.dcx_cert_bound.proofs.OneTable.{one_table}

refused_settled : (fault : CertFault) → IsSettled (refused fault)
refused_settled fault = record { apart = λ f p e. p; one = λ f g e h. e ∙ sym h }

-- ---- what reaches a variable
-- what may doesn't not
pub clash : (a : Attribute) (x : ℚ) → MayReachEntry a x → MayNotReachEntry a x → ⊥
clash Free x p n = n p
clash Nonneg x p n = <ℚ-not n p
clash Nonpos x p n = <ℚ-not n p
clash Symmetric x p n = n p
clash Diag x p n = n p

number_settled : (a : Attribute) (k e : ℕ) (r : Result Frac Passes) → IsSettled (number_check a k e r)
number_settled a k e (Ok x) = record { apart = λ f p n. clash a (value x) p n.0; one = λ f g n m. n.1 ∙ sym m.1 }
number_settled a k e (Err passes) = refused_settled (faults.Wide passes)

asked_settled : (b : Bool) (check : Check) → IsSettled check → IsSettled (asked b check)
asked_settled true check s = s
asked_settled false check s = settled_together.none

entry_settled : (a : Attribute) (sides : Sides) (cs : List Frac) (k e : ℕ) → IsSettled (entry_check a sides cs k e)
entry_settled a sides cs k e = asked_settled (is_own a sides e) (number_check a k e (reaching_entry a sides cs e)) (number_settled a k e (reaching_entry a sides cs e))

variable_settled : (nodes : List Node) (reached : List Reached) (k : ℕ) (o : Option Variable) → IsSettled (variable_check nodes reached k o)
variable_settled nodes reached k None = settled_together.none
variable_settled nodes reached k (Some v) =
    many (entries_of (sides_in v)) (entry_check (demanded v) (sides_in v) (reaching nodes reached v.name) k) (entry_settled (demanded v) (sides_in v) (reaching nodes reached v.name) k)

-- ---- what is collected
total_settled : (stated total : Frac) → IsSettled (total_check stated total)
total_settled stated total = record { apart = λ f p n. <ℚ-not n.0 p; one = λ f g n m. n.1 ∙ sym m.1 }

slopes_settled : (p : Problem) (values : List (Option Array)) (weights : ℕ → List Frac) → IsSettled (slopes_check p values weights)
slopes_settled p values weights = record { apart = λ f h e. e; one = λ f g e h. absurd e }

shown_settled : (p : Problem) (values : List (Option Array)) (weights : ℕ → List Frac) (stated : Frac) (r : Result Kept CollectStop) → IsSettled (shown_by p values weights stated r)
shown_settled p values weights stated (Err stop) = refused_settled (fault_of stop)
shown_settled p values weights stated (Ok kept) =
    two _ _ (slopes_settled p values weights)
    (two _ _ (many _ _ (λ k. variable_settled p.tree kept.reached k (slice_get p.variables k))) (total_settled stated kept.total))

-- ---- with the values of the nodes
with_fixed_settled : (p : Problem) (setting : Pairs) (check : List (Option Array) → Check) → ((values : List (Option Array)) → IsSettled (check values)) → IsSettled (with_fixed p setting check)
with_fixed_settled p setting check each = record { apart = apart; one = one }
  where
    apart : (f : CertFault) → (with_fixed p setting check).passes → (with_fixed p setting check).fails f → ⊥
    apart f (v, a, h) (w, b, n) = (each v).apart f h (subst (λ u. (check u).fails f) (one_table p setting w v b a) n)

    one : (f g : CertFault) → (with_fixed p setting check).fails f → (with_fixed p setting check).fails g → f ≡ g
    one f g (v, a, n) (w, b, m) = (each v).one f g n (subst (λ u. (check u).fails g) (one_table p setting w v b a) m)

pub bounds_settled : ((p : Problem) (setting : Pairs) → IsSettled (forming_fixed p setting)) → BoundsAreSettled
bounds_settled forming p setting duals weights with_objective stated =
    two _ _ (forming p setting)
    (with_fixed_settled p setting (shown_with p duals weights with_objective stated)
    (λ values. shown_settled p values (weights_at weights) stated (collected p values duals (weights_at weights) with_objective)))
