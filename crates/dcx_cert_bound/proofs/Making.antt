-- The bound checks, while they are made.
use Rattle.std.proofs.Common.{◌≡◌, inl, inr, Bool, false, ℕ, List, [], Option, Some, None, IsSome, Result, Ok, Err, refl, sym, ◌∙◌, subst}
use Rattle.std.proofs.lemmas.Bool.{true≢false}
use Rattle.dcx_frac.specs.declared.fraction.Frac.{Frac}
use Rattle.dcx_atom.specs.declared.array.Array.{Array}
use Rattle.dcx_point.specs.Pairs.{Pairs}
use Rattle.dcx_convex.specs.Certificates.{is_fixed}
use Rattle.dcx_tree.specs.declared.problem.Problem.{Problem}
use Rattle.dcx_tree.specs.Meaning.{convex_problem}
use Rattle.dcx_tree.specs.Values.{array_at}
use Rattle.dcx_cert_collect.specs.declared.stop.CollectStop.{CollectStop}
use Rattle.dcx_cert_collect.specs.Pass.{Kept, HaveFractions}
use Rattle.dcx_cert_sections.specs.declared.weights.NodeWeights.{NodeWeights}
use Rattle.dcx_answer.specs.declared.cert_fault.CertFault.{CertFault}
use Rattle.dcx_cert_sections.specs.Checks.{Checked, in_turn}
use Rattle.dcx_cert_values.specs.Forming.{forming_fixed}
use Rattle.dcx_cert_values.specs.Tables.{AreKeptValues, AreKeptFixed, AreOnlyFixed}
use Rattle.dcx_cert_bound.specs.Fixed.{HasValue, AreFixedValues}
use Rattle.dcx_cert_bound.specs.Collecting.{IsFaultOrMemory}
use Rattle.dcx_cert_bound.specs.Variables.{variables_check}
use Rattle.dcx_cert_bound.specs.Checks.{total_check, shown_by, shown_with, bound_checks}
use Rattle.dcx_cert_bound.proofs.Stepping.{Fails}

module _ (p : Problem) (values : List (Option Array)) (weights : ℕ → List Frac) (stated : Frac) (told : Result Kept CollectStop) where
  -- what is collected is checked
  pub collected_told : (kept : Kept) → told ≡ Ok kept → HaveFractions p.tree values weights → (r : Result (Unit {0}) CertFault) →
      Checked (in_turn (variables_check p kept.reached) (total_check stated kept.total)) r → Checked (shown_by p values weights stated told) r
  collected_told kept e fractions r h = subst (λ t. Checked (shown_by p values weights stated t) r) (sym e) (by r h)
    where
      by : (r : Result (Unit {0}) CertFault) → Checked (in_turn (variables_check p kept.reached) (total_check stated kept.total)) r → Checked (shown_by p values weights stated (Ok kept)) r
      by (Ok x) h = (fractions, h)
      by (Err f) (inl memory) = inl memory
      by (Err f) (inr n) = inr (inr (fractions, n))

  -- or there is a stop
  pub stop_told : (f : CertFault) → IsFaultOrMemory told f → Fails (shown_by p values weights stated told) f
  stop_told f (inl memory) = inl memory
  stop_told f (inr (stop, is, e)) = inr (subst (λ t. (shown_by p values weights stated t).fails f) (sym is) e)

module _ (p : Problem) (setting : Pairs) (duals : List Array) (weights : List NodeWeights) (with_objective : Bool) (stated : Frac) where
  -- with the values that are formed
  pub bound_told : (values : List (Option Array)) → (forming_fixed p setting).passes → AreFixedValues p setting values → (r : Result (Unit {0}) CertFault) →
      Checked (shown_with p duals weights with_objective stated values) r → Checked (bound_checks p setting duals weights with_objective stated) r
  bound_told values formed are (Ok x) h = (formed, (values, are, h))
  bound_told values formed are (Err f) (inl memory) = inl memory
  bound_told values formed are (Err f) (inr n) = inr (inr (formed, (values, are, n)))

  pub unformed_told : (f : CertFault) → Fails (forming_fixed p setting) f → Fails (bound_checks p setting duals weights with_objective stated) f
  unformed_told f (inl memory) = inl memory
  unformed_told f (inr n) = inr (inl n)

-- ---- the values that are formed
pub fixed_are : (p : Problem) (setting : Pairs) (values : List (Option Array)) → AreKeptValues p setting [] values → AreKeptFixed p values → AreOnlyFixed p values → AreFixedValues p setting values
fixed_are p setting values h kept only = record {
  count = h.sized;
  fixed = λ i lt e. one i (array_at values i) refl (kept i lt e);
  others = λ i lt e. none i e (array_at values i) refl;
}
  where
    one : (i : ℕ) (o : Option Array) → array_at values i ≡ o → IsSome o → HasValue p setting values i
    one i None at s = absurd (true≢false (sym s))
    one i (Some x) at s = record { array = x; there = at; is_value = h.values i x at }

    none : (i : ℕ) → is_fixed (convex_problem p).nodes i ≡ false → (o : Option Array) → array_at values i ≡ o → array_at values i ≡ None
    none i e None at = at
    none i e (Some x) at = absurd (true≢false (sym (only i (subst IsSome (sym at) refl)) ∙ e))

-- the same multipliers and weights
pub shown_same : (p : Problem) (duals others : List Array) (weights more : List NodeWeights) (with_objective : Bool) (stated : Frac) (values : List (Option Array)) (r : Result (Unit {0}) CertFault)
    → duals ≡ others → weights ≡ more
    → Checked (shown_with p duals weights with_objective stated values) r → Checked (shown_with p others more with_objective stated values) r
shown_same p duals others weights more with_objective stated values r d w h =
    subst (λ ws. Checked (shown_with p others ws with_objective stated values) r) w (subst (λ ds. Checked (shown_with p ds weights with_objective stated values) r) d h)
