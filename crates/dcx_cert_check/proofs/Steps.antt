-- Checks one after the other, and the demands of which they are made.
use Rattle.std.proofs.Common.{◌≡◌, ◌≢◌, ◌⊎◌, inl, inr, ℕ, ◌<◌, ◌≤◌, List, length, Option, Some, None, refl, sym, ◌∙◌, subst, arith}
use Rattle.std.specs.List.{slice_get}
use Rattle.std.proofs.lemmas.Option.{slice_get_within}
use Rattle.dcx_point.specs.Pairs.{Pairs}
use Rattle.dcx_tree.specs.declared.problem.Problem.{Problem}
use Rattle.dcx_answer.specs.declared.stop.Stop.{Stop}
use Rattle.dcx_answer.specs.declared.stop.Stop.TheVariants as stops
use Rattle.dcx_fit.specs.Fit.{IsFirstMisfit}
use Rattle.dcx_answer.specs.declared.cert_fault.CertFault.{CertFault}
use Rattle.dcx_answer.specs.declared.cert_fault.CertFault.TheVariants.{Fit, Memory}
use Rattle.dcx_cert_sections.specs.Checks.{Check, each_below}
use Rattle.dcx_cert_sections.specs.Laws.{IsSettled}
use Rattle.dcx_cert_sections.proofs.Settled.{settled_together}
use Rattle.dcx_cert_check.specs.Demands.{demand, check_if, each_in}
use Rattle.dcx_cert_check.specs.SingleChecks.{parameters_fit}

-- ---- each tells one thing
-- a demand
pub demand_settled : (met : Type 0) (fault : CertFault) → IsSettled (demand met fault)
demand_settled met fault = record { apart = λ f p e. e.0 p; one = λ f g e h. e.1 ∙ sym h.1 }

-- an item, where there is one
if_settled : {X : Type 0} (check : X → Check) → ((x : X) → IsSettled (check x)) → (o : Option X) → IsSettled (check_if check o)
if_settled check settled None = settled_together.none
if_settled check settled (Some x) = settled x

-- each item of a list
pub in_settled : {X : Type 0} (xs : List X) (check : ℕ → X → Check) → ((k : ℕ) (x : X) → IsSettled (check k x)) → IsSettled (each_in xs check)
in_settled xs check settled = settled_together.many (length xs) (λ k. check_if (check k) (slice_get xs k)) (λ k. if_settled (check k) (settled k) (slice_get xs k))

-- ---- the checks so far
-- the checks before this one pass
abbrev pub PassBelow : (ℕ → Check) → ℕ → Type 0
PassBelow check n = (k : ℕ) → k < n → (check k).passes

module _ (check : ℕ → Check) where
  -- all of them
  pub all_passed : (count n : ℕ) → count ≤ n → PassBelow check n → (each_below count check).passes
  all_passed count n le below k lt = below k (omega (arith, le, lt))

module _ {X : Type 0} (xs : List X) (check : ℕ → X → Check) where
  -- the check at a place
  abbrev pub at_place : ℕ → Check
  at_place k = check_if (check k) (slice_get xs k)

  pub at_passes : (k : ℕ) (x : X) → slice_get xs k ≡ Some x → (check k x).passes → (at_place k).passes
  at_passes k x at p = subst (λ o. (check_if (check k) o).passes) (sym at) p

  pub at_fails : (k : ℕ) (x : X) (f : CertFault) → slice_get xs k ≡ Some x → (f ≡ Memory) ⊎ (check k x).fails f → (f ≡ Memory) ⊎ (at_place k).fails f
  at_fails k x f at e = subst (λ o. (f ≡ Memory) ⊎ (check_if (check k) o).fails f) (sym at) e

  -- what passes at each item
  pub passed_at : (each_in xs check).passes → (k : ℕ) (x : X) → slice_get xs k ≡ Some x → (check k x).passes
  passed_at p k x at = subst (λ o. (check_if (check k) o).passes) at (p k (slice_get_within xs k x at))

  pub passed_each : ((k : ℕ) (x : X) → slice_get xs k ≡ Some x → (check k x).passes) → (each_in xs check).passes
  passed_each h k lt = by (slice_get xs k) refl
    where
      by : (o : Option X) → slice_get xs k ≡ o → (check_if (check k) o).passes
      by None e = tt
      by (Some x) e = h k x e

-- ---- the stop of a setting is its fault
pub misfit : (p : Problem) (setting : Pairs) (stop : Stop) (f : CertFault) → IsFirstMisfit p.parameters setting stop →
    ((stop ≡ stops.Memory) × (f ≡ Memory)) ⊎ ((stop ≢ stops.Memory) × (f ≡ Fit stop)) → (f ≡ Memory) ⊎ (parameters_fit p setting).fails f
misfit p setting stop f first (inl e) = inl e.1
misfit p setting stop f first (inr h) = inr (record { stop = stop; first = first; is_stop = h.0; told = h.1 })
