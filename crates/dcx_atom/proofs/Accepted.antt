-- Steps without a stop: the weights are accepted, so the slopes bound the sum of coefficients times values.
use Rattle.std.proofs.Common.{◌≡◌, ℕ, zero, suc, ◌<◌, arith, Bool, true, false, List, [], ◌∷◌, ◌++◌, map, length, All, refl, sym, ap, ◌∙◌, subst, Option, Some, None, Result, Ok, Err}
use Rattle.std.proofs.lemmas.List.Elements.{All-cons, All-nil}
use Rattle.std.proofs.Common.{⊎_elim}
use Rattle.dcx_math.specs.Rational.{ℚ, ◌*ℚ◌, ◌≤ℚ◌}
use Rattle.dcx_math.specs.Sums.{IsNonnegative, rat_sum_below}
use Rattle.dcx_math.proofs.Ratios.{IsTrue-rat_le, IsTrue-rat_eq}
use Rattle.dcx_math.proofs.Sums.{rat_sum_below-same}
use Rattle.dcx_frac.specs.declared.fraction.Frac.{Frac}
use Rattle.dcx_frac.specs.declared.fraction.Passes.{Passes}
use Rattle.dcx_shape.specs.declared.shape.Sides.{Sides}
use Rattle.dcx_shape.specs.Sides.{entries_of}
use Rattle.dcx_atom.specs.declared.stops.SlopeStop.{SlopeStop}
use Rattle.dcx_atom.specs.Arrays.{Entries, number_at, list_below, sides_at}
use Rattle.dcx_atom.specs.Formed.{formed, exact}
use Rattle.dcx_atom.specs.Meaning.{Meaning, Coefficients, Weights, Relation, at_most, equal, at_least, Condition, Relates, IsMet}
use Rattle.dcx_atom.specs.Steps.{Step, test, form, relates, is_met, is_weight, condition_stop, step_stop, earlier, first_stop, weights_stop, entry_stop, weights_of, slope_at, AreSlopesOf}
use Rattle.dcx_atom.specs.Laws.{AreAccepted, HasSubgradients}
use Rattle.dcx_atom.proofs.BoundRows.{below_or_last}
use Rattle.dcx_atom.proofs.FirstStops.{first_stop-append, weights_stop-append}

-- where the earlier of two stops is none, neither is one
pub earlier-none : (s t : Option SlopeStop) → earlier s t ≡ None → (s ≡ None) × (t ≡ None)
earlier-none (Some stop) t e = cc
earlier-none None t e = (refl, e)

-- a test that is true says its relation
related : (r : Relation) (x y : ℚ) → relates r x y ≡ true → Relates r x y
related at_most x y e = (IsTrue-rat_le x y).0 e
related equal x y e = (IsTrue-rat_eq x y).0 e
related at_least x y e = (IsTrue-rat_le y x).0 e

-- a condition without a stop is met
kept : (j : ℕ) (met : Bool) (left right : Result Frac Passes) → condition_stop j met left right ≡ None → met ≡ true
kept j met (Err passes) right e = cc
kept j met (Ok x) (Err passes) e = cc
kept j true (Ok x) (Ok y) e = refl
kept j false (Ok x) (Ok y) e = cc

met_of : (j : ℕ) (k : Condition) → step_stop j (test k) ≡ None → IsMet k
met_of j k e = related k.relation (exact k.left) (exact k.right) (kept j (is_met k) (formed k.left) (formed k.right) e)

-- conditions without a stop are met
pub all_met : (j : ℕ) (ks : List Condition) → first_stop j (map test ks) ≡ None → All IsMet ks
all_met j [] e = All-nil IsMet
all_met j (k ∷ ks) e = let p = earlier-none _ _ e in All-cons IsMet k ks (met_of j k p.0) (all_met j ks p.1)

-- weights without a stop are at least 0
pub all_weights : (j n : ℕ) (w : ℕ → ℚ) → weights_stop j (list_below n w) ≡ None → (r : ℕ) → r < n → IsNonnegative (w r)
all_weights j zero w e r h = absurd (omega arith)
all_weights j (suc n) w e r h =
    let p = earlier-none _ _ (sym (weights_stop-append j (list_below n w) (w n ∷ [])) ∙ e) in
    ⊎_elim (λ l. all_weights j n w p.0 r l) (λ s. subst (λ i. IsNonnegative (w i)) (sym s) (met_of j (is_weight (w n)) (earlier-none _ None p.1).0)) (below_or_last r n h)

-- weights whose steps don't stop are accepted
pub accepted_of : (m : Meaning) (args : List Sides) (size : ℕ) (c : Coefficients) (w : Weights) → ((j : ℕ) → j < size → entry_stop m args c w j ≡ None) →
    AreAccepted m args size c w
accepted_of m args size c w none = record {
  weights = λ j r h k. all_weights j (length (m.rows args j)) (w j) (parts j h).0 r k;
  conditions = λ j h. all_met j (m.conditions args c w j) (parts j h).1;
}
  where
    tests : ℕ → List Step
    tests j = map (λ x. test (is_weight x)) (list_below (length (m.rows args j)) (w j))

    parts : (j : ℕ) → j < size → (first_stop j (tests j) ≡ None) × (first_stop j (map test (m.conditions args c w j)) ≡ None)
    parts j h =
        let p = earlier-none _ _ (sym (first_stop-append j (tests j ++ map test (m.conditions args c w j))
        (map (λ x. form (m.slope args w x.argument x.entry)) (m.slope_entries args j))) ∙ none j h) in
        earlier-none _ _ (sym (first_stop-append j (tests j) (map test (m.conditions args c w j))) ∙ p.0)

-- slopes that the code answers bound the sum of coefficients times values from below, at all arguments
pub slopes-bound : (m : Meaning) → HasSubgradients m → (args : List Sides) (sides : Sides) → m.shape args ≡ Some sides → (cs ws gs : List Frac) →
    AreSlopesOf m args (entries_of sides) cs ws gs → (a : Entries) →
    rat_sum_below (length args) (λ i. rat_sum_below (entries_of (sides_at args i)) (λ e. slope_at args gs i e *ℚ a i e)) ≤ℚ
    rat_sum_below (entries_of sides) (λ j. number_at cs j *ℚ m.value args a j)
slopes-bound m law args sides is cs ws gs slopes a =
    let w = weights_of m args ws in
    subst (λ x. x ≤ℚ rat_sum_below (entries_of sides) (λ j. number_at cs j *ℚ m.value args a j))
    (rat_sum_below-same (length args) _ _ (λ i h. rat_sum_below-same (entries_of (sides_at args i)) _ _ (λ e k. ap (λ x. x *ℚ a i e) (sym (slopes.slopes i e h k)))))
    (law args sides is (number_at cs) w (accepted_of m args (entries_of sides) (number_at cs) w slopes.no_stop) a)
