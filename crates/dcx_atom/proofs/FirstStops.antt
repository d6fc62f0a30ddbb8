-- The first stop of steps that follow one another, and tests of fractions.
use Rattle.std.proofs.Common.{◌≡◌, ◌⊎◌, inl, inr, ℕ, ◌+◌, ◌<◌, Bool, true, false, List, [], ◌∷◌, ◌++◌, map, length}
use Rattle.std.proofs.Common.{get_or, take, drop, refl, sym, ap, ◌∙◌, subst, Option, Some, None, pos, if◌then◌else◌}
use Rattle.std.proofs.lemmas.List.{map-append, take-append-drop, take_more}
use Rattle.dcx_math.specs.Rational.{ℚ, whole, rat_le, ◌≤ℚ◌, ◌<ℚ◌}
use Rattle.dcx_math.proofs.Orders.{<ℚ-not, ≤ℚ-or-<ℚ}
use Rattle.dcx_frac.specs.declared.fraction.Frac.{Frac}
use Rattle.dcx_frac.specs.Frac.{value}
use Rattle.dcx_atom.specs.declared.stops.SlopeStop.{SlopeStop}
use Rattle.dcx_atom.specs.declared.stops.SlopeStop.TheVariants.{Refused}
use Rattle.dcx_atom.specs.Formed.{zero_frac}
use Rattle.dcx_atom.specs.Steps.{Step, test, is_weight, step_stop, earlier, first_stop, weights_stop}
use Rattle.dcx_atom.proofs.FormedSums.{frac_at-value, frac_at-zero, zero_frac-unique}

-- the test is false where the left number is greater
pub rat_le-greater : {x y : ℚ} → y <ℚ x → rat_le x y ≡ false
rat_le-greater {x} {y} h = by (rat_le x y) refl
  where
    by : (b : Bool) → rat_le x y ≡ b → rat_le x y ≡ false
    by true e = absurd (<ℚ-not h (record { le = rw e tt }))
    by false e = e

-- and true where it isn't
pub rat_le-not_greater : {x y : ℚ} → ¬ (y <ℚ x) → rat_le x y ≡ true
rat_le-not_greater {x} {y} f = by (rat_le x y) refl (≤ℚ-or-<ℚ x y)
  where
    by : (b : Bool) → rat_le x y ≡ b → (x ≤ℚ y) ⊎ (y <ℚ x) → rat_le x y ≡ true
    by true e h = e
    by false e (inl h) = absurd (rw e at h.le)
    by false e (inr h) = absurd (f h)

-- the steps of one list and then of another
pub first_stop-append : (j : ℕ) (xs ys : List Step) → first_stop j (xs ++ ys) ≡ earlier (first_stop j xs) (first_stop j ys)
first_stop-append j [] ys = refl
first_stop-append j (x ∷ xs) ys = by (step_stop j x) (first_stop-append j xs ys)
  where
    by : (s : Option SlopeStop) → first_stop j (xs ++ ys) ≡ earlier (first_stop j xs) (first_stop j ys) →
        earlier s (first_stop j (xs ++ ys)) ≡ earlier (earlier s (first_stop j xs)) (first_stop j ys)
    by (Some stop) e = refl
    by None e = e

-- steps after a stop change nothing
pub first_stop-stopped : (j : ℕ) (xs ys : List Step) (stop : SlopeStop) → first_stop j xs ≡ Some stop → first_stop j (xs ++ ys) ≡ Some stop
first_stop-stopped j xs ys stop e = first_stop-append j xs ys ∙ ap (λ s. earlier s (first_stop j ys)) e

-- steps after steps that don't stop
pub first_stop-passed : (j : ℕ) (xs ys : List Step) → first_stop j xs ≡ None → first_stop j (xs ++ ys) ≡ first_stop j ys
first_stop-passed j xs ys e = first_stop-append j xs ys ∙ ap (λ s. earlier s (first_stop j ys)) e

-- the same of weights
pub weights_stop-append : (j : ℕ) (xs ys : List ℚ) → weights_stop j (xs ++ ys) ≡ earlier (weights_stop j xs) (weights_stop j ys)
weights_stop-append j xs ys = ap (first_stop j) (map-append (λ w. test (is_weight w)) xs ys) ∙ first_stop-append j (map (λ w. test (is_weight w)) xs) (map (λ w. test (is_weight w)) ys)

-- one weight, which is compared with the fraction 0
weight_tested : (j : ℕ) (w : Frac) (b : Bool) → rat_le (whole (pos 0)) (value w) ≡ b → weights_stop j (value w ∷ []) ≡ earlier (if b then None else Some (Refused j w zero_frac)) None
weight_tested j w b e = rw (frac_at-value w, frac_at-zero, e) refl

-- one that is at least 0
pub weight-kept : (j : ℕ) (w zero : Frac) → value zero ≡ whole (pos 0) → rat_le (value zero) (value w) ≡ true → weights_stop j (value w ∷ []) ≡ None
weight-kept j w zero z e = weight_tested j w true (subst (λ x. rat_le x (value w) ≡ true) z e)

-- and one that isn't
pub weight-refused : (j : ℕ) (w zero : Frac) → value zero ≡ whole (pos 0) → rat_le (value zero) (value w) ≡ false → weights_stop j (value w ∷ []) ≡ Some (Refused j w zero)
weight-refused j w zero z e =
    weight_tested j w false (subst (λ x. rat_le x (value w) ≡ false) z e) ∙ ap (λ x. Some (Refused j w x)) (sym (zero_frac-unique zero z))

-- the first so many weights of a list, and the next one
pub weights_stop-next : (j : ℕ) (ws : List Frac) (i : ℕ) (d : Frac) → i < length ws → weights_stop j (map value (take i ws)) ≡ None →
    weights_stop j (map value (take (i + 1) ws)) ≡ weights_stop j (value (get_or ws i d) ∷ [])
weights_stop-next j ws i d h e =
    ap (λ xs. weights_stop j (map value xs)) (take_more ws i d h)
    ∙ ap (weights_stop j) (map-append value (take i ws) (get_or ws i d ∷ []))
    ∙ weights_stop-append j (map value (take i ws)) (value (get_or ws i d) ∷ [])
    ∙ ap (λ s. earlier s (weights_stop j (value (get_or ws i d) ∷ []))) e

-- a stop within the first so many is that of the whole list
pub weights_stop-within : (j : ℕ) (ws : List Frac) (i : ℕ) (stop : SlopeStop) → weights_stop j (map value (take i ws)) ≡ Some stop → weights_stop j (map value ws) ≡ Some stop
weights_stop-within j ws i stop e =
    ap (λ xs. weights_stop j (map value xs)) (sym (take-append-drop i ws))
    ∙ ap (weights_stop j) (map-append value (take i ws) (drop i ws))
    ∙ weights_stop-append j (map value (take i ws)) (map value (drop i ws))
    ∙ ap (λ s. earlier s (weights_stop j (map value (drop i ws)))) e
