-- Where conditions are met, slopes stop at most at an operation that passes.
use Rattle.std.proofs.Common.{ℕ, zero, suc, ◌<◌, arith, Bool, true, false, IsTrue, List, [], ◌∷◌, ◌++◌, map, length, All, sym, subst, Option, Some, None, Result, Ok, Err}
use Rattle.std.proofs.lemmas.List.Elements.{All-head, All-tail}
use Rattle.dcx_math.specs.Rational.{ℚ}
use Rattle.dcx_math.specs.Sums.{IsNonnegative}
use Rattle.dcx_math.proofs.Ratios.{IsTrue-rat_le, IsTrue-rat_eq}
use Rattle.dcx_frac.specs.declared.fraction.Frac.{Frac}
use Rattle.dcx_frac.specs.declared.fraction.Passes.{Passes}
use Rattle.dcx_shape.specs.declared.shape.Sides.{Sides}
use Rattle.dcx_atom.specs.declared.stops.SlopeStop.{SlopeStop}
use Rattle.dcx_atom.specs.declared.stops.SlopeStop.TheVariants as stops
use Rattle.dcx_atom.specs.Arrays.{list_below}
use Rattle.dcx_atom.specs.Formed.{formed, exact}
use Rattle.dcx_atom.specs.Meaning.{Meaning, Coefficients, Weights, Relation, at_most, equal, at_least, Condition, Relates, IsMet, ArgumentEntry}
use Rattle.dcx_atom.specs.Steps.{Step, test, form, relates, is_met, is_weight, condition_stop, slope_stop, step_stop, earlier, first_stop, entry_stop}
use Rattle.dcx_atom.proofs.LinearSums.{All-list_below}
use Rattle.dcx_atom.proofs.FirstStops.{first_stop-append}
use Rattle.dcx_cert_collect.specs.Calls.{first_of_entries}

-- no stop, or an operation that passes
abbrev pub IsSoft : Option SlopeStop → Type 0
IsSoft None = Unit {0}
IsSoft (Some (stops.Refused entry stated found)) = ⊥
IsSoft (Some (stops.Passes passes)) = Unit {0}
IsSoft (Some stops.Memory) = ⊥

soft_earlier : (s t : Option SlopeStop) → IsSoft s → IsSoft t → IsSoft (earlier s t)
soft_earlier None t h k = k
soft_earlier (Some stop) t h k = h

-- a relation's test is true where it holds
related : (r : Relation) (x y : ℚ) → Relates r x y → IsTrue (relates r x y)
related at_most x y h = (IsTrue-rat_le x y).1 h
related equal x y h = (IsTrue-rat_eq x y).1 h
related at_least x y h = (IsTrue-rat_le y x).1 h

soft_condition : (j : ℕ) (met : Bool) (left right : Result Frac Passes) → IsTrue met → IsSoft (condition_stop j met left right)
soft_condition j met (Err passes) right h = tt
soft_condition j met (Ok x) (Err passes) h = tt
soft_condition j true (Ok x) (Ok y) h = tt
soft_condition j false (Ok x) (Ok y) h = cc

soft_test : (j : ℕ) (k : Condition) → IsMet k → IsSoft (step_stop j (test k))
soft_test j k h = soft_condition j (is_met k) (formed k.left) (formed k.right) (related k.relation (exact k.left) (exact k.right) h)

soft_slope : (r : Result Frac Passes) → IsSoft (slope_stop r)
soft_slope (Ok x) = tt
soft_slope (Err passes) = tt

soft_tests : (j : ℕ) (ks : List Condition) → All IsMet ks → IsSoft (first_stop j (map test ks))
soft_tests j [] h = tt
soft_tests j (k ∷ ks) h = soft_earlier (step_stop j (test k)) (first_stop j (map test ks)) (soft_test j k (All-head IsMet k ks h)) (soft_tests j ks (All-tail IsMet k ks h))

soft_weights : (j : ℕ) (ws : List ℚ) → All IsNonnegative ws → IsSoft (first_stop j (map (λ x. test (is_weight x)) ws))
soft_weights j [] h = tt
soft_weights j (w ∷ ws) h =
    soft_earlier (step_stop j (test (is_weight w))) (first_stop j (map (λ x. test (is_weight x)) ws)) (soft_test j (is_weight w) (All-head IsNonnegative w ws h))
    (soft_weights j ws (All-tail IsNonnegative w ws h))

soft_forms : (m : Meaning) (args : List Sides) (w : Weights) (j : ℕ) (xs : List ArgumentEntry) → IsSoft (first_stop j (map (λ x. form (m.slope args w x.argument x.entry)) xs))
soft_forms m args w j [] = tt
soft_forms m args w j (x ∷ xs) =
    soft_earlier (slope_stop (formed (m.slope args w x.argument x.entry))) (first_stop j (map (λ x. form (m.slope args w x.argument x.entry)) xs))
    (soft_slope (formed (m.slope args w x.argument x.entry))) (soft_forms m args w j xs)

soft_both : (j : ℕ) (xs ys : List Step) → IsSoft (first_stop j xs) → IsSoft (first_stop j ys) → IsSoft (first_stop j (xs ++ ys))
soft_both j xs ys h k = subst IsSoft (sym (first_stop-append j xs ys)) (soft_earlier (first_stop j xs) (first_stop j ys) h k)

-- of an entry whose weights are at least 0 and whose conditions are met
pub soft_entry : (m : Meaning) (args : List Sides) (c : Coefficients) (w : Weights) (j : ℕ) → ((r : ℕ) → r < length (m.rows args j) → IsNonnegative (w j r)) → All IsMet (m.conditions args c w j) →
    IsSoft (entry_stop m args c w j)
soft_entry m args c w j weights met =
    let ws = map (λ x. test (is_weight x)) (list_below (length (m.rows args j)) (w j)) in
    let ks = map test (m.conditions args c w j) in
    let fs = map (λ (x : ArgumentEntry). form (m.slope args w x.argument x.entry)) (m.slope_entries args j) in
    soft_both j (ws ++ ks) fs
    (soft_both j ws ks (soft_weights j (list_below (length (m.rows args j)) (w j)) (All-list_below IsNonnegative (length (m.rows args j)) (w j) weights)) (soft_tests j (m.conditions args c w j) met))
    (soft_forms m args w j (m.slope_entries args j))

-- of all entries
pub soft_entries : (n : ℕ) (f : ℕ → Option SlopeStop) → ((j : ℕ) → j < n → IsSoft (f j)) → IsSoft (first_of_entries n f)
soft_entries zero f h = tt
soft_entries (suc n) f h = soft_earlier (first_of_entries n f) (f n) (soft_entries n f (λ j b. h j (omega arith))) (h n (omega arith))
