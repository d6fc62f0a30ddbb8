-- The first stop of the tests of weights and of their sum.
use Rattle.std.proofs.Common.{◌≡◌, ℕ, List, [], ◌∷◌, ◌++◌, map, refl, sym, ap, ap₂, ◌∙◌, Option, Some, None, Result, Ok, Err, IfOk}
use Rattle.dcx_math.specs.Rational.{ℚ, ◌+ℚ◌}
use Rattle.dcx_math.specs.Sums.{rat_sum}
use Rattle.dcx_math.proofs.Orders.{+ℚ_idl}
use Rattle.dcx_frac.specs.declared.fraction.Frac.{Frac}
use Rattle.dcx_frac.specs.declared.fraction.Passes.{Passes}
use Rattle.dcx_frac.specs.Frac.{value}
use Rattle.dcx_frac.specs.Results.{difference_of}
use Rattle.dcx_atom.specs.declared.graph.AuxKind.{AuxKind}
use Rattle.dcx_atom.specs.declared.stops.SlopeStop.{SlopeStop}
use Rattle.dcx_atom.specs.declared.stops.SlopeStop.TheVariants as stops
use Rattle.dcx_atom.specs.Formed.{zero_frac, frac_at, sum_from, sum_in_order, Formula, difference, formed}
use Rattle.dcx_atom.specs.Steps.{Step, test, form, is_weight, relates, broken_at, step_stop, condition_stop, slope_stop, earlier, first_stop, weights_stop}
use Rattle.dcx_atom.proofs.FormedSums.{frac_at-value, value-zero_frac, value-sum_from, sum_in_order-fractions}
use Rattle.dcx_atom.proofs.FirstStops.{first_stop-stopped, first_stop-passed}
use Rattle.dcx_atom.specs.Bounding.{total_relation, total_condition, total_steps}

-- nothing comes after the last stop
pub earlier-none_right : (s : Option SlopeStop) → earlier s None ≡ s
earlier-none_right (Some stop) = refl
earlier-none_right None = refl

-- a sum that is formed is the exact sum
pub value-sum_in_order : (fs : List Frac) (s : Frac) → sum_in_order (map value fs) ≡ Ok s → value s ≡ rat_sum (map value fs)
value-sum_in_order fs s e = by (sum_from zero_frac fs) (value-sum_from zero_frac fs) (sym (sum_in_order-fractions fs) ∙ e)
  where
    by : (r : Result Frac Passes) → IfOk r (λ f. value f ≡ value zero_frac +ℚ rat_sum (map value fs)) → r ≡ Ok s → value s ≡ rat_sum (map value fs)
    by (Ok f) h k = let same : f ≡ s = cc in ap value (sym same) ∙ h ∙ ap (λ x. x +ℚ rat_sum (map value fs)) value-zero_frac ∙ +ℚ_idl (rat_sum (map value fs))
    by (Err passes) h k = cc

-- the difference of two fractions
pub difference_formed : (x y : Frac) (a b : ℚ) → value x ≡ a → value y ≡ b → difference_of x y ≡ formed (difference a b)
difference_formed x y a b e f = sym (ap₂ difference_of (ap frac_at (sym e) ∙ frac_at-value x) (ap frac_at (sym f) ∙ frac_at-value y))

-- a weight that stops
pub total-stopped : (j : ℕ) (kind : AuxKind) (c : ℚ) (ws : List ℚ) (stop : SlopeStop) → weights_stop j ws ≡ Some stop → first_stop j (total_steps kind c ws) ≡ Some stop
total-stopped j kind c ws stop e = first_stop-stopped j (map (λ w. test (is_weight w)) ws) (test (total_condition kind c ws) ∷ []) stop e

-- a sum of weights is formed and compared
sum_met : (j : ℕ) (kind : AuxKind) (c : Frac) (ws : List Frac) (r : Result Frac Passes) → sum_in_order (map value ws) ≡ r →
    step_stop j (test (total_condition kind (value c) (map value ws))) ≡ condition_stop j (relates (total_relation kind) (rat_sum (map value ws)) (value c)) r (Ok c)
sum_met j kind c ws r e =
    ap₂ (λ (x y : Result Frac Passes). condition_stop j (relates (total_relation kind) (rat_sum (map value ws)) (value c)) x y) e (ap Ok (frac_at-value c))

-- a sum that passes
pub sum-passed : (j : ℕ) (kind : AuxKind) (c : Frac) (ws : List Frac) (passes : Passes) → sum_in_order (map value ws) ≡ Err passes →
    step_stop j (test (total_condition kind (value c) (map value ws))) ≡ Some (stops.Passes passes)
sum-passed j kind c ws passes e = sum_met j kind c ws (Err passes) e

-- a sum that is compared
pub sum-compared : (j : ℕ) (kind : AuxKind) (c : Frac) (ws : List Frac) (s : Frac) → sum_in_order (map value ws) ≡ Ok s →
    step_stop j (test (total_condition kind (value c) (map value ws))) ≡ broken_at j (relates (total_relation kind) (value s) (value c)) s c
sum-compared j kind c ws s e =
    sum_met j kind c ws (Ok s) e ∙ ap (λ x. broken_at j (relates (total_relation kind) x (value c)) s c) (sym (value-sum_in_order ws s e))

-- weights that don't stop: their sum is tested
pub total-summed : (j : ℕ) (kind : AuxKind) (c : ℚ) (ws : List ℚ) → weights_stop j ws ≡ None →
    first_stop j (total_steps kind c ws) ≡ step_stop j (test (total_condition kind c ws))
total-summed j kind c ws none = first_stop-passed j (map (λ w. test (is_weight w)) ws) (test (total_condition kind c ws) ∷ []) none ∙ earlier-none_right _

-- a slope after the tests
pub slope_stops : (j : ℕ) (tests : List Step) (f : Formula) → first_stop j tests ≡ None → first_stop j (tests ++ form f ∷ []) ≡ slope_stop (formed f)
slope_stops j tests f none = first_stop-passed j tests (form f ∷ []) none ∙ earlier-none_right (slope_stop (formed f))
