-- Forming numbers: a fraction is the one of its value, a sum with 0 forms nothing, and a list is summed from the left.
use Rattle.std.proofs.Common.{◌≡◌, ℕ, ◌+◌, ◌<◌, length, get_or, take, drop, List, [], ◌∷◌, ◌++◌, map, refl, sym, ap, ap₂, ◌∙◌, subst, Result, Ok, Err, IsOk, IfOk, inl, pos}
use Rattle.std.proofs.lemmas.List.{take-append-drop, take_more}
use Rattle.dcx_math.specs.Rational.{ℚ, whole, ◌+ℚ◌}
use Rattle.dcx_math.specs.Sums.{rat_sum}
use Rattle.dcx_math.proofs.Orders.{+ℚ_idl, +ℚ_idr, +ℚ_assoc}
use Rattle.dcx_frac.specs.declared.fraction.Frac.{Frac}
use Rattle.dcx_frac.specs.declared.fraction.Passes.{Passes}
use Rattle.dcx_frac.specs.Fits.{IsRepresentable}
use Rattle.dcx_frac.specs.Frac.{value}
use Rattle.dcx_frac.specs.Results.{frac_of, dec_fits, sum_of}
use Rattle.dcx_frac.proofs.Parts.{value_injective, value_representable}
use Rattle.dcx_frac.proofs.Results.{value-frac_of, sum_of_is}
use Rattle.dcx_atom.specs.Formed.{zero_frac, frac_at, and_then, sum_from, sum_in_order}

-- a fraction is the one that its value is
pub frac_at-value : (f : Frac) → frac_at (value f) ≡ f
unfolding frac_at
frac_at-value f = by (dec_fits (value f)) refl
  where
    by : (d : Dec (IsRepresentable (value f))) → dec_fits (value f) ≡ d → frac_at (value f) ≡ f
    by (yes fits) e = rw e (value_injective (frac_of (value f) fits) f (value-frac_of (value f) fits))
    by (no wide) e = absurd (wide (value_representable f))

-- fractions are those that their values are
pub map-frac_at : (fs : List Frac) → map frac_at (map value fs) ≡ fs
map-frac_at [] = refl
map-frac_at (f ∷ fs) = ap₂ ◌∷◌ (frac_at-value f) (map-frac_at fs)

-- 0 is 0 / 1
pub value-zero_frac : value zero_frac ≡ whole (pos 0)
unfolding whole
value-zero_frac = refl

-- a fraction of value 0 is that one
pub zero_frac-unique : (f : Frac) → value f ≡ whole (pos 0) → f ≡ zero_frac
zero_frac-unique f e = value_injective f zero_frac (e ∙ sym value-zero_frac)

-- so is the fraction that 0 is
pub frac_at-zero : frac_at (whole (pos 0)) ≡ zero_frac
frac_at-zero = subst (λ x. frac_at x ≡ zero_frac) value-zero_frac (frac_at-value zero_frac)

-- a sum that fits and has the value of y is y
sum_is : (x y f : Frac) → IsOk (sum_of x y) → value x +ℚ value y ≡ value f → sum_of x y ≡ Ok f
sum_is x y f ok e = by (sum_of x y) ok (sum_of_is x y).exact
  where
    by : (r : Result Frac Passes) → IsOk r → IfOk r (λ g. value g ≡ value x +ℚ value y) → r ≡ Ok f
    by (Ok g) h k = ap Ok (value_injective g f (k ∙ e))
    by (Err passes) h k = cc

-- a sum with 0 forms nothing
pub sum_of-zero_left : (x y : Frac) → value x ≡ whole (pos 0) → sum_of x y ≡ Ok y
sum_of-zero_left x y z = sum_is x y y ((sum_of_is x y).fits.1 (inl z)) (ap (λ u. u +ℚ value y) z ∙ +ℚ_idl (value y))

-- one more number is added to what was formed of those before it
pub sum_from-append : (x : Frac) (ys : List Frac) (z : Frac) → sum_from x (ys ++ z ∷ []) ≡ and_then (sum_from x ys) (λ s. sum_of s z)
sum_from-append x [] z = by (sum_of x z)
  where
    by : (r : Result Frac Passes) → and_then r (λ s. Ok s) ≡ r
    by (Ok s) = refl
    by (Err passes) = refl
sum_from-append x (y ∷ ys) z = by (λ s. sum_from-append s ys z) (sum_of x y)
  where
    by : ((s : Frac) → sum_from s (ys ++ z ∷ []) ≡ and_then (sum_from s ys) (λ t. sum_of t z)) → (r : Result Frac Passes) →
        and_then r (λ s. sum_from s (ys ++ z ∷ [])) ≡ and_then (and_then r (λ s. sum_from s ys)) (λ s. sum_of s z)
    by go (Ok s) = go s
    by go (Err passes) = refl

-- a sum that stops goes on no further
pub sum_from-stopped : (x : Frac) (ys zs : List Frac) (passes : Passes) → sum_from x ys ≡ Err passes → sum_from x (ys ++ zs) ≡ Err passes
sum_from-stopped x [] zs passes e = cc
sum_from-stopped x (y ∷ ys) zs passes e = by (λ s. sum_from-stopped s ys zs passes) (sum_of x y) e
  where
    by : ((s : Frac) → sum_from s ys ≡ Err passes → sum_from s (ys ++ zs) ≡ Err passes) → (r : Result Frac Passes) →
        and_then r (λ s. sum_from s ys) ≡ Err passes → and_then r (λ s. sum_from s (ys ++ zs)) ≡ Err passes
    by go (Ok s) k = go s k
    by go (Err p) k = k

-- a number's equation, under a result
renamed : (r : Result Frac Passes) (x y : ℚ) → x ≡ y → IfOk r (λ s. value s ≡ x) → IfOk r (λ s. value s ≡ y)
renamed (Ok s) x y e h = h ∙ e
renamed (Err passes) x y e h = tt

-- a sum that is formed is the exact sum
pub value-sum_from : (x : Frac) (ys : List Frac) → IfOk (sum_from x ys) (λ s. value s ≡ value x +ℚ rat_sum (map value ys))
value-sum_from x [] = sym (+ℚ_idr (value x))
value-sum_from x (y ∷ ys) = by (λ s. value-sum_from s ys) (sum_of x y) (sum_of_is x y).exact
  where
    by : ((s : Frac) → IfOk (sum_from s ys) (λ t. value t ≡ value s +ℚ rat_sum (map value ys))) → (r : Result Frac Passes) →
        IfOk r (λ g. value g ≡ value x +ℚ value y) → IfOk (and_then r (λ s. sum_from s ys)) (λ s. value s ≡ value x +ℚ (value y +ℚ rat_sum (map value ys)))
    by go (Ok g) k = renamed (sum_from g ys) _ _ (ap (λ u. u +ℚ rat_sum (map value ys)) k ∙ +ℚ_assoc (value x) (value y) (rat_sum (map value ys))) (go g)
    by go (Err passes) k = tt

-- the sum of fractions in order
pub sum_in_order-fractions : (fs : List Frac) → sum_in_order (map value fs) ≡ sum_from zero_frac fs
sum_in_order-fractions fs = ap (sum_from zero_frac) (map-frac_at fs)

-- of one number nothing is formed
pub sum_in_order-one : (f : Frac) → sum_in_order (value f ∷ []) ≡ Ok f
sum_in_order-one f = sum_in_order-fractions (f ∷ []) ∙ rw (sum_of-zero_left zero_frac f value-zero_frac) refl

-- the sum of the first so many, and of one more
pub sum_from-next : (x : Frac) (ys : List Frac) (i : ℕ) (d s : Frac) → i < length ys → sum_from x (take i ys) ≡ Ok s → sum_from x (take (i + 1) ys) ≡ sum_of s (get_or ys i d)
sum_from-next x ys i d s h e =
    ap (sum_from x) (take_more ys i d h) ∙ sum_from-append x (take i ys) (get_or ys i d) ∙ ap (λ r. and_then r (λ t. sum_of t (get_or ys i d))) e

-- a sum that stops within the first so many
pub sum_from-within : (x : Frac) (ys : List Frac) (i : ℕ) (passes : Passes) → sum_from x (take i ys) ≡ Err passes → sum_from x ys ≡ Err passes
sum_from-within x ys i passes e = ap (sum_from x) (sym (take-append-drop i ys)) ∙ sum_from-stopped x (take i ys) (drop i ys) passes e
