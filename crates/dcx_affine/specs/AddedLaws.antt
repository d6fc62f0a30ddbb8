-- The laws of sums and differences of entries.
use Rattle.std.specs.Prelude.{◌≡◌, ◌+◌, ◌<◌, true, ◌&&◌, List, [], ◌∷◌, Some, length, pos, negsuc}
use Rattle.std.proofs.Common.{refl, sym, ap, inl, inr, arith}
use Rattle.std.proofs.lemmas.Bool.{and_parts}
use Rattle.std.proofs.lemmas.List.Elements.{All-cons, All-nil}
use Rattle.dcx_math.specs.Rational.{ℚ, whole, ◌+ℚ◌, ◌-ℚ◌, ◌*ℚ◌, neg_ℚ, ◌≤ℚ◌}
use Rattle.dcx_math.specs.Sums.{IsNonnegative}
use Rattle.dcx_math.proofs.Ring.{ring, reads}
use Rattle.dcx_math.proofs.Orders.{≤ℚ-from_≡, ≤ℚ_antisym, neg_ℚ-≤ℚ, neg_ℚ-nonnegative, neg_ℚ-nonpositive}
use Rattle.dcx_shape.specs.declared.shape.Sides.{Sides}
use Rattle.dcx_atom.specs.declared.flags.Sign.{Sign}
use Rattle.dcx_atom.specs.declared.flags.Bend.{Bend}
use Rattle.dcx_atom.specs.declared.flags.Bend.TheVariants.{Convex, Concave}
use Rattle.dcx_atom.specs.Signs.{HasSign, sign_at, Follows, IsBeyond, falls, no_trend}
use Rattle.dcx_atom.specs.Linear.{IsLinear, KeepsSign, KeepsTrend}
use Rattle.dcx_atom.proofs.LinearSums.{HasNoNegative, HasOnlyArguments, rising_trend, shared_sign}
use Rattle.dcx_affine.specs.StridedLaws.{one_nonneg}
use Rattle.dcx_affine.specs.Added.{term, two_alike, plus_meaning, minus_meaning, diff_meaning}

-- ---- a + b
sum_of_two : (x y : ℚ) → x +ℚ y ≡ whole (pos 1) *ℚ x +ℚ (whole (pos 1) *ℚ y +ℚ whole (pos 0))
sum_of_two x y = ring (x ∷ y ∷ []) (search reads depth 30) tt

pub plus_linear : IsLinear plus_meaning
plus_linear args to e j b a = sum_of_two (a 0 j) (a 1 j)

plus_nonneg : HasNoNegative plus_meaning
plus_nonneg args to e j b =
    All-cons (λ x. IsNonnegative x.coefficient) (term 0 j (whole (pos 1))) (term 1 j (whole (pos 1)) ∷ []) one_nonneg
    (All-cons (λ x. IsNonnegative x.coefficient) (term 1 j (whole (pos 1))) [] one_nonneg (All-nil (λ x. IsNonnegative x.coefficient)))

two_of : (args : List Sides) (to : Sides) → two_alike args ≡ Some to → length args ≡ 2
two_of [] to e = cc
two_of (a ∷ []) to e = cc
two_of (a ∷ b ∷ []) to e = omega arith
two_of (a ∷ b ∷ c ∷ rest) to e = cc

plus_within : HasOnlyArguments plus_meaning
plus_within args to e j b =
    let n = two_of args to e in
    All-cons (λ x. x.argument < length args) (term 0 j (whole (pos 1))) (term 1 j (whole (pos 1)) ∷ []) (omega (arith, n))
    (All-cons (λ x. x.argument < length args) (term 1 j (whole (pos 1))) [] (omega (arith, n)) (All-nil (λ x. x.argument < length args)))

pub plus_sign : KeepsSign plus_meaning
plus_sign = shared_sign plus_meaning plus_linear (λ signs. refl) plus_nonneg plus_within

pub plus_trend : KeepsTrend plus_meaning
plus_trend = rising_trend plus_meaning plus_linear (λ i. refl) plus_nonneg

-- ---- -a
minus_is : (x : ℚ) → neg_ℚ x ≡ whole (negsuc 0) *ℚ x +ℚ whole (pos 0)
minus_is x = ring (x ∷ []) (search reads depth 30) tt

pub minus_linear : IsLinear minus_meaning
minus_linear args to e j b a = minus_is (a 0 j)

pub minus_sign : KeepsSign minus_meaning
minus_sign args to e j b signs a n h = record { nonneg = λ t. neg_ℚ-nonnegative (a 0 j) ((h 0 j).nonpos t); nonpos = λ t. neg_ℚ-nonpositive (a 0 j) ((h 0 j).nonneg t) }

falling_beyond : (bend : Bend) (x y : ℚ) → Follows bend falls x y → IsBeyond bend (neg_ℚ x) (neg_ℚ y)
falling_beyond Convex x y (inl e) = ≤ℚ-from_≡ (ap neg_ℚ e)
falling_beyond Concave x y (inl e) = ≤ℚ-from_≡ (ap neg_ℚ (sym e))
falling_beyond bend x y (inr (inl h)) = let f = h.0 in cc
falling_beyond Convex x y (inr (inr h)) = neg_ℚ-≤ℚ h.1
falling_beyond Concave x y (inr (inr h)) = neg_ℚ-≤ℚ h.1

pub minus_trend : KeepsTrend minus_meaning
minus_trend args to e j below bend a b f = falling_beyond bend (a 0 j) (b 0 j) (f 0 j)

-- ---- differences
difference_is : (x y : ℚ) → y -ℚ x ≡ whole (negsuc 0) *ℚ x +ℚ (whole (pos 1) *ℚ y +ℚ whole (pos 0))
difference_is x y = ring (x ∷ y ∷ []) (search reads depth 30) tt

pub diff_linear : IsLinear diff_meaning
diff_linear args to e j b a = difference_is (a 0 j) (a 0 (j + 1))

no_difference : (x y : ℚ) → x ≡ whole (pos 0) → y ≡ whole (pos 0) → y -ℚ x ≡ whole (pos 0)
no_difference x y e f = rw (e, f) (ring [] (search reads depth 30) tt)

zero_of : (s : Sign) (x : ℚ) → HasSign s x → s.nonneg && s.nonpos ≡ true → x ≡ whole (pos 0)
zero_of s x h t = let p = and_parts s.nonneg s.nonpos t in ≤ℚ_antisym (h.nonpos p.1) (h.nonneg p.0)

pub diff_sign : KeepsSign diff_meaning
diff_sign args to e j b signs a n h =
    let s = sign_at signs 0 in
    record {
      nonneg = λ t. ≤ℚ-from_≡ (sym (no_difference (a 0 j) (a 0 (j + 1)) (zero_of s (a 0 j) (h 0 j) t) (zero_of s (a 0 (j + 1)) (h 0 (j + 1)) t)));
      nonpos = λ t. ≤ℚ-from_≡ (no_difference (a 0 j) (a 0 (j + 1)) (zero_of s (a 0 j) (h 0 j) t) (zero_of s (a 0 (j + 1)) (h 0 (j + 1)) t));
    }

in_place : (bend : Bend) (x y : ℚ) → Follows bend no_trend x y → x ≡ y
in_place bend x y (inl e) = e
in_place bend x y (inr (inl h)) = let f = h.0 in cc
in_place bend x y (inr (inr h)) = let f = h.0 in cc

same_beyond : (bend : Bend) (x y : ℚ) → x ≡ y → IsBeyond bend x y
same_beyond Convex x y e = ≤ℚ-from_≡ e
same_beyond Concave x y e = ≤ℚ-from_≡ (sym e)

pub diff_trend : KeepsTrend diff_meaning
diff_trend args to e j below bend a b f =
    same_beyond bend (a 0 (j + 1) -ℚ a 0 j) (b 0 (j + 1) -ℚ b 0 j) (rw (in_place bend (a 0 j) (b 0 j) (f 0 j), in_place bend (a 0 (j + 1)) (b 0 (j + 1)) (f 0 (j + 1))) refl)
