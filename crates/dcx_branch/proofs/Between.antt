-- The greatest integer below a fraction that isn't whole, and that there is one.
use Rattle.std.proofs.Common.{◌≡◌, ◌≢◌, ℕ, suc, ◌+◌, ◌*◌, ◌-◌, ◌/◌, ◌%◌, ◌<◌, ◌≤◌, ◌^◌, arith, suc-mul, refl, sym, ap, ◌∙◌, subst, inl, inr, ◌⊎◌}
use Rattle.std.specs.Prelude.{ℤ, pos, negsuc, ◌+ℤ◌, ◌*ℤ◌, neg_ℤ, ◌<ℤ◌, ◌≤ℤ◌, unsigned_abs}
use Rattle.std.specs.Int.{int_div_euclid}
use Rattle.std.proofs.lemmas.Int.{ints}
use Rattle.std.proofs.lemmas.Nat.{div-add-mod', mod_below}
use Rattle.std.proofs.Math.Nat.{mul-le-mul_left}
use native.Mathlib.Nat.{eq-one_of_dvd-one}
use Rattle.dcx_math.specs.Rational.{ℚ, ratio, whole, ◌≤ℚ◌, ◌<ℚ◌}
use Rattle.dcx_math.specs.Integers.{*ℤ-+ℤ_left, *ℤ_idl, *ℤ-neg_ℤ_left}
use Rattle.dcx_math.specs.LowestTerms.{IsInLowestTerms}
use Rattle.dcx_math.proofs.IntegerLaws.{≤ℤ-or-<ℤ}
use Rattle.dcx_math.proofs.Orders.{<ℚ-not, <ℚ-≤ℚ_trans, <ℚ_trans, <ℚ_irrefl, whole-≤ℤ}
use Rattle.dcx_math.proofs.Denominators.{whole-ratio, ratio-<ℚ}
use Rattle.dcx_math.proofs.Ratios.{ratio-one}
use Rattle.dcx_math.proofs.LowestTerms.{lowest_terms_unique}
use Rattle.dcx_frac.specs.declared.fraction.Frac.{Frac}
use Rattle.dcx_frac.specs.Frac.{num_of, den_of, value}
use Rattle.dcx_frac.proofs.Parts.{value_lowest}
use Rattle.dcx_branch.specs.Between.{IsBetween, HasRoom}

-- ---- there is one such integer at most
-- an integer below a number is at most the greatest one
no_less : (m n : ℤ) (x : ℚ) → whole m <ℚ x → x <ℚ whole (n +ℤ pos 1) → n <ℤ m → ⊥
no_less m n x above below h =
    let next : (n +ℤ pos 1) ≤ℤ m = omega (arith, ints) in
    <ℚ_irrefl (<ℚ-≤ℚ_trans (<ℚ_trans above below) (whole-≤ℤ (n +ℤ pos 1) m next))

same_integer : (m n : ℤ) → m ≤ℤ n → n ≤ℤ m → m ≡ n
same_integer m n h k = omega (arith, ints)

pub one_between : (m n : ℤ) (x : ℚ) → IsBetween x m → IsBetween x n → m ≡ n
one_between m n x h k = by (≤ℤ-or-<ℤ m n) (≤ℤ-or-<ℤ n m)
  where
    by : (m ≤ℤ n) ⊎ (n <ℤ m) → (n ≤ℤ m) ⊎ (m <ℤ n) → m ≡ n
    by (inr a) b = absurd (no_less m n x h.above k.below a)
    by (inl a) (inr b) = absurd (no_less n m x k.above h.below b)
    by (inl a) (inl b) = same_integer m n a b

-- a number between an integer and the next isn't whole
pub between_not_whole : (n m : ℤ) (x : ℚ) → IsBetween x n → x ≡ whole m → ⊥
between_not_whole n m x h e = by (≤ℤ-or-<ℤ m n)
  where
    next : n <ℤ m → (n +ℤ pos 1) ≤ℤ m
    next a = omega (arith, ints)

    by : (m ≤ℤ n) ⊎ (n <ℤ m) → ⊥
    by (inl a) = <ℚ-not h.above (subst (λ y. y ≤ℚ whole n) (sym e) (whole-≤ℤ m n a))
    by (inr a) = <ℚ-not h.below (subst (λ y. whole (n +ℤ pos 1) ≤ℚ y) (sym e) (whole-≤ℤ (n +ℤ pos 1) m (next a)))

-- ---- by division
-- division with a rest of at least 0
record IsDivided (z q : ℤ) (d : ℕ) : Type 0 where
  rest : ℕ
  small : rest < d
  is : z ≡ q *ℤ pos d +ℤ pos rest

below_zero : (a m d r k : ℕ) → k ≡ m + d → m + r ≡ a → r < d → negsuc a ≡ neg_ℤ (pos k) +ℤ pos (d - 1 - r)
below_zero a m d r k e f h = omega (arith, ints)

divided : (z : ℤ) (d : ℕ) → 0 < d → IsDivided z (int_div_euclid z (pos d)) d
divided (pos a) d h = record { rest = a % d; small = mod_below a d h; is = ap pos (sym (div-add-mod' a d)) }
divided (negsuc a) d h =
    let rest = a % d in
    let small : rest < d = mod_below a d h in
    record {
      rest = d - 1 - rest;
      small = omega arith;
      is = below_zero a (a / d * d) d rest (suc (a / d) * d) (suc-mul (a / d) d) (div-add-mod' a d) small
          ∙ ap (λ y. y +ℤ pos (d - 1 - rest)) (sym (*ℤ-neg_ℤ_left (pos (suc (a / d))) (pos d)));
    }

-- the denominator is at least 1
record IsAtLeastOne (z : ℤ) : Type 0 where
  size : ℕ
  is : z ≡ pos size
  some : 0 < size

at_least_one : (z : ℤ) → pos 0 <ℤ z → IsAtLeastOne z
at_least_one (pos d) h = record { size = d; is = refl; some = omega (arith, ints) }
at_least_one (negsuc d) h = absurd (omega (arith, ints))

-- a multiple of the denominator leaves the denominator 1
no_rest : (f : Frac) (q : ℤ) → num_of f ≡ q *ℤ den_of f → den_of f ≡ pos 1
no_rest f q e =
    let lowest = value_lowest f in
    let same : value f ≡ whole q = ap (λ z. ratio z (den_of f) f.positive) e ∙ sym (whole-ratio (den_of f) f.positive q) in
    let one : pos 0 <ℤ pos 1 = record { lt = tt } in
    let integer : IsInLowestTerms (whole q) q (pos 1) = record { positive = one; coprime = λ d h k. eq-one_of_dvd-one k; is = sym (ratio-one q one) } in
    (lowest_terms_unique (value f) (num_of f) (den_of f) q (pos 1) lowest (subst (λ x. IsInLowestTerms x q (pos 1)) (sym same) integer)).1

above_multiple : (m z : ℤ) (r : ℕ) → z ≡ m +ℤ pos r → r ≢ 0 → m <ℤ z
above_multiple m z r e h = omega (arith, ints)

below_next : (m z n : ℤ) (r d : ℕ) → n ≡ m +ℤ pos d → z ≡ m +ℤ pos r → r < d → z <ℤ n
below_next m z n r d f e h = omega (arith, ints)

rest_gone : (m z : ℤ) (r : ℕ) → z ≡ m +ℤ pos r → r ≡ 0 → z ≡ m
rest_gone m z r e h = omega (arith, ints)

between_ratio : (z den : ℤ) (p : pos 0 <ℤ den) (q : ℤ) (r d : ℕ) → den ≡ pos d → z ≡ q *ℤ den +ℤ pos r → r ≢ 0 → r < d → IsBetween (ratio z den p) q
between_ratio z den p q r d e f some small =
    let times : (q +ℤ pos 1) *ℤ den ≡ q *ℤ den +ℤ pos d = *ℤ-+ℤ_left q (pos 1) den ∙ ap (λ y. q *ℤ den +ℤ y) (*ℤ_idl den ∙ e) in
    record {
      above = subst (λ x. x <ℚ ratio z den p) (sym (whole-ratio den p q)) ((ratio-<ℚ den p (q *ℤ den) z).1 (above_multiple (q *ℤ den) z r f some));
      below = subst (λ x. ratio z den p <ℚ x) (sym (whole-ratio den p (q +ℤ pos 1))) ((ratio-<ℚ den p z ((q +ℤ pos 1) *ℤ den)).1 (below_next (q *ℤ den) z ((q +ℤ pos 1) *ℤ den) r d times f small));
    }

pub divided_between : (f : Frac) → den_of f ≢ pos 1 → IsBetween (value f) (int_div_euclid (num_of f) (den_of f))
divided_between f not_one =
    let den = at_least_one (den_of f) f.positive in
    let parts = divided (num_of f) den.size den.some in
    let q = int_div_euclid (num_of f) (den_of f) in
    let is : num_of f ≡ q *ℤ den_of f +ℤ pos parts.rest = parts.is ∙ ap (λ d. int_div_euclid (num_of f) d *ℤ d +ℤ pos parts.rest) (sym den.is) in
    between_ratio (num_of f) (den_of f) f.positive q parts.rest den.size den.is is
    (λ none. not_one (no_rest f q (rest_gone (q *ℤ den_of f) (num_of f) parts.rest is none))) parts.small

-- ---- room
twice_below : (a b : ℕ) → 2 ≤ b → 2 * (a / b) ≤ a
twice_below a b h = let e = div-add-mod' a b in omega (arith, mul-le-mul_left (a / b) h, e)

above_one : (n : ℕ) → 0 < n → (n ≡ 1 → ⊥) → 2 ≤ n
above_one n h k = omega arith

-- an integer below a fraction that isn't whole has room
pub divided_room : (f : Frac) → den_of f ≢ pos 1 → HasRoom (int_div_euclid (num_of f) (den_of f))
divided_room f not_one = let den = at_least_one (den_of f) f.positive in by (num_of f) f.num_fits (den_of f) den.size den.is den.some not_one
  where
    by : (z : ℤ) → unsigned_abs z < 2 ^ 127 → (d : ℤ) (n : ℕ) → d ≡ pos n → 0 < n → d ≢ pos 1 → HasRoom (int_div_euclid z d)
    by z h d n e some other = subst (λ k. HasRoom (int_div_euclid z k)) (sym e) (of_size z h)
      where
        two : 2 ≤ n
        two = above_one n some (λ one. other (e ∙ ap pos one))

        of_size : (w : ℤ) → unsigned_abs w < 2 ^ 127 → HasRoom (int_div_euclid w (pos n))
        of_size (pos a) small = let half = twice_below a n two in omega arith
        of_size (negsuc a) small = let half = twice_below a n two in omega arith
