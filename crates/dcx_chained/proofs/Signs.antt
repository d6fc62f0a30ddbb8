-- The factors by which a pivot clears a row, where the row of the pivot isn't turned.
use Rattle.std.proofs.Common.{◌≡◌, ◌≢◌, ℕ, zero, suc, ◌<◌, ◌^◌, ℤ, pos, negsuc, neg_ℤ, ◌-ℤ◌, ◌*ℤ◌, ◌<ℤ◌, ◌≤ℤ◌, unsigned_abs, arith, refl, sym, ap, ap₂, ◌∙◌, subst}
use Rattle.std.proofs.lemmas.Int.{ints}
use Rattle.dcx_math.specs.Integers.{*ℤ-neg_ℤ, *ℤ-neg_ℤ_left}
use Rattle.dcx_math.specs.Divisors.{gcd, divided}
use Rattle.dcx_math.specs.IntegerSums.{int_scaled}
use Rattle.dcx_math.proofs.Divisors.{unsigned_abs-divided, gcd-dvd_left, quotient-pos}
use Rattle.dcx_math.proofs.IntegerLaws.{abs-positive}
use native.Mathlib.Nat.{div-le_self}
use Rattle.dcx_tab.specs.Rows.{Row, entry}
use Rattle.dcx_tab.specs.Pivot.{turned, cleared, IsFormed, IsFormedAt}
use Rattle.dcx_tab.proofs.LineSteps.{AreFactors, formed_at_by, at_formed_by, cleared_by_factors, turned_negative, neg_entry, turned_same}
use Rattle.dcx_tab.proofs.RowLaws.{entry-less, entry-scaled}
use Rattle.dcx_chained.specs.NewRow.{mixed_at, Clears}

module _ (c : ℕ) (pivot row by : Row) (u v w : ℤ) (is : turned c pivot ≡ by) (factors : AreFactors c by row u w) (same : (j : ℕ) → v *ℤ entry pivot j ≡ w *ℤ entry by j) where
  mixed : (j : ℕ) → mixed_at u row v pivot j ≡ entry (cleared c (turned c pivot) row) j
  mixed j =
      ap (λ z. u *ℤ entry row j -ℤ z) (same j) ∙ sym (entry-less u row w by j)
      ∙ ap (λ (r : Row). entry r j) (cleared_by_factors c by row u w factors ∙ ap (λ b. cleared c b row) (sym is))

  to_formed : (j : ℕ) → IsFormed u (entry row j) v (entry pivot j) → IsFormedAt c (turned c pivot) row j
  to_formed j f =
      subst (λ b. IsFormedAt c b row j) (sym is)
      (formed_at_by c by row u w factors j
      (record {
        left = f.left;
        right = subst (λ z. unsigned_abs z < 2 ^ 127) (same j) f.right;
        difference = subst (λ z. unsigned_abs (u *ℤ entry row j -ℤ z) < 2 ^ 127) (same j) f.difference;
      }))

  from_formed : (j : ℕ) → IsFormedAt c (turned c pivot) row j → IsFormed u (entry row j) v (entry pivot j)
  from_formed j h =
      let f = at_formed_by c by row u w factors j (subst (λ b. IsFormedAt c b row j) is h) in
      record {
        left = f.left;
        right = subst (λ z. unsigned_abs z < 2 ^ 127) (sym (same j)) f.right;
        difference = subst (λ z. unsigned_abs (u *ℤ entry row j -ℤ z) < 2 ^ 127) (sym (same j)) f.difference;
      }

  clears_by : Clears c pivot row u v
  clears_by = record { mixed = mixed; formed = to_formed; only = from_formed }

-- at a positive entry
pub clears_positive : (c : ℕ) (pivot row : Row) (p a u v : ℤ) → pos 0 <ℤ p → entry pivot c ≡ p → entry row c ≡ a
    → u ≡ divided (gcd (unsigned_abs p) (unsigned_abs a)) p → v ≡ divided (gcd (unsigned_abs p) (unsigned_abs a)) a → Clears c pivot row u v
clears_positive c pivot row p a u v positive is_p is_a is_u is_v =
    clears_by c pivot row pivot u v v
    (turned_same (entry pivot c) pivot (subst (λ z. pos 0 <ℤ z) (sym is_p) positive))
    (record {
      of_row = is_u ∙ ap₂ (λ x y. divided (gcd (unsigned_abs x) (unsigned_abs y)) x) (sym is_p) (sym is_a);
      of_by = is_v ∙ ap₂ (λ x y. divided (gcd (unsigned_abs x) (unsigned_abs y)) y) (sym is_p) (sym is_a);
    })
    (λ j. refl)

turns_sign : (w y z : ℤ) → z ≡ negsuc 0 *ℤ y → (pos 0 -ℤ w) *ℤ y ≡ w *ℤ z
turns_sign w y z e =
    let a : pos 0 -ℤ w ≡ neg_ℤ w = omega (arith, ints) in
    let b : z ≡ neg_ℤ y = omega (arith, ints, e) in
    ap (λ x. x *ℤ y) a ∙ *ℤ-neg_ℤ_left w y ∙ sym (*ℤ-neg_ℤ w y) ∙ ap (λ x. w *ℤ x) (sym b)

-- at a negative entry, where q is its negative
pub clears_negative : (c : ℕ) (pivot row : Row) (p q a u v w : ℤ) → p <ℤ pos 0 → q ≡ pos 0 -ℤ p → entry pivot c ≡ p → entry row c ≡ a
    → u ≡ divided (gcd (unsigned_abs q) (unsigned_abs a)) q → w ≡ divided (gcd (unsigned_abs q) (unsigned_abs a)) a → v ≡ pos 0 -ℤ w → Clears c pivot row u v
clears_negative c pivot row p q a u v w negative is_q is_p is_a is_u is_w is_v =
    let by = int_scaled (negsuc 0) pivot in
    let at_c : entry by c ≡ q = sym (neg_entry pivot c) ∙ ap (λ z. pos 0 -ℤ z) is_p ∙ sym is_q in
    clears_by c pivot row by u v w
    (turned_negative c pivot (subst (λ z. z <ℤ pos 0) (sym is_p) negative))
    (record {
      of_row = is_u ∙ ap₂ (λ x y. divided (gcd (unsigned_abs x) (unsigned_abs y)) x) (sym at_c) (sym is_a);
      of_by = is_w ∙ ap₂ (λ x y. divided (gcd (unsigned_abs x) (unsigned_abs y)) y) (sym at_c) (sym is_a);
    })
    (λ j. ap (λ x. x *ℤ entry pivot j) is_v ∙ turns_sign w (entry pivot j) (entry by j) (entry-scaled (negsuc 0) pivot j))

pub is_negative : (z : ℤ) → z ≢ pos 0 → z ≤ℤ pos 0 → z <ℤ pos 0
is_negative (pos zero) d h = absurd (d refl)
is_negative (pos (suc n)) d h = absurd (omega (arith, ints))
is_negative (negsuc n) d h = omega (arith, ints)

-- a quotient is no greater than its dividend
pub small_quotient : (g : ℕ) (a b : ℤ) → b ≡ divided g a → unsigned_abs a < 2 ^ 127 → unsigned_abs b < 2 ^ 127
small_quotient g a b e small =
    let q = ap unsigned_abs e ∙ unsigned_abs-divided g a in
    let l = div-le_self (unsigned_abs a) g in
    omega (arith, q, l, small)

-- the factor of the row isn't 0
pub some_factor : (p a u : ℤ) → pos 0 <ℤ p → u ≡ divided (gcd (unsigned_abs p) (unsigned_abs a)) p → u ≢ pos 0
some_factor p a u positive is_u z =
    let n : 0 < unsigned_abs p = abs-positive p positive in
    let q = quotient-pos (unsigned_abs p) (gcd (unsigned_abs p) (unsigned_abs a)) n (gcd-dvd_left (unsigned_abs p) (unsigned_abs a)) in
    let e = unsigned_abs-divided (gcd (unsigned_abs p) (unsigned_abs a)) p in
    let f = ap unsigned_abs (sym is_u ∙ z) in
    absurd (omega (arith, q, e, f))
