-- Entries, products and common divisors of rows that are scaled, divided and mixed.
use Rattle.std.proofs.Common.{◌≡◌, ◌≢◌, ℕ, zero, suc, ◌<◌, List, [], ◌∷◌, length, replicate, ℤ, pos, negsuc, ◌+ℤ◌, ◌-ℤ◌, ◌*ℤ◌, neg_ℤ}
use Rattle.std.proofs.Common.{unsigned_abs, arith, refl, sym, ap, ap₂, ◌∙◌, subst, ⊎_elim, eq-zero-or-pos}
use Rattle.std.specs.Prelude.{int_div}
use Rattle.std.proofs.lemmas.Int.{ints}
use native.Mathlib.Nat.{eq-zero_of_zero-dvd, dvd-zero}
use Prim.Native.Nat.{◌∣◌}
use Rattle.dcx_math.specs.Integers.{*ℤ-neg_ℤ_left, *ℤ-zero, *ℤ_idr}
use Rattle.dcx_math.specs.Divisors.{gcd_of, divided}
use Rattle.dcx_math.specs.IntegerSums.{int_dot, int_scaled, int_added, int_mixed}
use Rattle.dcx_math.proofs.Divisors.{gcd-dvd_left, gcd-dvd_right, dvd_trans}
use Rattle.dcx_math.proofs.IntegerSums.{int_at-get_or}
use Rattle.dcx_math.proofs.IntegerVectors.{int_at-int_added, int_at-int_scaled, int_dot-scaled, int_dot-added, int_dot-scaled_right, int_dot-nil, length-int_scaled, length-int_added}
use Rattle.dcx_tab.specs.Rows.{entry}

pub entry-scaled : (k : ℤ) (xs : List ℤ) (j : ℕ) → entry (int_scaled k xs) j ≡ k *ℤ entry xs j
entry-scaled k xs j = int_at-get_or (int_scaled k xs) j ∙ int_at-int_scaled k xs j ∙ ap (λ z. k *ℤ z) (sym (int_at-get_or xs j))

pub entry-added : (xs ys : List ℤ) (j : ℕ) → entry (int_added xs ys) j ≡ entry xs j +ℤ entry ys j
entry-added xs ys j = int_at-get_or (int_added xs ys) j ∙ int_at-int_added xs ys j ∙ sym (ap₂ ◌+ℤ◌ (int_at-get_or xs j) (int_at-get_or ys j))

less_is : (a b q y : ℤ) → b ≡ neg_ℤ q *ℤ y → a +ℤ b ≡ a -ℤ q *ℤ y
less_is a b q y e = let h = *ℤ-neg_ℤ_left q y in omega (arith, ints, e, h)

-- p times xs less q times ys
pub entry-less : (p : ℤ) (xs : List ℤ) (q : ℤ) (ys : List ℤ) (j : ℕ) → entry (int_mixed p (neg_ℤ q) xs ys) j ≡ p *ℤ entry xs j -ℤ q *ℤ entry ys j
entry-less p xs q ys j =
    entry-added (int_scaled p xs) (int_scaled (neg_ℤ q) ys) j ∙ ap (λ z. z +ℤ entry (int_scaled (neg_ℤ q) ys) j) (entry-scaled p xs j)
    ∙ less_is (p *ℤ entry xs j) (entry (int_scaled (neg_ℤ q) ys) j) q (entry ys j) (entry-scaled (neg_ℤ q) ys j)

-- all entries of a row of zeros are 0
pub zeros_at : (n j : ℕ) → entry (replicate n (pos 0)) j ≡ pos 0
zeros_at zero j = refl
zeros_at (suc n) zero = refl
zeros_at (suc n) (suc j) = zeros_at n j

pub length-mixed : (p r : ℤ) (xs ys : List ℤ) → length xs ≡ length ys → length (int_mixed p r xs ys) ≡ length xs
length-mixed p r xs ys e =
    length-int_added (int_scaled p xs) (int_scaled r ys) (length-int_scaled p xs ∙ e ∙ sym (length-int_scaled r ys)) ∙ length-int_scaled p xs

pub int_dot-less : (p : ℤ) (xs : List ℤ) (q : ℤ) (ys x : List ℤ) → int_dot (int_mixed p (neg_ℤ q) xs ys) x ≡ p *ℤ int_dot xs x -ℤ q *ℤ int_dot ys x
int_dot-less p xs q ys x =
    int_dot-added (int_scaled p xs) (int_scaled (neg_ℤ q) ys) x ∙ ap (λ z. z +ℤ int_dot (int_scaled (neg_ℤ q) ys) x) (int_dot-scaled p xs x)
    ∙ less_is (p *ℤ int_dot xs x) (int_dot (int_scaled (neg_ℤ q) ys) x) q (int_dot ys x) (int_dot-scaled (neg_ℤ q) ys x)

-- the machine's quotient is the exact one
pub int_div-divided : (n : ℕ) (x : ℤ) → int_div x (pos n) ≡ divided n x
int_div-divided n (pos a) = refl
int_div-divided n (negsuc a) = refl

-- the common divisor divides each entry
pub gcd_of-dvd_entry : (xs : List ℤ) (j : ℕ) → gcd_of xs ∣ unsigned_abs (entry xs j)
gcd_of-dvd_entry [] j = dvd-zero 0
gcd_of-dvd_entry (x ∷ xs) zero = gcd-dvd_left (unsigned_abs x) (gcd_of xs)
gcd_of-dvd_entry (x ∷ xs) (suc j) = dvd_trans _ (gcd-dvd_right (unsigned_abs x) (gcd_of xs)) (gcd_of-dvd_entry xs j)

pub gcd_of-pos : (xs : List ℤ) (j : ℕ) → 0 < unsigned_abs (entry xs j) → 0 < gcd_of xs
gcd_of-pos xs j h = ⊎_elim (λ z. let e = eq-zero_of_zero-dvd (subst (λ v. v ∣ unsigned_abs (entry xs j)) z (gcd_of-dvd_entry xs j)) in absurd (omega (arith, e))) (λ q. q) (eq-zero-or-pos (gcd_of xs))

-- 1 at t and 0 elsewhere
abbrev pub unit : ℕ → List ℤ
unit zero = pos 1 ∷ []
unit (suc t) = pos 0 ∷ unit t

first_is : (a : ℤ) → a *ℤ pos 1 +ℤ pos 0 ≡ a
first_is a = let h = *ℤ_idr a in omega (arith, ints, h)

none_is : (a z w : ℤ) → z ≡ w → a *ℤ pos 0 +ℤ z ≡ w
none_is a z w e = let h = *ℤ-zero a in omega (arith, ints, h, e)

int_dot-one : (row : List ℤ) (t : ℕ) → int_dot row (unit t) ≡ entry row t
int_dot-one [] t = refl
int_dot-one (a ∷ row) zero = ap (λ z. a *ℤ pos 1 +ℤ z) (int_dot-nil row) ∙ first_is a
int_dot-one (a ∷ row) (suc t) = none_is a _ _ (int_dot-one row t)

-- the product with a multiple of a unit
pub int_dot-unit : (row : List ℤ) (n : ℤ) (t : ℕ) → int_dot row (int_scaled n (unit t)) ≡ n *ℤ entry row t
int_dot-unit row n t = int_dot-scaled_right n row (unit t) ∙ ap (λ z. n *ℤ z) (int_dot-one row t)

pub unit_same : (t : ℕ) → entry (unit t) t ≡ pos 1
unit_same zero = refl
unit_same (suc t) = unit_same t

pub unit_other : (t m : ℕ) → m ≢ t → entry (unit t) m ≡ pos 0
unit_other zero zero n = absurd (n refl)
unit_other zero (suc m) n = refl
unit_other (suc t) zero n = refl
unit_other (suc t) (suc m) n = unit_other t m (λ e. n (omega arith))
