-- Least common multiples, one after another, and whole numbers as fractions.
use Rattle.std.proofs.Common.{◌≡◌, ℕ, ◌+◌, ◌*◌, ◌/◌, ◌<◌, ◌^◌, Bool, true, false, nat_lt, if◌then◌else◌, List, [], ◌∷◌, ◌++◌, map, length, get_or}
use Rattle.std.proofs.Common.{drop, Result, Ok, Err, refl, sym, ap, ◌∙◌, subst, pos, ◌<ℤ◌, arith, lit<}
use Rattle.std.proofs.lemmas.Int.{ints}
use Rattle.std.proofs.lemmas.Bool.{ltb-true}
use Rattle.std.specs.List.{All}
use Rattle.std.proofs.lemmas.List.Elements.{All-head, All-tail, All-cons, All-nil}
use native.Mathlib.Nat.{eq-one_of_dvd-one}
use Prim.Native.Nat.{◌∣◌}
use Rattle.dcx_math.specs.Rational.{whole, ◌/ℚ◌}
use Rattle.dcx_math.specs.Divisors.{gcd, lcm}
use Rattle.dcx_math.proofs.Divisors.{dvd_refl, dvd_trans, lcm-pos, dvd-lcm_left, dvd-lcm_right}
use Rattle.dcx_math.proofs.IntegerLaws.{abs-positive}
use Rattle.dcx_math.proofs.Ratios.{ratio-is-/ℚ}
use Rattle.dcx_frac.specs.declared.fraction.Frac.{Frac}
use Rattle.dcx_frac.specs.declared.fraction.Passes.{Passes}
use Rattle.dcx_frac.proofs.Turns.{over_one}
use Rattle.dcx_frac.specs.Fits.{IsRepresentable, representable}
use Rattle.dcx_frac.specs.declared.fraction.Op.TheVariants.{Lcm}
use Rattle.dcx_atom.specs.Formed.{frac_at, and_then}
use Rattle.dcx_linear.specs.declared.form.FormTerm.{FormTerm}
use Rattle.dcx_linear.specs.declared.form.Form.{Form}
use Rattle.dcx_linear.proofs.Formed.{drop_at}
use Rattle.dcx_std.specs.Multiples.{lcm_gives, multiple_from, denominator_of, denominators, multiple_of}

-- a whole number of 127 bits is a fraction
pub whole_representable : (n : ℕ) → n < 2 ^ 127 → IsRepresentable (whole (pos n) /ℚ whole (pos 1))
whole_representable n small =
    let one : pos 0 <ℤ pos 1 = omega (arith, ints) in
    representable _ (pos n) (pos 1) (record { positive = one; coprime = λ d h k. eq-one_of_dvd-one k; is = ratio-is-/ℚ (pos n) (pos 1) one }) small (lit< tt)

-- a multiple that is answered fits
pub multiple_fits : (a b c : ℕ) → lcm_gives a b ≡ Ok c → c < 2 ^ 127
multiple_fits a b c e = by (nat_lt (lcm a b) (2 ^ 127)) refl e
  where
    other : Result ℕ Passes
    other = Err (record { op = Lcm; left = frac_at (whole (pos a)); right = frac_at (whole (pos b)) })

    by : (t : Bool) → nat_lt (lcm a b) (2 ^ 127) ≡ t → (if t then Ok (lcm a b) else other) ≡ Ok c → c < 2 ^ 127
    by true is e = let d : lcm a b ≡ c = cc in subst (λ n. n < 2 ^ 127) d (ltb-true (lcm a b) (2 ^ 127) is)
    by false is e = cc

-- the next denominator, and then those behind it
pub multiple_next : (a : ℕ) (ts : List (FormTerm Frac)) (ds : List ℕ) (i : ℕ) (t : FormTerm Frac) → i < length ts → t ≡ get_or ts i t
    → multiple_from a (map (λ u. denominator_of u.coefficient) (drop i ts) ++ ds)
    ≡ and_then (lcm_gives a (denominator_of t.coefficient)) (λ c. multiple_from c (map (λ u. denominator_of u.coefficient) (drop (i + 1) ts) ++ ds))
multiple_next a ts ds i t lt is = ap (λ r. multiple_from a (map (λ u. denominator_of u.coefficient) r ++ ds)) (drop_at ts i t lt is)

-- nothing follows the last number
pub multiple_last : (a b : ℕ) → multiple_from a (b ∷ []) ≡ lcm_gives a b
multiple_last a b = by (lcm_gives a b)
  where
    by : (r : Result ℕ Passes) → and_then r (λ c. Ok c) ≡ r
    by (Ok c) = refl
    by (Err passes) = refl

-- the multiple as it is computed
pub multiple_is : (a b g : ℕ) → g ≡ gcd a b → a * (b / g) ≡ lcm a b
unfolding lcm
multiple_is a b g e = ap (λ d. a * (b / d)) e

-- a whole number over 1
pub whole_over_one : (n : ℕ) → whole (pos n) /ℚ whole (pos 1) ≡ whole (pos n)
whole_over_one n =
    let one : pos 0 <ℤ pos 1 = omega (arith, ints) in
    ratio-is-/ℚ (pos n) (pos 1) one ∙ over_one (pos n) (pos n) (pos 1) one refl refl

-- ---- what a multiple is
-- a multiple that is answered is the least common one
multiple_value : (a b c : ℕ) → lcm_gives a b ≡ Ok c → c ≡ lcm a b
multiple_value a b c e = by (nat_lt (lcm a b) (2 ^ 127)) e
  where
    other : Result ℕ Passes
    other = Err (record { op = Lcm; left = frac_at (whole (pos a)); right = frac_at (whole (pos b)) })

    by : (t : Bool) → (if t then Ok (lcm a b) else other) ≡ Ok c → c ≡ lcm a b
    by true e = let d : lcm a b ≡ c = cc in sym d
    by false e = cc

-- it is positive and small, and a multiple of the first number and of the others
pub record IsMultiple (a : ℕ) (ds : List ℕ) (m : ℕ) : Type 0 where
  pub positive : 0 < m
  pub small : m < 2 ^ 127
  pub first : a ∣ m
  pub others : All (λ d. d ∣ m) ds

pub multiple_is_one : (a : ℕ) (ds : List ℕ) (m : ℕ) → 0 < a → a < 2 ^ 127 → All (λ d. 0 < d) ds → multiple_from a ds ≡ Ok m → IsMultiple a ds m
multiple_is_one a [] m p s h e = let d : a ≡ m = cc in record { positive = omega (arith, p, d); small = omega (arith, s, d); first = subst (λ n. a ∣ n) d (dvd_refl a); others = All-nil (λ n. n ∣ m) }
multiple_is_one a (d ∷ ds) m p s h e = by (lcm_gives a d) refl e (λ c q k f. multiple_is_one c ds m q k (All-tail (λ n. 0 < n) d ds h) f)
  where
    by : (r : Result ℕ Passes) → lcm_gives a d ≡ r → and_then r (λ c. multiple_from c ds) ≡ Ok m → ((c : ℕ) → 0 < c → c < 2 ^ 127 → multiple_from c ds ≡ Ok m → IsMultiple c ds m)
        → IsMultiple a (d ∷ ds) m
    by (Err passes) g e next = cc
    by (Ok c) g e next =
        let v = multiple_value a d c g in
        let q : 0 < d = All-head (λ n. 0 < n) d ds h in
        let rest = next c (subst (λ n. 0 < n) (sym v) (lcm-pos a d p q)) (multiple_fits a d c g) e in
        record {
          positive = rest.positive;
          small = rest.small;
          first = dvd_trans _ (subst (λ n. a ∣ n) (sym v) (dvd-lcm_left a d)) rest.first;
          others = All-cons (λ n. n ∣ m) d ds (dvd_trans _ (subst (λ n. d ∣ n) (sym v) (dvd-lcm_right a d)) rest.first) rest.others;
        }

pub denominator_positive : (x : Frac) → 0 < denominator_of x
denominator_positive x = abs-positive x.den x.positive

-- all denominators of a form are positive
denominators_positive : (ts : List (FormTerm Frac)) (x : Frac) → All (λ d. 0 < d) (map (λ t. denominator_of t.coefficient) ts ++ denominator_of x ∷ [])
denominators_positive [] x = All-cons (λ d. 0 < d) (denominator_of x) [] (denominator_positive x) (All-nil (λ d. 0 < d))
denominators_positive (t ∷ ts) x =
    All-cons (λ d. 0 < d) (denominator_of t.coefficient) (map (λ u. denominator_of u.coefficient) ts ++ denominator_of x ∷ []) (denominator_positive t.coefficient) (denominators_positive ts x)

-- the multiple of a form
pub multiple_of_is : (f : Form Frac) (m : ℕ) → multiple_of f ≡ Ok m → IsMultiple 1 (denominators f) m
multiple_of_is f m e = multiple_is_one 1 (denominators f) m (omega arith) (lit< tt) (denominators_positive f.terms f.constant) e
