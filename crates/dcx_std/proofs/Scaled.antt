-- A whole row is a row of fractions times its factor.
use Rattle.std.proofs.Common.{◌≡◌, ◌≢◌, ℕ, zero, suc, ◌+◌, ◌*◌, ◌/◌, ◌<◌, ◌^◌, List, [], ◌∷◌, ◌++◌, map, get_or, Option, Some}
use Rattle.std.proofs.Common.{None, Ok, refl, sym, ap, ap₂, ◌∙◌, ℤ, pos, negsuc, unsigned_abs, lit<, arith}
use Rattle.std.specs.Prelude.{◌<ℤ◌, ◌*ℤ◌, neg_ℤ}
use Rattle.std.specs.List.{All, range_with_len}
use Rattle.std.proofs.lemmas.Int.{ints}
use Rattle.std.proofs.lemmas.List.Elements.{All-head, All-tail, All-cons, All-nil}
use Rattle.std.proofs.lemmas.Result.{IfOk-at_ok}
use native.Mathlib.Nat.{one-dvd, div-mul_cancel}
use Prim.Native.Nat.{◌∣◌}
use Rattle.dcx_math.specs.Rational.{ℚ, whole, ◌*ℚ◌, ◌/ℚ◌, neg_ℚ, ◌<ℚ◌}
use Rattle.dcx_math.specs.Sums.{rat_scaled}
use Rattle.dcx_math.specs.Divisors.{gcd_of, divided}
use Rattle.dcx_math.proofs.Orders.{*ℚ_assoc, *ℚ_comm, *ℚ-zero, *ℚ-neg_ℚ, <ℚ-≢}
use Rattle.dcx_math.proofs.FieldLaws.{whole-*ℤ, whole-neg_ℤ}
use Rattle.dcx_math.proofs.Products.{/ℚ-*ℚ, *ℚ_cancel, whole-<ℤ}
use Rattle.dcx_math.proofs.Divisors.{divided_is}
use Rattle.dcx_math.proofs.Primitive.{gcd_of-dvd}
use Rattle.dcx_math.proofs.Ratios.{ratio-*ℚ-whole}
use Rattle.dcx_frac.specs.declared.fraction.Frac.{Frac}
use Rattle.dcx_frac.specs.Frac.{num_of, value}
use Rattle.dcx_frac.specs.Results.{product_of}
use Rattle.dcx_frac.proofs.Results.{product_of_is}
use Rattle.dcx_atom.specs.Formed.{zero_frac, one_frac, frac_at}
use Rattle.dcx_atom.proofs.FormedSums.{value-zero_frac}
use Rattle.dcx_atom.proofs.Fractions.{value-negative}
use Rattle.dcx_linear.specs.declared.form.FormTerm.{FormTerm}
use Rattle.dcx_linear.specs.declared.form.Form.{Form}
use Rattle.dcx_linear.specs.declared.row.RowKind.{RowKind}
use Rattle.dcx_linear.specs.Terms.{term_at}
use Rattle.dcx_linear.specs.TermLaws.{term_at-All}
use Rattle.dcx_linear.specs.FormTerms.{unknown_of}
use Rattle.dcx_tab.specs.Rows.{entry}
use Rattle.dcx_std.specs.declared.whole.WholeRow.{WholeRow}
use Rattle.dcx_std.specs.Multiples.{denominator_of, denominators}
use Rattle.dcx_std.specs.WholeRows.{coefficient_or_zero, coefficient_at, coefficients, opposite, row_numbers, cost_numbers, or_one, divisor_of}
use Rattle.dcx_lp_answer.proofs.Fractions.{value-whole}
use Rattle.dcx_std.proofs.Numerators.{formed_numerators, num_of_whole}
use Rattle.dcx_std.proofs.WholeRows.{IsFormedBy, multiple_facts, factor_is, or_one_positive}

-- ---- numbers that a multiple makes whole
pub record IsWholeTimes (m : ℕ) (x : ℚ) : Type 0 where
  pub integer : ℤ
  pub is : whole (pos m) *ℚ x ≡ whole integer

positive_is : (z : ℤ) → pos 0 <ℤ z → z ≡ pos (unsigned_abs z)
positive_is (pos n) h = refl
positive_is (negsuc n) h = absurd (omega (arith, ints, h))

-- a multiple of its denominator makes a fraction whole
whole_times : (m : ℕ) (x : Frac) → denominator_of x ∣ m → IsWholeTimes m (value x)
whole_times m x h =
    let d = denominator_of x in
    let q = m / d in
    let e : q * d ≡ m = div-mul_cancel d h in
    record {
      integer = pos q *ℤ num_of x;
      is =
          ap (λ k. whole (pos k) *ℚ value x) (sym e) ∙ ap (λ y. y *ℚ value x) (whole-*ℤ (pos q) (pos d)) ∙ *ℚ_assoc (whole (pos q)) (whole (pos d)) (value x)
          ∙ ap (λ y. whole (pos q) *ℚ y) (*ℚ_comm (whole (pos d)) (value x) ∙ ap (λ z. value x *ℚ whole z) (sym (positive_is x.den x.positive)) ∙ ratio-*ℚ-whole x.num x.den x.positive)
          ∙ sym (whole-*ℤ (pos q) (num_of x));
    }

whole_opposite : (m : ℕ) (x : Frac) → IsWholeTimes m (value x) → IsWholeTimes m (value (opposite x))
whole_opposite m x h = record {
  integer = neg_ℤ h.integer;
  is = ap (λ y. whole (pos m) *ℚ y) (value-negative x) ∙ *ℚ-neg_ℚ (whole (pos m)) (value x) ∙ ap neg_ℚ h.is ∙ sym (whole-neg_ℤ h.integer);
}

-- ---- the numbers of a form
module _ (m : ℕ) (f : Form Frac) (divides : All (λ d. d ∣ m) (denominators f)) where
  of_terms : (ts : List (FormTerm Frac)) (x : Frac) → All (λ d. d ∣ m) (map (λ t. denominator_of t.coefficient) ts ++ denominator_of x ∷ [])
      → All (λ t. denominator_of t.coefficient ∣ m) ts × (denominator_of x ∣ m)
  of_terms [] x h = (All-nil (λ (t : FormTerm Frac). denominator_of t.coefficient ∣ m), All-head (λ d. d ∣ m) (denominator_of x) [] h)
  of_terms (t ∷ ts) x h =
      let rest = of_terms ts x (All-tail (λ d. d ∣ m) (denominator_of t.coefficient) (map (λ u. denominator_of u.coefficient) ts ++ denominator_of x ∷ []) h) in (
        All-cons (λ u. denominator_of u.coefficient ∣ m) t ts (All-head (λ d. d ∣ m) (denominator_of t.coefficient) (map (λ u. denominator_of u.coefficient) ts ++ denominator_of x ∷ []) h) rest.0,
        rest.1,
      )

  whole_constant : IsWholeTimes m (value f.constant)
  whole_constant = whole_times m f.constant (of_terms f.terms f.constant divides).1

  whole_coefficient : (u : ℕ) → IsWholeTimes m (value (coefficient_at f.terms u))
  whole_coefficient u = by (term_at unknown_of f.terms u) refl
    where
      by : (o : Option (FormTerm Frac)) → term_at unknown_of f.terms u ≡ o → IsWholeTimes m (value (coefficient_or_zero o))
      by None e = whole_times m zero_frac (one-dvd m)
      by (Some t) e = whole_times m t.coefficient (term_at-All unknown_of (λ s. denominator_of s.coefficient ∣ m) f.terms u t (of_terms f.terms f.constant divides).0 e)

  All-range : (P : Frac → Type 0) (g : ℕ → Frac) → ((u : ℕ) → P (g u)) → (a n : ℕ) → All P (map g (range_with_len a n))
  All-range P g h a zero = All-nil P
  All-range P g h a (suc n) = All-cons P (g a) (map g (range_with_len (a + 1) n)) (h a) (All-range P g h (a + 1) n)

  All-after : (P : Frac → Type 0) (xs ys : List Frac) → All P xs → All P ys → All P (xs ++ ys)
  All-after P [] ys h k = k
  All-after P (x ∷ xs) ys h k = All-cons P x (xs ++ ys) (All-head P x xs h) (All-after P xs ys (All-tail P x xs h) k)

  All-opposite : (xs : List Frac) → All (λ x. IsWholeTimes m (value x)) xs → All (λ x. IsWholeTimes m (value x)) (map opposite xs)
  All-opposite [] h = All-nil (λ x. IsWholeTimes m (value x))
  All-opposite (x ∷ xs) h =
      All-cons (λ y. IsWholeTimes m (value y)) (opposite x) (map opposite xs) (whole_opposite m x (All-head (λ y. IsWholeTimes m (value y)) x xs h))
      (All-opposite xs (All-tail (λ y. IsWholeTimes m (value y)) x xs h))

  pub whole_row_numbers : (n : ℕ) → All (λ x. IsWholeTimes m (value x)) (row_numbers n f)
  whole_row_numbers n =
      All-after (λ x. IsWholeTimes m (value x)) (coefficients n f) (opposite f.constant ∷ []) (All-range (λ x. IsWholeTimes m (value x)) (coefficient_at f.terms) whole_coefficient 0 n)
      (All-cons (λ x. IsWholeTimes m (value x)) (opposite f.constant) [] (whole_opposite m f.constant whole_constant) (All-nil (λ x. IsWholeTimes m (value x))))

  whole_one : IsWholeTimes m (value one_frac)
  whole_one = record { integer = pos m *ℤ pos 1; is = ap (λ y. whole (pos m) *ℚ y) (value-whole (pos 1) (lit< tt)) ∙ sym (whole-*ℤ (pos m) (pos 1)) }

  pub whole_cost_numbers : (n : ℕ) → All (λ x. IsWholeTimes m (value x)) (cost_numbers n f)
  whole_cost_numbers n =
      All-after (λ x. IsWholeTimes m (value x)) (map opposite (coefficients n f)) (f.constant ∷ one_frac ∷ [])
      (All-opposite (coefficients n f) (All-range (λ x. IsWholeTimes m (value x)) (coefficient_at f.terms) whole_coefficient 0 n))
      (All-cons (λ x. IsWholeTimes m (value x)) f.constant (one_frac ∷ []) whole_constant (All-cons (λ x. IsWholeTimes m (value x)) one_frac [] whole_one (All-nil (λ x. IsWholeTimes m (value x)))))

-- ---- the row
whole_products : (m : ℕ) (xs ys : List Frac) → m < 2 ^ 127 → map (product_of (frac_at (whole (pos m)))) xs ≡ map Ok ys → All (λ x. IsWholeTimes m (value x)) xs
    → map whole (map num_of ys) ≡ rat_scaled (whole (pos m)) (map value xs)
whole_products m [] [] small e h = refl
whole_products m [] (y ∷ ys) small e h = cc
whole_products m (x ∷ xs) [] small e h = cc
whole_products m (x ∷ xs) (y ∷ ys) small e h =
    let by = frac_at (whole (pos m)) in
    let p : product_of by x ≡ Ok y = cc in
    let rest : map (product_of by) xs ≡ map Ok ys = cc in
    let w : IsWholeTimes m (value x) = All-head (λ z. IsWholeTimes m (value z)) x xs h in
    let v : value y ≡ whole (pos m) *ℚ value x = IfOk-at_ok (λ z. value z ≡ value by *ℚ value x) p (product_of_is by x).exact ∙ ap (λ u. u *ℚ value x) (value-whole (pos m) small) in
    ap₂ ◌∷◌ (ap whole (num_of_whole y w.integer (v ∙ w.is)) ∙ sym w.is) (whole_products m xs ys small rest (All-tail (λ z. IsWholeTimes m (value z)) x xs h))

module _ (m d : ℕ) (some : 0 < d) where
  d_positive : whole (pos 0) <ℚ whole (pos d)
  d_positive = whole-<ℤ (pos 0) (pos d) (omega (arith, ints, some))

  d_some : whole (pos d) ≢ whole (pos 0)
  d_some z = <ℚ-≢ d_positive (sym z)

  divided_one : (z : ℤ) (x : ℚ) → d ∣ unsigned_abs z → whole z ≡ whole (pos m) *ℚ x → whole (divided d z) ≡ (whole (pos m) /ℚ whole (pos d)) *ℚ x
  divided_one z x h e =
      *ℚ_cancel (whole (pos d)) d_some
      (sym (whole-*ℤ (pos d) (divided d z)) ∙ ap whole (divided_is d z h) ∙ e
      ∙ ap (λ q. q *ℚ x) (sym (/ℚ-*ℚ (whole (pos m)) (whole (pos d)) d_some) ∙ *ℚ_comm (whole (pos m) /ℚ whole (pos d)) (whole (pos d)))
      ∙ *ℚ_assoc (whole (pos d)) (whole (pos m) /ℚ whole (pos d)) x)

  divided_all : (zs : List ℤ) (xs : List ℚ) → All (λ z. d ∣ unsigned_abs z) zs → map whole zs ≡ rat_scaled (whole (pos m)) xs
      → map whole (map (divided d) zs) ≡ rat_scaled (whole (pos m) /ℚ whole (pos d)) xs
  divided_all [] [] h e = refl
  divided_all [] (x ∷ xs) h e = cc
  divided_all (z ∷ zs) [] h e = cc
  divided_all (z ∷ zs) (x ∷ xs) h e =
      let here : whole z ≡ whole (pos m) *ℚ x = cc in
      let rest : map whole zs ≡ rat_scaled (whole (pos m)) xs = cc in
      ap₂ ◌∷◌ (divided_one z x (All-head (λ y. d ∣ unsigned_abs y) z zs h) here) (divided_all zs xs (All-tail (λ y. d ∣ unsigned_abs y) z zs h) rest)

or_one_divides : (n m : ℕ) → n ∣ m → or_one n ∣ m
or_one_divides zero m h = one-dvd m
or_one_divides (suc n) m h = h

divisor_divides : (zs : List ℤ) → All (λ z. divisor_of zs ∣ unsigned_abs z) zs
divisor_divides zs k d l = or_one_divides (gcd_of zs) (unsigned_abs (get_or zs k d)) (gcd_of-dvd zs k d l)

-- the numbers of a whole row are its factor times those of the row
pub scaled_numbers : (kind : RowKind) (f : Form Frac) (numbers : List Frac) (w : WholeRow) (h : IsFormedBy kind f numbers w) → All (λ x. IsWholeTimes h.multiple (value x)) numbers
    → map whole w.numbers ≡ rat_scaled (value w.factor) (map value numbers)
scaled_numbers kind f numbers w h each =
    let made = formed_numerators (map (product_of (frac_at (whole (pos h.multiple)))) numbers) h.products h.products_are in
    let products : map whole h.products ≡ rat_scaled (whole (pos h.multiple)) (map value numbers) = ap (map whole) made.numerators
    ∙ whole_products h.multiple numbers made.fractions (multiple_facts kind f numbers w h).small made.are each in
    ap (λ (v : WholeRow). map whole v.numbers) h.is ∙ divided_all h.multiple (divisor_of h.products) (or_one_positive (gcd_of h.products)) h.products (map value numbers)
    (divisor_divides h.products) products
    ∙ ap (λ k. rat_scaled k (map value numbers)) (sym (factor_is kind f numbers w h))

-- so is each one
pub scaled_at : (k : ℚ) (zs : List ℤ) (xs : List Frac) (j : ℕ) → map whole zs ≡ rat_scaled k (map value xs) → whole (entry zs j) ≡ k *ℚ value (get_or xs j zero_frac)
scaled_at k [] [] j e = sym (ap (λ y. k *ℚ y) value-zero_frac ∙ *ℚ-zero k)
scaled_at k [] (x ∷ xs) j e = cc
scaled_at k (z ∷ zs) [] j e = cc
scaled_at k (z ∷ zs) (x ∷ xs) zero e = cc
scaled_at k (z ∷ zs) (x ∷ xs) (suc j) e = let rest : map whole zs ≡ rat_scaled k (map value xs) = cc in scaled_at k zs xs j rest
