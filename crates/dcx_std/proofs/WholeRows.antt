-- What a whole row is made of.
use Rattle.std.proofs.Common.{◌≡◌, ◌≢◌, ℕ, zero, suc, ◌+◌, ◌<◌, ◌≤◌, ◌^◌, List, map, length, get_or, drop, Result, Ok, Err, refl, sym, ap, ◌∙◌, ℤ, pos, unsigned_abs, lit<, arith}
use Rattle.std.proofs.lemmas.List.{length-map, drop_more, drop_all}
use Rattle.std.specs.Prelude.{◌<ℤ◌}
use Rattle.std.proofs.lemmas.Int.{ints}
use Rattle.dcx_math.specs.Rational.{whole, ◌/ℚ◌, ◌<ℚ◌}
use Rattle.dcx_math.specs.Divisors.{gcd, gcd_of, divided}
use Rattle.dcx_math.proofs.Divisors.{gcd_assoc, gcd_comm, gcd-zero}
use Rattle.dcx_frac.specs.declared.fraction.Frac.{Frac}
use Rattle.dcx_frac.specs.declared.fraction.Passes.{Passes}
use Rattle.dcx_frac.specs.Frac.{value}
use Rattle.dcx_frac.specs.Results.{product_of}
use Rattle.dcx_atom.specs.Formed.{frac_at, and_then}
use Rattle.dcx_linear.specs.declared.form.Form.{Form}
use Rattle.dcx_linear.specs.declared.row.RowKind.{RowKind}
use Rattle.dcx_tab.specs.Rows.{AllSmall}
use Rattle.dcx_tab.proofs.LineSteps.{gcd_of-below, small-divided}
use Rattle.dcx_std.specs.declared.whole.WholeRow.{WholeRow}
use Rattle.dcx_std.specs.Multiples.{denominators, multiple_of}
use Rattle.dcx_std.specs.WholeRows.{numerators, or_one, divisor_of, lowest_row, whole_row_of}
use Rattle.dcx_std.proofs.Multiples.{IsMultiple, multiple_of_is}
use Rattle.dcx_lp_answer.proofs.Fractions.{value-quotient, quotient_positive}
use Rattle.dcx_std.proofs.Numerators.{passes_no_value, one_value, numerators_small, numerators_count}

-- ---- the divisor
pub or_one_positive : (n : ℕ) → 0 < or_one n
or_one_positive zero = omega arith
or_one_positive (suc n) = omega arith

pub or_one_some : (n : ℕ) → n ≢ 0 → or_one n ≡ n
or_one_some zero h = absurd (h refl)
or_one_some (suc n) h = refl

or_one_below : (n k : ℕ) → 1 < k → n < k → or_one n < k
or_one_below zero k h l = h
or_one_below (suc n) k h l = l

-- a positive number is a positive signed one
signed_positive : (n : ℕ) → 0 < n → pos 0 <ℤ pos n
signed_positive n h = omega (arith, ints)

-- the divisor of small numbers is small
pub divisor_below : (zs : List ℤ) → AllSmall zs → divisor_of zs < 2 ^ 127
divisor_below zs h = or_one_below (gcd_of zs) (2 ^ 127) (lit< tt) (gcd_of-below zs (2 ^ 127) (lit< tt) h)

-- ---- the steps by which a whole row is formed
pub record IsFormedBy (kind : RowKind) (f : Form Frac) (numbers : List Frac) (w : WholeRow) : Type 0 where
  pub multiple : ℕ
  pub products : List ℤ
  pub multiple_is : multiple_of f ≡ Ok multiple
  pub products_are : numerators (map (product_of (frac_at (whole (pos multiple)))) numbers) ≡ Ok products
  pub is : w ≡ lowest_row kind multiple products

pub formed_by : (kind : RowKind) (f : Form Frac) (numbers : List Frac) (w : WholeRow) → whole_row_of kind f numbers ≡ Ok w → IsFormedBy kind f numbers w
formed_by kind f numbers w e = by (multiple_of f) refl e
  where
    then_products : (m : ℕ) → multiple_of f ≡ Ok m → (r : Result (List ℤ) Passes) → numerators (map (product_of (frac_at (whole (pos m)))) numbers) ≡ r
        → and_then r (λ zs. Ok (lowest_row kind m zs)) ≡ Ok w → IsFormedBy kind f numbers w
    then_products m h (Err passes) d e = absurd (passes_no_value passes w e)
    then_products m h (Ok zs) d e = let q = one_value (Ok (lowest_row kind m zs)) (lowest_row kind m zs) w refl e in
        record { multiple = m; products = zs; multiple_is = h; products_are = d; is = sym q }

    by : (r : Result ℕ Passes) → multiple_of f ≡ r → and_then r (λ m. and_then (numerators (map (product_of (frac_at (whole (pos m)))) numbers)) (λ zs. Ok (lowest_row kind m zs))) ≡ Ok w
        → IsFormedBy kind f numbers w
    by (Err passes) d e = absurd (passes_no_value passes w e)
    by (Ok m) d e = then_products m d (numerators (map (product_of (frac_at (whole (pos m)))) numbers)) refl e

-- what is formed is the row
pub whole_row_is : (kind : RowKind) (f : Form Frac) (numbers : List Frac) (m : ℕ) (zs : List ℤ) → multiple_of f ≡ Ok m → numerators (map (product_of (frac_at (whole (pos m)))) numbers) ≡ Ok zs
    → whole_row_of kind f numbers ≡ Ok (lowest_row kind m zs)
whole_row_is kind f numbers m zs e d =
    ap (λ r. and_then r (λ k. and_then (numerators (map (product_of (frac_at (whole (pos k)))) numbers)) (λ ys. Ok (lowest_row kind k ys)))) e
    ∙ ap (λ r. and_then r (λ ys. Ok (lowest_row kind m ys))) d

-- a product that passes is told
pub whole_row_passes : (kind : RowKind) (f : Form Frac) (numbers : List Frac) (m : ℕ) (passes : Passes) → multiple_of f ≡ Ok m
    → numerators (map (product_of (frac_at (whole (pos m)))) numbers) ≡ Err passes
    → whole_row_of kind f numbers ≡ Err passes
whole_row_passes kind f numbers m passes e d =
    ap (λ r. and_then r (λ k. and_then (numerators (map (product_of (frac_at (whole (pos k)))) numbers)) (λ ys. Ok (lowest_row kind k ys)))) e
    ∙ ap (λ r. and_then r (λ ys. Ok (lowest_row kind m ys))) d

module _ (kind : RowKind) (f : Form Frac) (numbers : List Frac) (w : WholeRow) (h : IsFormedBy kind f numbers w) where
  pub multiple_facts : IsMultiple 1 (denominators f) h.multiple
  multiple_facts = multiple_of_is f h.multiple h.multiple_is

  pub products_small : AllSmall h.products
  products_small = numerators_small (map (product_of (frac_at (whole (pos h.multiple)))) numbers) h.products h.products_are

  divisor_positive : pos 0 <ℤ pos (divisor_of h.products)
  divisor_positive = signed_positive (divisor_of h.products) (or_one_positive (gcd_of h.products))

  -- the divisor is small
  pub divisor_small : divisor_of h.products < 2 ^ 127
  divisor_small = divisor_below h.products products_small

  -- its factor is the multiple over the divisor, which is positive
  pub factor_is : value w.factor ≡ whole (pos h.multiple) /ℚ whole (pos (divisor_of h.products))
  factor_is = ap (λ (v : WholeRow). value v.factor) h.is ∙ value-quotient (pos h.multiple) (pos (divisor_of h.products)) divisor_positive multiple_facts.small divisor_small

  pub factor_positive : whole (pos 0) <ℚ value w.factor
  factor_positive = rw factor_is (quotient_positive (pos h.multiple) (pos (divisor_of h.products)) (signed_positive h.multiple multiple_facts.positive) divisor_positive)

  -- its numbers are small
  pub whole_small : AllSmall w.numbers
  whole_small = rw h.is (small-divided (divisor_of h.products) h.products (numerators_small (map (product_of (frac_at (whole (pos h.multiple)))) numbers) h.products h.products_are))

  -- there are as many as before
  pub whole_count : length w.numbers ≡ length numbers
  whole_count =
      ap (λ (v : WholeRow). length v.numbers) h.is ∙ length-map h.products (divided (divisor_of h.products))
      ∙ numerators_count (map (product_of (frac_at (whole (pos h.multiple)))) numbers) h.products h.products_are ∙ length-map numbers (product_of (frac_at (whole (pos h.multiple))))

  -- it keeps the kind of the row
  pub whole_kind : w.kind ≡ kind
  whole_kind = ap (λ (v : WholeRow). v.kind) h.is

-- ---- one more number
-- the divisor of one number and of the rest
pub gcd_next : (found : ℕ) (zs : List ℤ) (j : ℕ) → j < length zs → gcd (gcd found (unsigned_abs (get_or zs j (pos 0)))) (gcd_of (drop (j + 1) zs)) ≡ gcd found (gcd_of (drop j zs))
gcd_next found zs j l = gcd_assoc found (unsigned_abs (get_or zs j (pos 0))) (gcd_of (drop (j + 1) zs)) ∙ ap (λ r. gcd found (gcd_of r)) (sym (drop_more zs j (pos 0) l))

pub gcd_first : (zs : List ℤ) → gcd 0 (gcd_of zs) ≡ gcd_of zs
gcd_first zs = gcd_comm 0 (gcd_of zs) ∙ gcd-zero (gcd_of zs)

pub gcd_last : (found : ℕ) (zs : List ℤ) (j : ℕ) → length zs ≤ j → gcd found (gcd_of (drop j zs)) ≡ found
gcd_last found zs j l = ap (λ r. gcd found (gcd_of r)) (drop_all j zs l) ∙ gcd-zero found
