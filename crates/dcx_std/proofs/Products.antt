-- The products with the coefficients of a row, each put in the place of its unknown.
use Rattle.std.proofs.Common.{◌≡◌, ◌≢◌, ℕ, zero, suc, ◌+◌, ◌<◌, Bool, true, false, List, [], ◌∷◌, ◌++◌, length, map, get_or, take, set, replicate, Result, Ok}
use Rattle.std.proofs.Common.{Err, refl, sym, ap, ap₂, ◌∙◌, subst, ℤ, pos, arith}
use Rattle.std.specs.List.{range_with_len}
use Rattle.std.proofs.lemmas.List.{get_or-set_same, get_or-set_other, map-append}
use native.Mathlib.Decide.{ℕ_discrete}
use Rattle.dcx_math.specs.Rational.{whole, neg_ℚ, ◌*ℚ◌}
use Rattle.dcx_math.specs.Rising.{IsRising}
use Rattle.dcx_math.proofs.Lists.{map-map}
use Rattle.dcx_math.proofs.Orders.{*ℚ-zero, neg_ℚ-zero}
use Rattle.dcx_frac.specs.declared.fraction.Frac.{Frac}
use Rattle.dcx_frac.specs.declared.fraction.Passes.{Passes}
use Rattle.dcx_frac.specs.Fits.{IsRepresentable}
use Rattle.dcx_frac.specs.Frac.{value, num_of}
use Rattle.dcx_frac.specs.Results.{product_of}
use Rattle.dcx_frac.proofs.Parts.{value_representable}
use Rattle.dcx_frac.proofs.Results.{is_product_of}
use Rattle.dcx_atom.specs.Formed.{zero_frac, frac_at, and_then}
use Rattle.dcx_atom.proofs.FormedSums.{value-zero_frac, frac_at-zero}
use Rattle.dcx_tab.specs.Rows.{entry}
use Rattle.dcx_tab.proofs.RowLaws.{zeros_at}
use Rattle.dcx_linear.specs.declared.form.Form.{Form}
use Rattle.dcx_linear.specs.declared.form.FormTerm.{FormTerm}
use Rattle.dcx_linear.specs.FormTerms.{unknown_of}
use Rattle.dcx_linear.proofs.Formed.{after}
use Rattle.dcx_std.specs.WholeRows.{coefficient_at, coefficients, opposite, turned_frac, product_with, numerators}
use Rattle.dcx_std.proofs.Coefficients.{coefficient_here, coefficient_elsewhere, coefficient_in_all, coefficient_before}

-- ---- numbers that are formed at places
-- a number is formed, and this stands above
pub record IsNumerator (r : Result Frac Passes) (z : ℤ) : Type 0 where
  pub number : Frac
  pub is : r ≡ Ok number
  pub above : z ≡ num_of number

-- a number is formed at each place
pub numerators_filled : (f : ℕ → Result Frac Passes) (a n : ℕ) (zs : List ℤ) → length zs ≡ n → ((j : ℕ) → j < n → IsNumerator (f (a + j)) (entry zs j))
    → numerators (map f (range_with_len a n)) ≡ Ok zs
numerators_filled f a zero [] l h = refl
numerators_filled f a zero (z ∷ zs) l h = absurd (omega (arith, l))
numerators_filled f a (suc n) [] l h = absurd (omega (arith, l))
numerators_filled f a (suc n) (z ∷ zs) l h =
    let first = h 0 (omega arith) in
    let here : a + 0 ≡ a = omega arith in
    let next : (j : ℕ) → a + suc j ≡ a + 1 + j = λ j. omega arith in
    let rest = numerators_filled f (a + 1) n zs (omega (arith, l)) (λ j k. subst (λ i. IsNumerator (f i) (entry zs j)) (next j) (h (suc j) (omega (arith, k)))) in
    ap (λ r. and_then r (λ x. and_then (numerators (map f (range_with_len (a + 1) n))) (λ ys. Ok (num_of x ∷ ys)))) (ap f (sym here) ∙ first.is)
    ∙ ap (λ r. and_then r (λ ys. Ok (num_of first.number ∷ ys))) rest ∙ ap (λ y. Ok (y ∷ zs)) (sym first.above)

-- the first place where none is formed
pub numerators_first : (f : ℕ → Result Frac Passes) (a n v : ℕ) (passes : Passes) → v < n → ((j : ℕ) → j < v → (x : Frac) × (f (a + j) ≡ Ok x)) → f (a + v) ≡ Err passes
    → numerators (map f (range_with_len a n)) ≡ Err passes
numerators_first f a zero v passes l h e = absurd (omega (arith, l))
numerators_first f a (suc n) zero passes l h e =
    let here : a + 0 ≡ a = omega arith in
    ap (λ r. and_then r (λ x. and_then (numerators (map f (range_with_len (a + 1) n))) (λ ys. Ok (num_of x ∷ ys)))) (ap f (sym here) ∙ e)
numerators_first f a (suc n) (suc v) passes l h e =
    let first = h 0 (omega arith) in
    let here : a + 0 ≡ a = omega arith in
    let next : (j : ℕ) → a + suc j ≡ a + 1 + j = λ j. omega arith in
    let rest = numerators_first f (a + 1) n v passes (omega (arith, l)) (λ j k. subst (λ i. (x : Frac) × (f i ≡ Ok x)) (next j) (h (suc j) (omega (arith, k)))) (ap f (sym (next v)) ∙ e) in
    ap (λ r. and_then r (λ x. and_then (numerators (map f (range_with_len (a + 1) n))) (λ ys. Ok (num_of x ∷ ys)))) (ap f (sym here) ∙ first.1)
    ∙ ap (λ r. and_then r (λ ys. Ok (num_of first.0 ∷ ys))) rest

-- ---- numbers behind others
pub after_is : {T : Type 0} (ts : List T) (r : Result (List T) Passes) → after ts r ≡ and_then r (λ us. Ok (ts ++ us))
after_is ts (Ok us) = refl
after_is ts (Err passes) = refl

pub numerators_behind : (rs ss : List (Result Frac Passes)) (zs : List ℤ) → numerators rs ≡ Ok zs → numerators (rs ++ ss) ≡ and_then (numerators ss) (λ more. Ok (zs ++ more))
numerators_behind [] ss zs e = let d : [] ≡ zs = cc in by zs d (numerators ss)
  where
    by : (ys : List ℤ) → [] ≡ ys → (r : Result (List ℤ) Passes) → r ≡ and_then r (λ more. Ok (ys ++ more))
    by [] d (Ok more) = refl
    by [] d (Err passes) = refl
    by (y ∷ ys) d r = cc
numerators_behind (Err passes ∷ rs) ss zs e = cc
numerators_behind (Ok x ∷ rs) ss zs e = by (numerators rs) (λ ys d. numerators_behind rs ss ys d) refl e
  where
    all : (ys : List ℤ) (r : Result (List ℤ) Passes) → and_then (and_then r (λ more. Ok (ys ++ more))) (λ ws. Ok (num_of x ∷ ws)) ≡ and_then r (λ more. Ok ((num_of x ∷ ys) ++ more))
    all ys (Ok more) = refl
    all ys (Err passes) = refl

    by : (r : Result (List ℤ) Passes) → ((ys : List ℤ) → numerators rs ≡ Ok ys → numerators (rs ++ ss) ≡ and_then (numerators ss) (λ more. Ok (ys ++ more))) → numerators rs ≡ r
        → and_then r (λ ws. Ok (num_of x ∷ ws)) ≡ Ok zs → numerators (Ok x ∷ (rs ++ ss)) ≡ and_then (numerators ss) (λ more. Ok (zs ++ more))
    by (Err passes) rest is d = cc
    by (Ok ys) rest is d =
        let q : num_of x ∷ ys ≡ zs = cc in
        ap (λ r. and_then r (λ ws. Ok (num_of x ∷ ws))) (rest ys is) ∙ all ys (numerators ss) ∙ ap (λ ws. and_then (numerators ss) (λ more. Ok (ws ++ more))) q

pub numerators_front : (rs ss : List (Result Frac Passes)) (passes : Passes) → numerators rs ≡ Err passes → numerators (rs ++ ss) ≡ Err passes
numerators_front [] ss passes e = cc
numerators_front (Err p ∷ rs) ss passes e = e
numerators_front (Ok x ∷ rs) ss passes e = by (numerators rs) (λ d. numerators_front rs ss passes d) refl e
  where
    by : (r : Result (List ℤ) Passes) → (numerators rs ≡ Err passes → numerators (rs ++ ss) ≡ Err passes) → numerators rs ≡ r → and_then r (λ ws. Ok (num_of x ∷ ws)) ≡ Err passes
        → numerators (Ok x ∷ (rs ++ ss)) ≡ Err passes
    by (Ok ys) rest is d = cc
    by (Err p) rest is d = let q : p ≡ passes = cc in ap (λ r. and_then r (λ ws. Ok (num_of x ∷ ws))) (rest (is ∙ ap Err q))

-- ---- products with coefficients
-- a coefficient that isn't listed is 0, and so is its opposite
turned_zero : (b : Bool) → turned_frac b zero_frac ≡ zero_frac
turned_zero true = ap (λ q. frac_at (neg_ℚ q)) value-zero_frac ∙ ap frac_at neg_ℚ-zero ∙ frac_at-zero
turned_zero false = refl

-- a product with 0 is 0, which fits
zero_product : (by : Frac) → product_of by zero_frac ≡ Ok zero_frac
zero_product by =
    let exact : value zero_frac ≡ value by *ℚ value zero_frac = value-zero_frac ∙ sym (ap (λ q. value by *ℚ q) value-zero_frac ∙ *ℚ-zero (value by)) in
    sym (is_product_of by zero_frac (Ok zero_frac) (record { exact = exact; fits = ((λ s. subst IsRepresentable exact (value_representable zero_frac)), (λ k. refl)); told = tt }))

module _ (by : Frac) (is_turned : Bool) where
  -- where no term is listed, all products are 0
  pub products_none : (n u : ℕ) → IsNumerator (product_with by is_turned [] u) (entry (replicate n (pos 0)) u)
  products_none n u = record { number = zero_frac; is = ap (product_of by) (turned_zero is_turned) ∙ zero_product by; above = zeros_at n u }

  module _ (ts : List (FormTerm Frac)) (rising : IsRising unknown_of ts) (i : ℕ) (t : FormTerm Frac) (lt : i < length ts) (is : t ≡ get_or ts i t) (n : ℕ) (zs : List ℤ) (count : length zs ≡ n)
      (told : (u : ℕ) → u < n → IsNumerator (product_with by is_turned (take i ts) u) (entry zs u)) where
    -- one more product is put in its place
    pub product_more : (x : Frac) → product_of by (turned_frac is_turned t.coefficient) ≡ Ok x → (u : ℕ) → u < n
        → IsNumerator (product_with by is_turned (take (i + 1) ts) u) (entry (set zs t.unknown (num_of x)) u)
    product_more x e u h = at (ℕ_discrete t.unknown u)
      where
        at : Dec (t.unknown ≡ u) → IsNumerator (product_with by is_turned (take (i + 1) ts) u) (entry (set zs t.unknown (num_of x)) u)
        at (yes d) = record {
          number = x;
          is = ap (λ c. product_of by (turned_frac is_turned c)) (coefficient_here ts rising i t lt is u d) ∙ e;
          above = ap (λ v. entry (set zs t.unknown (num_of x)) v) (sym d) ∙ get_or-set_same zs t.unknown (num_of x) (pos 0) (omega (arith, d, h, count));
        }
        at (no d) = record {
          number = (told u h).number;
          is = ap (λ c. product_of by (turned_frac is_turned c)) (coefficient_elsewhere ts rising i t lt is u d) ∙ (told u h).is;
          above = get_or-set_other zs t.unknown u (num_of x) (pos 0) (λ e. d (sym e)) ∙ (told u h).above;
        }

    -- the first product that passes
    pub product_stops : (passes : Passes) → t.unknown < n → product_of by (turned_frac is_turned t.coefficient) ≡ Err passes
        → numerators (map (product_with by is_turned ts) (range_with_len 0 n)) ≡ Err passes
    product_stops passes l e =
        let there : product_with by is_turned ts t.unknown ≡ Err passes = ap (λ c. product_of by (turned_frac is_turned c)) (coefficient_in_all ts rising i t lt is) ∙ e in
        let from : (j : ℕ) → 0 + j ≡ j = λ j. omega arith in
        numerators_first (product_with by is_turned ts) 0 n t.unknown passes l
        (λ j k. (
          (told j (omega (arith, k, l))).number,
          ap (product_with by is_turned ts) (from j) ∙ ap (λ c. product_of by (turned_frac is_turned c)) (coefficient_before ts rising i t lt is j k) ∙ (told j (omega (arith, k, l))).is,
        ))
        (ap (product_with by is_turned ts) (from t.unknown) ∙ there)

  -- all products
  pub products_all : (ts : List (FormTerm Frac)) (n : ℕ) (zs : List ℤ) → length zs ≡ n → ((u : ℕ) → u < n → IsNumerator (product_with by is_turned ts u) (entry zs u))
      → numerators (map (product_with by is_turned ts) (range_with_len 0 n)) ≡ Ok zs
  products_all ts n zs count told =
      let from : (j : ℕ) → j ≡ 0 + j = λ j. omega arith in
      numerators_filled (product_with by is_turned ts) 0 n zs count (λ j l. subst (λ u. IsNumerator (product_with by is_turned ts u) (entry zs j)) (from j) (told j l))

  -- they are the products with the coefficients in order
  pub products_in_order : (f : Form Frac) (n : ℕ) → map (product_of by) (map (turned_frac is_turned) (coefficients n f)) ≡ map (product_with by is_turned f.terms) (range_with_len 0 n)
  products_in_order f n =
      map-map (turned_frac is_turned) (product_of by) (coefficients n f) ∙ map-map (coefficient_at f.terms) (λ x. product_of by (turned_frac is_turned x)) (range_with_len 0 n)

-- no number is turned
pub none_turned : (xs : List Frac) → map (turned_frac false) xs ≡ xs
none_turned [] = refl
none_turned (x ∷ xs) = ap (λ ys. x ∷ ys) (none_turned xs)

-- the products of a row: those of its coefficients, and those of the numbers behind them
pub row_products : (by : Frac) (xs behind : List Frac) (zs : List ℤ) → numerators (map (product_of by) xs) ≡ Ok zs
    → numerators (map (product_of by) (xs ++ behind)) ≡ and_then (numerators (map (product_of by) behind)) (λ more. Ok (zs ++ more))
row_products by xs behind zs e = ap numerators (map-append (product_of by) xs behind) ∙ numerators_behind (map (product_of by) xs) (map (product_of by) behind) zs e

pub front_passes : (by : Frac) (xs behind : List Frac) (passes : Passes) → numerators (map (product_of by) xs) ≡ Err passes → numerators (map (product_of by) (xs ++ behind)) ≡ Err passes
front_passes by xs behind passes e = ap numerators (map-append (product_of by) xs behind) ∙ numerators_front (map (product_of by) xs) (map (product_of by) behind) passes e

-- the products that are formed part by part are those of the row
module _ (by : Frac) (is_turned : Bool) (f : Form Frac) (n : ℕ) (ts : List (FormTerm Frac)) (terms : ts ≡ f.terms) (behind : List Frac) where
  abbrev numbers : List Frac
  numbers = map (turned_frac is_turned) (coefficients n f) ++ behind

  in_order : numerators (map (product_of by) (map (turned_frac is_turned) (coefficients n f))) ≡ numerators (map (product_with by is_turned ts) (range_with_len 0 n))
  in_order = ap numerators (products_in_order by is_turned f n) ∙ ap (λ us. numerators (map (product_with by is_turned us) (range_with_len 0 n))) (sym terms)

  pub coefficients_pass : (passes : Passes) → Err passes ≡ numerators (map (product_with by is_turned ts) (range_with_len 0 n)) → numerators (map (product_of by) numbers) ≡ Err passes
  coefficients_pass passes e = front_passes by (map (turned_frac is_turned) (coefficients n f)) behind passes (in_order ∙ sym e)

  pub all_products : (ps : List ℤ) → Ok ps ≡ numerators (map (product_with by is_turned ts) (range_with_len 0 n))
      → numerators (map (product_of by) numbers) ≡ and_then (numerators (map (product_of by) behind)) (λ more. Ok (ps ++ more))
  all_products ps e = row_products by (map (turned_frac is_turned) (coefficients n f)) behind ps (in_order ∙ sym e)
