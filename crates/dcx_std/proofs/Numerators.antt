-- Numbers that are formed one after the other.
use Rattle.std.proofs.Common.{◌≡◌, ℕ, zero, suc, ◌+◌, ◌-◌, ◌<◌, List, [], ◌∷◌, ◌++◌, map, length, Result, Ok, Err, refl, sym, ap, ◌∙◌, append_assoc, ℤ, pos, lit<, arith}
use Rattle.std.specs.List.{range_with_len}
use Rattle.std.proofs.lemmas.List.{append-nil, length-map}
use native.Mathlib.Nat.{eq-one_of_dvd-one}
use Rattle.dcx_math.specs.Rational.{whole}
use Rattle.dcx_math.proofs.LowestTerms.{lowest_terms_unique}
use Rattle.dcx_math.proofs.Ratios.{ratio-one}
use Rattle.std.proofs.lemmas.Int.{ints}
use Rattle.std.specs.Prelude.{◌<ℤ◌}
use Rattle.dcx_frac.specs.declared.fraction.Frac.{Frac}
use Rattle.dcx_frac.specs.declared.fraction.Passes.{Passes}
use Rattle.dcx_frac.specs.Frac.{num_of, value}
use Rattle.dcx_frac.proofs.Parts.{value_lowest}
use Rattle.dcx_atom.specs.Formed.{and_then}
use Rattle.dcx_tab.specs.Rows.{AllSmall}
use Rattle.dcx_linear.proofs.Formed.{after}
use Rattle.dcx_std.specs.WholeRows.{numerators}

module _ {A : Type 0} (f : A → Result Frac Passes) where
  -- one more number is formed
  pub numerators_more : (ds rest : List A) (x : A) (zs : List ℤ) (y : Frac) → ds ≡ x ∷ rest → f x ≡ Ok y → after zs (numerators (map f ds)) ≡ after (zs ++ num_of y ∷ []) (numerators (map f rest))
  numerators_more ds rest x zs y is e =
      ap (λ l. after zs (numerators (map f l))) is ∙ ap (λ r. after zs (and_then r (λ z. and_then (numerators (map f rest)) (λ ws. Ok (num_of z ∷ ws))))) e ∙ by (numerators (map f rest))
    where
      by : (r : Result (List ℤ) Passes) → after zs (and_then r (λ ws. Ok (num_of y ∷ ws))) ≡ after (zs ++ num_of y ∷ []) r
      by (Ok ws) = ap Ok (sym (append_assoc zs (num_of y ∷ []) ws))
      by (Err passes) = refl

  -- the next operation passes
  pub numerators_stop : (ds rest : List A) (x : A) (zs : List ℤ) (passes : Passes) → ds ≡ x ∷ rest → f x ≡ Err passes → after zs (numerators (map f ds)) ≡ Err passes
  numerators_stop ds rest x zs passes is e = ap (λ l. after zs (numerators (map f l))) is ∙ ap (λ r. after zs (and_then r (λ z. and_then (numerators (map f rest)) (λ ws. Ok (num_of z ∷ ws))))) e

  -- nothing is left
  pub numerators_end : (ds : List A) (zs : List ℤ) → ds ≡ [] → after zs (numerators (map f ds)) ≡ Ok zs
  numerators_end ds zs is = ap (λ l. after zs (numerators (map f l))) is ∙ ap Ok (append-nil zs)

-- the numbers from a place on
pub range_next : (i n : ℕ) → i < n → range_with_len i (n - i) ≡ i ∷ range_with_len (i + 1) (n - (i + 1))
range_next i n h = let e : n - i ≡ suc (n - (i + 1)) = omega arith in ap (range_with_len i) e

-- ---- what is formed
-- what passes forms no value
pub passes_no_value : {A : Type 0} (passes : Passes) (y : A) → Err passes ≡ Ok y → ⊥
passes_no_value passes y e = cc

-- an answer is of one value
pub one_value : {A : Type 0} (r : Result A Passes) (x y : A) → r ≡ Ok x → r ≡ Ok y → x ≡ y
one_value r x y e d = cc

-- the fractions that are formed, and their numerators
pub record AreFormed (rs : List (Result Frac Passes)) (zs : List ℤ) : Type 0 where
  pub fractions : List Frac
  pub are : rs ≡ map Ok fractions
  pub numerators : zs ≡ map num_of fractions

pub formed_numerators : (rs : List (Result Frac Passes)) (zs : List ℤ) → numerators rs ≡ Ok zs → AreFormed rs zs
formed_numerators [] zs e = let d = one_value (Ok []) [] zs refl e in record { fractions = []; are = refl; numerators = sym d }
formed_numerators (Err passes ∷ rs) zs e = absurd (passes_no_value passes zs e)
formed_numerators (Ok y ∷ rs) zs e = by (numerators rs) refl e (λ ws d. formed_numerators rs ws d)
  where
    by : (r : Result (List ℤ) Passes) → numerators rs ≡ r → and_then r (λ ws. Ok (num_of y ∷ ws)) ≡ Ok zs → ((ws : List ℤ) → numerators rs ≡ Ok ws → AreFormed rs ws) → AreFormed (Ok y ∷ rs) zs
    by (Err passes) d e rest = absurd (passes_no_value passes zs e)
    by (Ok ws) d e rest =
        let h = rest ws d in
        let q = one_value (Ok (num_of y ∷ ws)) (num_of y ∷ ws) zs refl e in
        record { fractions = y ∷ h.fractions; are = ap (λ s. Ok y ∷ s) h.are; numerators = sym q ∙ ap (λ s. num_of y ∷ s) h.numerators }

nums_small : (ys : List Frac) → AllSmall (map num_of ys)
nums_small [] j = lit< tt
nums_small (y ∷ ys) zero = y.num_fits
nums_small (y ∷ ys) (suc j) = nums_small ys j

-- numerators are small
pub numerators_small : (rs : List (Result Frac Passes)) (zs : List ℤ) → numerators rs ≡ Ok zs → AllSmall zs
numerators_small rs zs e = let h = formed_numerators rs zs e in rw h.numerators (nums_small h.fractions)

-- there are as many as numbers
pub numerators_count : (rs : List (Result Frac Passes)) (zs : List ℤ) → numerators rs ≡ Ok zs → length zs ≡ length rs
numerators_count rs zs e = let h = formed_numerators rs zs e in ap length h.numerators ∙ length-map h.fractions num_of ∙ sym (ap length h.are ∙ length-map h.fractions Ok)

-- a fraction that is whole has the number above
pub num_of_whole : (x : Frac) (z : ℤ) → value x ≡ whole z → num_of x ≡ z
num_of_whole x z e =
    let one : pos 0 <ℤ pos 1 = omega (arith, ints) in
    (lowest_terms_unique (value x) (num_of x) x.den z (pos 1) (value_lowest x) (record { positive = one; coprime = λ d h k. eq-one_of_dvd-one k; is = e ∙ sym (ratio-one z one) })).0
