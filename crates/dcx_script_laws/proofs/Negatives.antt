-- A difference is the sum with the negative, number by number.
use Rattle.std.proofs.Common.{◌≡◌, ℕ, zero, suc, ◌<◌, ◌^◌, ℤ, neg_ℤ, ◌+ℤ◌, ◌-ℤ◌, unsigned_abs, List, [], ◌∷◌, map, Option}
use Rattle.std.proofs.Common.{Some, None, option_map, Result, Ok, Err, ◌↔◌, inl, inr, refl, sym, ap, ap₂, ◌∙◌, subst, arith}
use Rattle.std.proofs.lemmas.Int.{ints}
use Rattle.dcx_math.specs.Integers.{*ℤ-neg_ℤ_left}
use Rattle.dcx_math.specs.Rational.{neg_ℚ, ◌+ℚ◌, ◌-ℚ◌}
use Rattle.dcx_math.specs.Divisors.{divided, IsCoprime}
use Rattle.dcx_math.proofs.IntegerLaws.{unsigned_abs-neg}
use Rattle.dcx_math.proofs.Ring.{difference_is}
use Rattle.dcx_math.proofs.Orders.{neg_ℚ-neg_ℚ, neg_ℚ-zero}
use Rattle.dcx_math.proofs.Denominators.{ratio-neg_ℚ}
use Rattle.dcx_frac.specs.declared.fraction.Frac.{Frac}
use Rattle.dcx_frac.specs.declared.fraction.Op.TheVariants.{Add, Sub}
use Rattle.dcx_frac.specs.declared.fraction.Passes.{Passes}
use Rattle.dcx_frac.specs.Fits.{Fits, IsRepresentable}
use Rattle.dcx_frac.specs.Frac.{num_of, den_of, value}
use Rattle.dcx_frac.specs.Formed.{IsZero, left_term, right_term, shared_divisor, FormsSum, FormsDifference, SumFits, DifferenceFits}
use Rattle.dcx_frac.specs.Results.{sum_of, difference_of}
use Rattle.dcx_frac.proofs.Parts.{value_injective}
use Rattle.dcx_frac.proofs.Results.{IsAnswer, sum_of_is, is_difference_of}
use Rattle.dcx_shape.specs.declared.shape.Shape.{Shape}
use Rattle.dcx_shape.specs.Shape.{sides_of}
use Rattle.dcx_shape.specs.Sides.{entries_of}
use Rattle.dcx_shape.specs.declared.shape.Sides.{Sides}
use Rattle.std.specs.Option.{ok_or}
use Rattle.std.proofs.lemmas.List.{get_or_past}
use native.Mathlib.Decide.{dec_lt}
use Rattle.dcx_atom.proofs.BoundRows.{map-list_below}
use Rattle.dcx_atom.proofs.Lists.{get_or-list_below}
use Rattle.dcx_affine.specs.Places.{promoted_place}
use Rattle.dcx_array.specs.declared.fault.ArrayFault.TheVariants.{Clash}
use Rattle.dcx_atom.specs.declared.array.Array.{Array}
use Rattle.dcx_atom.specs.Arrays.{list_below}
use Rattle.dcx_atom.specs.Formed.{zero_frac, frac_at}
use Rattle.dcx_atom.proofs.FormedSums.{frac_at-value, value-zero_frac}
use Rattle.dcx_array.specs.declared.fault.ArrayFault.{ArrayFault}
use Rattle.dcx_array.specs.Answers.{and_then}
use Rattle.dcx_array.specs.Shapes.{shape_with, size_fault, allowed_shape, broadcast_of, shared_shape}
use Rattle.dcx_array.specs.Operators.{entry_beside, negated_number, negated, added, subtracted}
use Rattle.dcx_array.specs.Arrays.{entry, filled, first_stop, formed_number, formed_unless, formed_array}
use Rattle.dcx_script_laws.specs.Differences.{difference_passes, difference_fault, of_difference}

-- ---- the negative of a number
-- the number with its sign turned
opposite : Frac → Frac
opposite x = record {
  num = neg_ℤ x.num;
  den = x.den;
  positive = x.positive;
  lowest = subst (λ n. IsCoprime n (unsigned_abs x.den)) (sym (unsigned_abs-neg x.num)) x.lowest;
  num_fits = subst (λ n. n < 2 ^ 127) (sym (unsigned_abs-neg x.num)) x.num_fits;
  den_fits = x.den_fits;
}

value-opposite : (x : Frac) → value (opposite x) ≡ neg_ℚ (value x)
unfolding opposite
value-opposite x = sym (ratio-neg_ℚ x.den x.positive x.num)

negated_number-is : (x : Frac) → negated_number x ≡ opposite x
negated_number-is x = ap frac_at (sym (value-opposite x)) ∙ frac_at-value (opposite x)

opposite-twice : (x : Frac) → opposite (opposite x) ≡ x
opposite-twice x = value_injective (opposite (opposite x)) x (value-opposite (opposite x) ∙ ap neg_ℚ (value-opposite x) ∙ neg_ℚ-neg_ℚ (value x))

zero-opposite : (x : Frac) → IsZero x → IsZero (opposite x)
zero-opposite x z = value-opposite x ∙ ap neg_ℚ z ∙ neg_ℚ-zero

zero-back : (x : Frac) → IsZero (opposite x) → IsZero x
zero-back x z = ap value (sym (opposite-twice x)) ∙ zero-opposite (opposite x) z

-- ---- what a difference forms is what the sum forms
sum-opposite : (x y : Frac) → value x +ℚ value (opposite y) ≡ value x -ℚ value y
sum-opposite x y = ap (λ z. value x +ℚ z) (value-opposite y) ∙ difference_is (value x) (value y) (value x) (value y) refl refl

left-opposite : (x y : Frac) → left_term x (opposite y) ≡ left_term x y
unfolding opposite
left-opposite x y = refl

right-opposite : (x y : Frac) → right_term x (opposite y) ≡ neg_ℤ (right_term x y)
unfolding opposite
right-opposite x y = *ℤ-neg_ℤ_left (num_of y) (divided (shared_divisor x y) (den_of x))

fits-turned : (y z : ℤ) → y ≡ neg_ℤ z → Fits y ↔ Fits z
fits-turned y z e = let same : unsigned_abs y ≡ unsigned_abs z = ap unsigned_abs e ∙ unsigned_abs-neg z in (subst (λ n. n < 2 ^ 127) same, subst (λ n. n < 2 ^ 127) (sym same))

total-opposite : (x y : Frac) → left_term x (opposite y) +ℤ right_term x (opposite y) ≡ left_term x y -ℤ right_term x y
total-opposite x y = ap₂ ◌+ℤ◌ (left-opposite x y) (right-opposite x y) ∙ omega (arith, ints)

forms-difference : (x y : Frac) → FormsSum x (opposite y) → FormsDifference x y
forms-difference x y h = record {
  left = subst Fits (left-opposite x y) h.left;
  right = (fits-turned (right_term x (opposite y)) (right_term x y) (right-opposite x y)).0 h.right;
  difference = subst Fits (total-opposite x y) h.sum;
  parts = subst IsRepresentable (sum-opposite x y) h.parts;
}

forms-sum : (x y : Frac) → FormsDifference x y → FormsSum x (opposite y)
forms-sum x y h = record {
  left = subst Fits (sym (left-opposite x y)) h.left;
  right = (fits-turned (right_term x (opposite y)) (right_term x y) (right-opposite x y)).1 h.right;
  sum = subst Fits (sym (total-opposite x y)) h.difference;
  parts = subst IsRepresentable (sym (sum-opposite x y)) h.parts;
}

difference-fits : (x y : Frac) → SumFits x (opposite y) → DifferenceFits x y
difference-fits x y (inl z) = inl z
difference-fits x y (inr (inl z)) = inr (inl (zero-back y z))
difference-fits x y (inr (inr h)) = inr (inr (forms-difference x y h))

sum-fits : (x y : Frac) → DifferenceFits x y → SumFits x (opposite y)
sum-fits x y (inl z) = inl z
sum-fits x y (inr (inl z)) = inr (inl (zero-opposite y z))
sum-fits x y (inr (inr h)) = inr (inr (forms-sum x y h))

-- ---- one number
-- the same number, with what passes told of the difference
abbrev as_difference : Result Frac Passes → Result Frac Passes
as_difference (Ok z) = Ok z
as_difference (Err passes) = Err (difference_passes passes)

difference-answer : (x y : Frac) (r : Result Frac Passes) → IsAnswer Add x (opposite y) (value x +ℚ value (opposite y)) (SumFits x (opposite y)) r
    → IsAnswer Sub x y (value x -ℚ value y) (DifferenceFits x y) (as_difference r)
difference-answer x y (Ok z) a = record { exact = a.exact ∙ sum-opposite x y; fits = ((λ ok. difference-fits x y (a.fits.0 refl)), (λ fit. refl)); told = tt }
difference-answer x y (Err passes) a = record {
  exact = tt;
  fits = ((λ ok. cc), (λ fit. let ok = a.fits.1 (sum-fits x y fit) in cc));
  told = ap difference_passes a.told ∙ ap (λ z. record { op = Sub; left = x; right = z }) (negated_number-is (opposite y) ∙ opposite-twice y);
}

difference_of-is : (x y : Frac) → difference_of x y ≡ as_difference (sum_of x (negated_number y))
difference_of-is x y =
    sym (is_difference_of x y (as_difference (sum_of x (opposite y))) (difference-answer x y (sum_of x (opposite y)) (sum_of_is x (opposite y))))
    ∙ ap (λ z. as_difference (sum_of x z)) (sym (negated_number-is y))

-- ---- arrays
pub entry-negated : (b : Array) (k : ℕ) → entry (negated b) k ≡ negated_number (entry b k)
entry-negated b k = by (dec_lt k (entries_of (sides_of b.shape)))
  where
    none : negated_number zero_frac ≡ zero_frac
    none = value_injective (negated_number zero_frac) zero_frac (ap value (negated_number-is zero_frac) ∙ zero-opposite zero_frac value-zero_frac ∙ sym value-zero_frac)

    by : Dec (k < entries_of (sides_of b.shape)) → entry (negated b) k ≡ negated_number (entry b k)
    by (yes below) = get_or-list_below (entries_of (sides_of b.shape)) (λ j. negated_number (entry b j)) k zero_frac below
    by (no past) = get_or_past (negated b).entries k zero_frac (omega (arith, (negated b).full)) ∙ sym none ∙ ap negated_number (sym (get_or_past b.entries k zero_frac (omega (arith, b.full))))

first_stop-difference : (rs : List (Result Frac Passes)) → first_stop (map as_difference rs) ≡ option_map difference_passes (first_stop rs)
first_stop-difference [] = refl
first_stop-difference (Ok x ∷ rs) = first_stop-difference rs
first_stop-difference (Err passes ∷ rs) = refl

formed-difference : (r : Result Frac Passes) → formed_number (as_difference r) ≡ formed_number r
formed-difference (Ok x) = refl
formed-difference (Err passes) = refl

-- arrays whose entries are told as differences
formed_array-difference : (shape : Shape) (f g : ℕ → Result Frac Passes) → ((k : ℕ) → g k ≡ as_difference (f k)) → formed_array shape g ≡ of_difference (formed_array shape f)
formed_array-difference shape f g same =
    ap (formed_array shape) (λ i k. same k i)
    ∙ ap (formed_unless shape (λ k. as_difference (f k)))
    (ap first_stop (sym (map-list_below (entries_of (sides_of shape)) f as_difference)) ∙ first_stop-difference (list_below (entries_of (sides_of shape)) f))
    ∙ by (first_stop (list_below (entries_of (sides_of shape)) f))
  where
    by : (o : Option Passes) → formed_unless shape (λ k. as_difference (f k)) (option_map difference_passes o) ≡ of_difference (formed_unless shape f o)
    by None = ap (λ h. Ok (filled shape h)) (λ i k. formed-difference (f k) i)
    by (Some passes) = refl

-- no shape tells of an operation
allowed-difference : (s : Sides) → of_difference (allowed_shape s) ≡ allowed_shape s
allowed-difference s = by (shape_with s) (entries_of s)
  where
    by : (o : Option Shape) (n : ℕ) → of_difference (ok_or o (size_fault n)) ≡ ok_or o (size_fault n)
    by (Some shape) n = refl
    by None zero = refl
    by None (suc n) = refl

shared-difference : (a b : Sides) → of_difference (shared_shape a b) ≡ shared_shape a b
shared-difference a b = by (broadcast_of a b)
  where
    by : (o : Option Sides) → of_difference (and_then (ok_or o Clash) allowed_shape) ≡ and_then (ok_or o Clash) allowed_shape
    by None = refl
    by (Some s) = allowed-difference s

pub subtracted-is : (a b : Array) → subtracted a b ≡ of_difference (added a (negated b))
subtracted-is a b = by (shared_shape (sides_of a.shape) (sides_of b.shape)) (shared-difference (sides_of a.shape) (sides_of b.shape))
  where
    by : (r : Result Shape ArrayFault) → of_difference r ≡ r
        → and_then r (λ shape. formed_array shape (λ k. difference_of (entry_beside a (sides_of shape) k) (entry_beside b (sides_of shape) k)))
        ≡ of_difference (and_then r (λ shape. formed_array shape (λ k. sum_of (entry_beside a (sides_of shape) k) (entry_beside (negated b) (sides_of shape) k))))
    by (Err fault) same = let told : difference_fault fault ≡ fault = cc in ap Err (sym told)
    by (Ok shape) same = formed_array-difference shape
        (λ k. sum_of (entry_beside a (sides_of shape) k) (entry_beside (negated b) (sides_of shape) k))
        (λ k. difference_of (entry_beside a (sides_of shape) k) (entry_beside b (sides_of shape) k))
        (λ k. difference_of-is (entry_beside a (sides_of shape) k) (entry_beside b (sides_of shape) k)
        ∙ ap (λ y. as_difference (sum_of (entry_beside a (sides_of shape) k) y)) (sym (entry-negated b (promoted_place (sides_of b.shape) (sides_of shape) k))))
