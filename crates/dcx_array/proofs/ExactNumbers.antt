-- The numbers that operators form are exact.
use Rattle.std.specs.Prelude.{◌≡◌, ◌↔◌, ◌≢◌, ℕ, ◌<◌, ℤ, pos, ◌<ℤ◌, int_le, Bool, true, false, if◌then◌else◌, List, [], ◌∷◌, map, Option, Some, None, Result, Ok, Err, IfOk, length}
use Rattle.std.specs.Option.{ok_or}
use Rattle.std.specs.List.{list_any}
use Rattle.std.proofs.Common.{refl, sym, ap, ◌∙◌, subst, arith}
use Rattle.std.proofs.lemmas.Bool.{true≢false}
use Rattle.std.proofs.lemmas.Int.{ints}
use Rattle.std.proofs.lemmas.List.Folds.{list_any_at}
use Rattle.std.proofs.lemmas.Result.{IfOk-at_ok}
use native.Mathlib.Nat.{eq-one_of_dvd-one}
use Rattle.dcx_math.specs.Rational.{ℚ, whole, neg_ℚ, ◌+ℚ◌, ◌-ℚ◌, ◌*ℚ◌, ◌/ℚ◌}
use Rattle.dcx_math.specs.Sums.{rat_sum_by}
use Rattle.dcx_math.proofs.FieldLaws.{+ℚ_idl}
use Rattle.dcx_math.specs.LowestTerms.{IsInLowestTerms}
use Rattle.dcx_math.proofs.LowestTerms.{lowest_terms_unique}
use Rattle.dcx_math.proofs.Ratios.{ratio-one, IsTrue-rat_eq}
use Rattle.dcx_frac.specs.declared.fraction.Frac.{Frac}
use Rattle.dcx_frac.specs.declared.fraction.Passes.{Passes}
use Rattle.dcx_frac.specs.Frac.{num_of, den_of, value}
use Rattle.dcx_frac.proofs.Parts.{value_lowest}
use Rattle.dcx_frac.proofs.Results.{sum_of_is, difference_of_is, product_of_is, quotient_of_is}
use Rattle.dcx_frac.proofs.Turns.{over_one}
use Rattle.dcx_shape.specs.declared.shape.Sides.{Sides}
use Rattle.dcx_shape.specs.declared.shape.Sides.TheVariants.{Scalar, Vector, Matrix}
use Rattle.dcx_shape.specs.declared.shape.Shape.{Shape}
use Rattle.dcx_shape.specs.Shape.{sides_of}
use Rattle.dcx_shape.specs.Sides.{entries_of}
use Rattle.dcx_shape.specs.Broadcast.{IsBroadcast}
use Rattle.dcx_shape.specs.Product.{IsProduct}
use Rattle.dcx_shape.proofs.Broadcasts.{broadcast_commutes}
use Rattle.dcx_atom.specs.declared.array.Array.{Array}
use Rattle.dcx_atom.specs.Formed.{zero_frac}
use Rattle.dcx_atom.proofs.FormedSums.{value-zero_frac}
use Rattle.dcx_atom.proofs.Fractions.{value-negative}
use Rattle.dcx_atom.proofs.Entrywise.{formed_entry, products_from-exact}
use Rattle.dcx_atom.proofs.Lists.{get_or-list_below}
use Rattle.dcx_affine.specs.declared.pairing.Pair.{Pair}
use Rattle.dcx_affine.specs.declared.pairing.Pairing.TheVariants.{MatTimes}
use Rattle.dcx_affine.specs.Pairing.{pairs_at}
use Rattle.dcx_affine.specs.Places.{promoted_place}
use Rattle.dcx_array.specs.declared.fault.ArrayFault.{ArrayFault}
use Rattle.dcx_array.specs.declared.fault.ArrayFault.TheVariants.{Clash}
use Rattle.dcx_array.specs.declared.operators.Operation.{Operation}
use Rattle.dcx_array.specs.declared.operators.Operation.TheVariants.{Sum, Difference, Product, Quotient}
use Rattle.dcx_array.specs.Answers.{and_then}
use Rattle.dcx_array.specs.Shapes.{allowed_shape, broadcast_of, shared_shape, multiplied_sides, multiplied_shape}
use Rattle.dcx_array.specs.Arrays.{entry, formed_array, whole_entry, whole_of}
use Rattle.dcx_array.specs.Operators.{entry_beside, operated, entrywise, is_zero, divided, product_entry, matrix_multiplied, negated_number, negated}
use Rattle.dcx_array.specs.Laws.{IsEntrywise, IsMatrixProduct}
use Rattle.dcx_array.proofs.AllowedShapes.{allowed_shape-back, product_is}
use Rattle.dcx_array.proofs.Broadcasts.{broadcast_back, promoted_within}
use Rattle.dcx_array.proofs.FormedEntries.{formed_array-Ok}

-- ---- one after the other
-- what comes of two is there where both are
pub and_then-Ok : {A B : Type 0} (r : Result A ArrayFault) (f : A → Result B ArrayFault) (y : B) → and_then r f ≡ Ok y → (x : A) × (r ≡ Ok x) × (f x ≡ Ok y)
and_then-Ok (Ok x) f y e = (x, refl, e)
and_then-Ok (Err fault) f y e = cc

ok_or-Ok : {A : Type 0} (o : Option A) (fault : ArrayFault) (x : A) → ok_or o fault ≡ Ok x → o ≡ Some x
ok_or-Ok None fault x e = cc
ok_or-Ok (Some y) fault x e = let same : y ≡ x = cc in ap Some same

-- ---- shapes
pub shared_shape-Ok : (a b : Sides) (c : Shape) → shared_shape a b ≡ Ok c → IsBroadcast a b (sides_of c)
shared_shape-Ok a b c e =
    let t = and_then-Ok (ok_or (broadcast_of a b) Clash) allowed_shape c e in
    broadcast_back a b (sides_of c) (ok_or-Ok (broadcast_of a b) Clash t.0 t.1 ∙ ap Some (sym (allowed_shape-back t.0 c t.2)))

multiplied_shape-Ok : (a b : Sides) (c : Shape) → multiplied_shape a b ≡ Ok c → IsProduct a b (sides_of c)
multiplied_shape-Ok a b c e =
    let t = and_then-Ok (ok_or (multiplied_sides a b) Clash) allowed_shape c e in
    (product_is a b (sides_of c)).0 (ok_or-Ok (multiplied_sides a b) Clash t.0 t.1 ∙ ap Some (sym (allowed_shape-back t.0 c t.2)))

-- ---- entries
-- each entry of a formed array is what was formed
formed_at : (shape : Shape) (f : ℕ → Result Frac Passes) (c : Array) → formed_array shape f ≡ Ok c → (c.shape ≡ shape) × ((k : ℕ) → k < entries_of (sides_of shape) → f k ≡ Ok (entry c k))
formed_at shape f c e =
    let t = formed_array-Ok shape f c e in
    (t.0, formed_entry f (entries_of (sides_of shape)) c.entries t.1)

-- the exact operation
abbrev pub exact_of : Operation → ℚ → ℚ → ℚ
exact_of Sum x y = x +ℚ y
exact_of Difference x y = x -ℚ y
exact_of Product x y = x *ℚ y
exact_of Quotient x y = x /ℚ y

operated_exact : (operation : Operation) (x y : Frac) → IfOk (operated operation x y) (λ z. value z ≡ exact_of operation (value x) (value y))
operated_exact Sum x y = (sum_of_is x y).exact
operated_exact Difference x y = (difference_of_is x y).exact
operated_exact Product x y = (product_of_is x y).exact
operated_exact Quotient x y = (quotient_of_is x y).exact

pub entrywise_exact : (operation : Operation) (a b c : Array) → entrywise operation a b ≡ Ok c → IsEntrywise (exact_of operation) a b c
entrywise_exact operation a b c e =
    let t = and_then-Ok (shared_shape (sides_of a.shape) (sides_of b.shape)) _ c e in
    let formed = formed_at t.0 (λ k. operated operation (entry_beside a (sides_of t.0) k) (entry_beside b (sides_of t.0) k)) c t.2 in
    subst (λ s. IsBroadcast (sides_of a.shape) (sides_of b.shape) (sides_of s)
    × ((k : ℕ) → k < entries_of (sides_of s) → value (entry c k) ≡ exact_of operation (value (entry_beside a (sides_of s) k)) (value (entry_beside b (sides_of s) k))))
    (sym formed.0) (
      shared_shape-Ok (sides_of a.shape) (sides_of b.shape) t.0 t.1,
      (λ k below. IfOk-at_ok (λ z. value z ≡ exact_of operation (value (entry_beside a (sides_of t.0) k)) (value (entry_beside b (sides_of t.0) k))) (formed.1 k below)
          (operated_exact operation (entry_beside a (sides_of t.0) k) (entry_beside b (sides_of t.0) k))),
    )

-- a quotient that is there has no divisor of 0
pub divided_exact : (a b c : Array) → divided a b ≡ Ok c → IsEntrywise ◌/ℚ◌ a b c
divided_exact a b c e = by (list_any is_zero b.entries) refl
  where
    by : (t : Bool) → list_any is_zero b.entries ≡ t → IsEntrywise ◌/ℚ◌ a b c
    by true z = let none = rw z at e in cc
    by false z = entrywise_exact Quotient a b c (rw z at e)

-- the sum of products over the pairs is that over their factors
factored : (f : Pair → Frac × Frac) (ps : List Pair) → rat_sum_by (λ x. value x.0 *ℚ value x.1) (map f ps) ≡ rat_sum_by (λ p. value (f p).0 *ℚ value (f p).1) ps
factored f [] = refl
factored f (p ∷ ps) = ap (λ s. value (f p).0 *ℚ value (f p).1 +ℚ s) (factored f ps)

pub matrix_exact : (a b c : Array) → matrix_multiplied a b ≡ Ok c → IsMatrixProduct a b c
matrix_exact a b c e =
    let t = and_then-Ok (multiplied_shape (sides_of a.shape) (sides_of b.shape)) _ c e in
    let formed = formed_at t.0 (product_entry a b) c t.2 in
    let f : Pair → Frac × Frac = λ p. (entry a p.left, entry b p.right) in
    let pairs : ℕ → List Pair = λ k. pairs_at MatTimes (sides_of a.shape) (sides_of b.shape) k in
    subst (λ s. IsProduct (sides_of a.shape) (sides_of b.shape) (sides_of s)
    × ((k : ℕ) → k < entries_of (sides_of s) → value (entry c k) ≡ rat_sum_by (λ p. value (entry a p.left) *ℚ value (entry b p.right)) (pairs_at MatTimes (sides_of a.shape) (sides_of b.shape) k)))
    (sym formed.0) (
      multiplied_shape-Ok (sides_of a.shape) (sides_of b.shape) t.0 t.1,
      (λ k below.
          IfOk-at_ok (λ z. value z ≡ value zero_frac +ℚ rat_sum_by (λ x. value x.0 *ℚ value x.1) (map f (pairs k))) (formed.1 k below) (products_from-exact zero_frac (map f (pairs k)))
          ∙ ap (λ z. z +ℚ rat_sum_by (λ x. value x.0 *ℚ value x.1) (map f (pairs k))) value-zero_frac
          ∙ +ℚ_idl (rat_sum_by (λ x. value x.0 *ℚ value x.1) (map f (pairs k)))
          ∙ factored f (pairs k)),
    )

-- ---- signs
pub signs_exact : (a : Array) (k : ℕ) → k < entries_of (sides_of a.shape) → value (entry (negated a) k) ≡ neg_ℚ (value (entry a k))
signs_exact a k b = ap value (get_or-list_below (entries_of (sides_of a.shape)) (λ j. negated_number (entry a j)) k zero_frac b) ∙ value-negative (entry a k)

-- ---- whole numbers
least : (d : ℤ) → pos 0 <ℤ d → int_le d (pos 1) ≡ true → d ≡ pos 1
least d p e = grind (arith, ints)

told_whole : (n d z : ℤ) → n ≡ z → d ≡ pos 1 → (if int_le d (pos 1) then Some n else None) ≡ Some z
told_whole n d z e h = rw (h, e) refl

is_whole : (x : Frac) (z : ℤ) → ((if int_le (den_of x) (pos 1) then Some (num_of x) else None) ≡ Some z) ↔ (value x ≡ whole z)
is_whole x z = ((λ e. there (int_le (den_of x) (pos 1)) refl e), back)
  where
    one : pos 0 <ℤ pos 1
    one = omega (arith, ints)

    there : (b : Bool) → int_le (den_of x) (pos 1) ≡ b → (if b then Some (num_of x) else None) ≡ Some z → value x ≡ whole z
    there true e p = let same : num_of x ≡ z = cc in over_one z (num_of x) (den_of x) x.positive same (least (den_of x) x.positive e)
    there false e p = cc

    lowest : IsInLowestTerms (whole z) z (pos 1)
    lowest = record { positive = one; coprime = λ d h k. eq-one_of_dvd-one k; is = sym (ratio-one z one) }

    back : value x ≡ whole z → (if int_le (den_of x) (pos 1) then Some (num_of x) else None) ≡ Some z
    back e =
        let own : IsInLowestTerms (whole z) (num_of x) (den_of x) = subst (λ v. IsInLowestTerms v (num_of x) (den_of x)) e (value_lowest x) in
        let same = lowest_terms_unique (whole z) (num_of x) (den_of x) z (pos 1) own lowest in
        told_whole (num_of x) (den_of x) z same.0 same.1

pub whole_is : (a : Array) (z : ℤ) → (whole_of a ≡ Some z) ↔ ((sides_of a.shape ≡ Scalar) × (value (entry a 0) ≡ whole z))
whole_is a z = by (sides_of a.shape)
  where
    by : (s : Sides) → (whole_entry s (entry a 0) ≡ Some z) ↔ ((s ≡ Scalar) × (value (entry a 0) ≡ whole z))
    by Scalar = ((λ e. (refl, (is_whole (entry a 0) z).0 e)), (λ h. (is_whole (entry a 0) z).1 h.1))
    by (Vector n) = ((λ e. cc), (λ h. let no : Vector n ≡ Scalar = h.0 in cc))
    by (Matrix m n) = ((λ e. cc), (λ h. let no : Matrix m n ≡ Scalar = h.0 in cc))

-- ---- divisors
-- where no entry is 0, none beside another is
pub divisor_is : (a b : Sides) (d : Array) (c : Shape) (k : ℕ) → sides_of d.shape ≡ b → IsBroadcast a b (sides_of c) → list_any is_zero d.entries ≡ false → k < entries_of (sides_of c) →
    value (entry_beside d (sides_of c) k) ≢ whole (pos 0)
divisor_is a b d c k same h none below zero =
    let turned : IsBroadcast (sides_of d.shape) a (sides_of c) = broadcast_commutes a (sides_of d.shape) (sides_of c) (subst (λ s. IsBroadcast a s (sides_of c)) (sym same) h) in
    let within : promoted_place (sides_of d.shape) (sides_of c) k < length d.entries = omega (arith, promoted_within (sides_of d.shape) a (sides_of c) k turned d.shape.few below, d.full) in
    let found : list_any is_zero d.entries ≡ true = list_any_at is_zero d.entries (promoted_place (sides_of d.shape) (sides_of c) k) zero_frac within
    ((IsTrue-rat_eq (value (entry_beside d (sides_of c) k)) (whole (pos 0))).1 zero) in
    true≢false (sym found ∙ none)
