-- Shapes of sides of any size, and of the same sides as they are told.
use Rattle.std.specs.Prelude.{◌≡◌, ◌↔◌, ℕ, ◌≤◌, Option, Some, None, IsSome, IfSome}
use Rattle.std.proofs.Common.{refl, sym, ◌∙◌, arith}
use Rattle.std.proofs.lemmas.Bool.{false≢true}
use Rattle.std.proofs.lemmas.Nat.{mul-le}
use Rattle.dcx_shape.specs.declared.shape.Sides.{Sides}
use Rattle.dcx_shape.specs.declared.shape.Sides.TheVariants.{Vector, Matrix}
use Rattle.dcx_shape.specs.declared.shape.Shape.{Shape}
use Rattle.dcx_shape.specs.Shape.{sides_of}
use Rattle.dcx_shape.specs.Sides.{HasFewEntries}
use Rattle.dcx_shape.proofs.Entries.{factor_pos}
use Rattle.dcx_array.specs.Shapes.{dec_few, shape_with, told}
use Rattle.dcx_array.proofs.AllowedShapes.{shape_with-is, shape_with-none}

-- a shape that is there exactly where these sides have few entries, and then has them
pub shape_is : (s : Sides) (o : Option Shape) → (IsSome o ↔ HasFewEntries s) → IfSome o (λ c. sides_of c ≡ s) → o ≡ shape_with s
shape_is s None exists is = sym (shape_with-none s (λ few. false≢true (exists.1 few)))
shape_is s (Some c) exists is = sym (shape_with-is s c is)

told-small : (n : ℕ) → n ≤ 20000 → told n ≡ n
told-small n h = omega arith

told-back : (n : ℕ) → told n ≤ 20000 → told n ≡ n
told-back n h = omega arith

-- each side of a matrix is at most the number of its entries
pub few_sides : (m n : ℕ) → HasFewEntries (Matrix m n) → (m ≤ 20000) × (n ≤ 20000)
few_sides m n few =
    let p = factor_pos 0 m n few.some in
    (omega (arith, mul-le m 1 m n (omega arith) p.1, few.most), omega (arith, mul-le 1 n m n p.0 (omega arith), few.most))

pub shape_with-told : (m n : ℕ) → shape_with (Matrix (told m) (told n)) ≡ shape_with (Matrix m n)
shape_with-told m n = by (dec_few (Matrix m n))
  where
    by : Dec (HasFewEntries (Matrix m n)) → shape_with (Matrix (told m) (told n)) ≡ shape_with (Matrix m n)
    by (yes few) = let s = few_sides m n few in rw (told-small m s.0, told-small n s.1) refl
    by (no f) =
        shape_with-none (Matrix (told m) (told n))
        (λ few. let s = few_sides (told m) (told n) few in f (rw (← told-back m s.0, ← told-back n s.1) few))
        ∙ sym (shape_with-none (Matrix m n) f)

pub shape_with-told_side : (n : ℕ) → shape_with (Vector (told n)) ≡ shape_with (Vector n)
shape_with-told_side n = by (dec_few (Vector n))
  where
    by : Dec (HasFewEntries (Vector n)) → shape_with (Vector (told n)) ≡ shape_with (Vector n)
    by (yes few) = rw (told-small n few.most) refl
    by (no f) = shape_with-none (Vector (told n)) (λ few. f (rw (← told-back n few.most) few)) ∙ sym (shape_with-none (Vector n) f)
