-- Fractions of a list, and the numbers that they are.
use Rattle.std.proofs.Common.{◌≡◌, ℕ, zero, suc, ◌<◌, ◌≤◌, List, [], ◌∷◌, length, map, get_or, Some, refl, sym, ap, arith, pos}
use Rattle.std.specs.Prelude.{slice_get}
use Rattle.std.proofs.lemmas.Option.{none-some, same_Some}
use Rattle.dcx_math.specs.Rational.{whole}
use Rattle.dcx_math.specs.Sums.{rat_at}
use Rattle.dcx_frac.specs.declared.fraction.Frac.{Frac}
use Rattle.dcx_frac.specs.Frac.{value}

-- a fraction that stands at a place has the number of that place
pub found : (xs : List Frac) (j : ℕ) (x : Frac) → slice_get xs j ≡ Some x → value x ≡ rat_at (map value xs) j
found [] j x e = absurd (none-some x e)
found (y ∷ xs) zero x e = ap value (sym (same_Some y x e))
found (y ∷ xs) (suc j) x e = found xs j x e

-- past the end there is 0
pub missing : (xs : List Frac) (j : ℕ) → length xs ≤ j → whole (pos 0) ≡ rat_at (map value xs) j
missing [] j h = refl
missing (y ∷ xs) zero h = absurd (omega arith)
missing (y ∷ xs) (suc j) h = missing xs j (omega arith)

-- a fraction that is read
pub read : (xs : List Frac) (j : ℕ) (x : Frac) → j < length xs → x ≡ get_or xs j x → value x ≡ rat_at (map value xs) j
read [] j x l is = absurd (omega arith)
read (y ∷ xs) zero x l is = ap value is
read (y ∷ xs) (suc j) x l is = read xs j x (omega arith) is
