-- Arrays with the same shape and the same entries are one array, and so are those with the same sides and the same numbers.
use Rattle.std.proofs.Common.{◌≡◌, ℕ, suc, List, [], ◌∷◌, length, refl, sym, ap, ap₂, ◌∙◌, arith}
use mathlib.Core.HLevel.{is_prop→PathP}
use native.Mathlib.Nat.{ℕ_set}
use Rattle.dcx_frac.specs.declared.fraction.Frac.{Frac}
use Rattle.dcx_frac.proofs.Parts.{value_injective}
use Rattle.dcx_shape.specs.Shape.{sides_of}
use Rattle.dcx_shape.specs.Sides.{entries_of}
use Rattle.dcx_shape.proofs.OneShape.{shape_from_sides}
use Rattle.dcx_atom.specs.declared.array.Array.{Array}
use Rattle.dcx_atom.specs.Arrays.{number_at}

pub array_from_parts : (a b : Array) → a.shape ≡ b.shape → a.entries ≡ b.entries → a ≡ b
array_from_parts a b p q = λ i. record {
  shape = p i;
  entries = q i;
  full = is_prop→PathP (λ j. length (q j) ≡ entries_of (sides_of (p j))) (λ j. ℕ_set (length (q j)) (entries_of (sides_of (p j)))) a.full b.full i;
}

-- lists with the same numbers
same_entries : (xs ys : List Frac) → length xs ≡ length ys → ((j : ℕ) → number_at xs j ≡ number_at ys j) → xs ≡ ys
same_entries [] [] e h = refl
same_entries [] (y ∷ ys) e h = absurd (omega (arith, e))
same_entries (x ∷ xs) [] e h = absurd (omega (arith, e))
same_entries (x ∷ xs) (y ∷ ys) e h = ap₂ ◌∷◌ (value_injective x y (h 0)) (same_entries xs ys (omega (arith, e)) (λ j. h (suc j)))

pub array_from_numbers : (a b : Array) → sides_of a.shape ≡ sides_of b.shape → ((j : ℕ) → number_at a.entries j ≡ number_at b.entries j) → a ≡ b
array_from_numbers a b s h =
    array_from_parts a b (shape_from_sides a.shape b.shape s) (same_entries a.entries b.entries (a.full ∙ ap entries_of s ∙ sym b.full) h)
