-- Calls of indices with equal parts are equal, and a list is what its elements are.
use Rattle.std.specs.Prelude.{◌≡◌, ℕ, ◌<◌, List, [], ◌∷◌, length}
use Rattle.std.specs.List.{All}
use Rattle.std.proofs.Common.{suc, zero, get_or, sym, ap₂, ◌∙◌, arith, refl}
use Rattle.std.proofs.Props.{props}
use mathlib.Core.HLevel.{is_prop→PathP}
use native.Mathlib.Nat.{ℕ_set}
use Rattle.dcx_shape.specs.Shape.{sides_of}
use Rattle.dcx_shape.specs.Sides.{entries_of}
use Rattle.dcx_atom.specs.Arrays.{list_below}
use Rattle.dcx_atom.proofs.BoundRows.{list_below-first}
use Rattle.dcx_affine.specs.declared.places.Index.{Index}

places_prop : (n : ℕ) (ps : List ℕ) → IsProp (All (λ p. p < n) ps)
places_prop n ps = hlevel props

pub index_from_parts : (a b : Index) → a.from ≡ b.from → a.to ≡ b.to → a.places ≡ b.places → a ≡ b
index_from_parts a b p q r = λ i. record {
  from = p i;
  to = q i;
  places = r i;
  count = is_prop→PathP (λ j. length (r j) ≡ entries_of (sides_of (q j))) (λ j. ℕ_set (length (r j)) (entries_of (sides_of (q j)))) a.count b.count i;
  within = is_prop→PathP (λ j. All (λ k. k < entries_of (sides_of (p j))) (r j)) (λ j. places_prop (entries_of (sides_of (p j))) (r j)) a.within b.within i;
}

-- a list whose element k is f k
pub list_below-is : {A : Type 0} (n : ℕ) (f : ℕ → A) (xs : List A) → length xs ≡ n → ((k : ℕ) (d : A) → k < n → get_or xs k d ≡ f k) → xs ≡ list_below n f
list_below-is zero f [] e each = refl
list_below-is zero f (x ∷ xs) e each = absurd (omega arith)
list_below-is (suc n) f [] e each = absurd (omega arith)
list_below-is (suc n) f (x ∷ xs) e each =
    ap₂ (λ y ys. y ∷ ys) (each 0 x (omega arith)) (list_below-is n (λ i. f (suc i)) xs (omega arith) (λ k d b. each (suc k) d (omega arith)))
    ∙ sym (list_below-first n f)
