-- Constraints and their points, place by place.
use Rattle.std.proofs.Common.{◌≡◌, ℕ, zero, suc, List, [], ◌∷◌, Some, None, slice_get, refl, sym}
use Rattle.std.proofs.lemmas.Option.{none-some, same_Some}
use Rattle.std.specs.List.{zip}

-- where both lists have an item, the pair stands there
pub zip_some : {A B : Type 0} (xs : List A) (ys : List B) (i : ℕ) (x : A) (y : B) → slice_get xs i ≡ Some x → slice_get ys i ≡ Some y → slice_get (zip xs ys) i ≡ Some (x, y)
zip_some [] ys i x y h k = absurd (none-some x h)
zip_some (a ∷ xs) [] i x y h k = absurd (none-some y k)
zip_some (a ∷ xs) (b ∷ ys) zero x y h k = let d : a ≡ x = same_Some a x h in let e : b ≡ y = same_Some b y k in λ i. Some (d i, e i)
zip_some (a ∷ xs) (b ∷ ys) (suc i) x y h k = zip_some xs ys i x y h k

-- where one has none, there is no pair
pub zip_no_first : {A B : Type 0} (xs : List A) (ys : List B) (i : ℕ) → slice_get xs i ≡ None → slice_get (zip xs ys) i ≡ None
zip_no_first [] ys i h = refl
zip_no_first (a ∷ xs) [] i h = refl
zip_no_first (a ∷ xs) (b ∷ ys) zero h = absurd (none-some a (sym h))
zip_no_first (a ∷ xs) (b ∷ ys) (suc i) h = zip_no_first xs ys i h

pub zip_no_second : {A B : Type 0} (xs : List A) (ys : List B) (i : ℕ) → slice_get ys i ≡ None → slice_get (zip xs ys) i ≡ None
zip_no_second [] ys i h = refl
zip_no_second (a ∷ xs) [] i h = refl
zip_no_second (a ∷ xs) (b ∷ ys) zero h = absurd (none-some b (sym h))
zip_no_second (a ∷ xs) (b ∷ ys) (suc i) h = zip_no_second xs ys i h
