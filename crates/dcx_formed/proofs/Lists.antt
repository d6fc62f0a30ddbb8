-- Lists that are made by places: what holds of each item, and when two are the same.
use Rattle.std.proofs.Common.{◌≡◌, ℕ, zero, suc, ◌+◌, ◌<◌, arith, List, [], ◌∷◌, ◌++◌, length, map, Some, slice_get, slice_index_or, refl, ap, ap₂, ◌∙◌, subst}
use Rattle.std.specs.List.{flat_map, range_with_len, AllByRecursion}
use Rattle.std.proofs.lemmas.List.{map-append}
use Rattle.std.proofs.lemmas.Option.{none-some, same_Some}
use Rattle.dcx_atom.specs.Arrays.{list_below, joined_below}
use Rattle.dcx_atom.proofs.BoundRows.{list_below-first}
use Rattle.dcx_unknowns.proofs.Places.{joined_next}

module _ {A : Type 0} where
  pub joined_same : (n : ℕ) (f g : ℕ → List A) → ((i : ℕ) → i < n → f i ≡ g i) → joined_below n f ≡ joined_below n g
  joined_same zero f g h = refl
  joined_same (suc n) f g h = ap₂ (λ x y. x ++ y) (joined_same n f g (λ i b. h i (omega arith))) (h n (omega arith))

  pub joined_none : (n : ℕ) (f : ℕ → List A) → ((i : ℕ) → i < n → f i ≡ []) → joined_below n f ≡ []
  joined_none zero f h = refl
  joined_none (suc n) f h = ap₂ (λ x y. x ++ y) (joined_none n f (λ i b. h i (omega arith))) (h n (omega arith))

  pub flat_below : (f : ℕ → List A) (n : ℕ) → flat_map f (range_with_len 0 n) ≡ joined_below n f
  flat_below f zero = refl
  flat_below f (suc n) = let e : suc n ≡ n + 1 = omega arith in ap (λ m. flat_map f (range_with_len 0 m)) e ∙ joined_next f n ∙ ap (λ xs. xs ++ f n) (flat_below f n)

pub map-joined : {A B : Type 0} (h : A → B) (n : ℕ) (f : ℕ → List A) → map h (joined_below n f) ≡ joined_below n (λ i. map h (f i))
map-joined h zero f = refl
map-joined h (suc n) f = map-append h (joined_below n f) (f n) ∙ ap (λ xs. xs ++ map h (f n)) (map-joined h n f)

-- a list by its places
pub list_of : {A B : Type 0} (h : A → B) (xs : List A) (d : A) → list_below (length xs) (λ k. h (slice_index_or xs k d)) ≡ map h xs
list_of h [] d = refl
list_of h (x ∷ xs) d = list_below-first (length xs) (λ k. h (slice_index_or (x ∷ xs) k d)) ∙ ap (λ ys. h x ∷ ys) (list_of h xs d)

-- two lists that are the same place by place
pub maps_same : {A B D : Type 0} (h : A → D) (r : B → D) (xs : List A) (ys : List B) → length xs ≡ length ys
    → ((k : ℕ) (x : A) (y : B) → slice_get xs k ≡ Some x → slice_get ys k ≡ Some y → h x ≡ r y) → map h xs ≡ map r ys
maps_same h r [] [] e same = refl
maps_same h r [] (y ∷ ys) e same = absurd (omega (arith, e))
maps_same h r (x ∷ xs) [] e same = absurd (omega (arith, e))
maps_same h r (x ∷ xs) (y ∷ ys) e same = ap₂ ◌∷◌ (same 0 x y refl refl) (maps_same h r xs ys (omega (arith, e)) (λ k. same (suc k)))

pub all_at : {A : Type 0} (P : A → Type 0) (xs : List A) → AllByRecursion P xs → (k : ℕ) (x : A) → slice_get xs k ≡ Some x → P x
all_at P [] h k x e = absurd (none-some x e)
all_at P (y ∷ ys) h zero x e = subst P (same_Some y x e) h.0
all_at P (y ∷ ys) h (suc k) x e = all_at P ys h.1 k x e
