-- What holds of each item of joined lists, and where an item of a part stands in the whole.
use Rattle.std.proofs.Common.{◌≡◌, ℕ, zero, suc, ◌+◌, ◌<◌, arith, List, [], ◌∷◌, ◌++◌, length, map, Some, slice_get, refl, sym, ap, ◌∙◌, subst, ⊎_elim}
use Rattle.std.specs.List.{flat_map, range_with_len, AllZip}
use Rattle.std.proofs.lemmas.Option.{none-some, same_Some}
use Rattle.std.proofs.lemmas.List.{length-append}
use Rattle.dcx_atom.specs.Arrays.{joined_below}
use Rattle.dcx_atom.proofs.BoundRows.{below_or_last}
use Rattle.dcx_math.proofs.Lists.{in_left}
use Rattle.dcx_unknowns.proofs.Places.{in_right}

-- P holds of each item
abbrev pub Each : {A : Type 0} → (A → Type 0) → List A → Type 0
Each {A} P xs = (k : ℕ) (x : A) → slice_get xs k ≡ Some x → P x

module _ {A : Type 0} (P : A → Type 0) where
  pub each_nil : Each P []
  each_nil = λ k x e. absurd (none-some x e)

  pub each_cons : (x : A) (xs : List A) → P x → Each P xs → Each P (x ∷ xs)
  each_cons x xs p h zero y e = subst P (same_Some x y e) p
  each_cons x xs p h (suc k) y e = h k y e

  pub each_head : (x : A) (xs : List A) → Each P (x ∷ xs) → P x
  each_head x xs h = h 0 x refl

  pub each_tail : (x : A) (xs : List A) → Each P (x ∷ xs) → Each P xs
  each_tail x xs h = λ k. h (suc k)

  pub each_append : (xs ys : List A) → Each P xs → Each P ys → Each P (xs ++ ys)
  each_append [] ys h g = g
  each_append (x ∷ xs) ys h g = each_cons x (xs ++ ys) (each_head x xs h) (each_append xs ys (each_tail x xs h) g)

  pub each_left : (xs ys : List A) → Each P (xs ++ ys) → Each P xs
  each_left [] ys h = each_nil
  each_left (x ∷ xs) ys h = each_cons x xs (each_head x (xs ++ ys) h) (each_left xs ys (each_tail x (xs ++ ys) h))

  pub each_right : (xs ys : List A) → Each P (xs ++ ys) → Each P ys
  each_right [] ys h = h
  each_right (x ∷ xs) ys h = each_right xs ys (each_tail x (xs ++ ys) h)

  -- of lists that are joined
  pub each_flat : (f : ℕ → List A) (is : List ℕ) → Each (λ i. Each P (f i)) is → Each P (flat_map f is)
  each_flat f [] h = each_nil
  each_flat f (i ∷ is) h = each_append (f i) (flat_map f is) (h 0 i refl) (each_flat f is (λ k. h (suc k)))

  pub each_part : (f : ℕ → List A) (is : List ℕ) → Each P (flat_map f is) → Each (λ i. Each P (f i)) is
  each_part f [] h k j e = absurd (none-some j e)
  each_part f (i ∷ is) h zero j e = subst (λ j. Each P (f j)) (same_Some i j e) (each_left (f i) (flat_map f is) h)
  each_part f (i ∷ is) h (suc k) j e = each_part f is (each_right (f i) (flat_map f is) h) k j e

  pub each_joined : (n : ℕ) (f : ℕ → List A) → ((j : ℕ) → j < n → Each P (f j)) → Each P (joined_below n f)
  each_joined zero f h = each_nil
  each_joined (suc n) f h = each_append (joined_below n f) (f n) (each_joined n f (λ j b. h j (omega arith))) (h n (omega arith))

  pub joined_part : (n : ℕ) (f : ℕ → List A) → Each P (joined_below n f) → (j : ℕ) → j < n → Each P (f j)
  joined_part zero f h j b = absurd (omega arith)
  joined_part (suc n) f h j b =
      ⊎_elim (λ l. joined_part n f (each_left (joined_below n f) (f n) h) j l) (λ e. subst (λ i. Each P (f i)) (sym e) (each_right (joined_below n f) (f n) h)) (below_or_last j n b)

-- of the items of a mapped list
pub each_map : {A B : Type 0} (P : B → Type 0) (f : A → B) (xs : List A) → Each (λ x. P (f x)) xs → Each P (map f xs)
each_map P f [] h = each_nil P
each_map P f (x ∷ xs) h = each_cons P (f x) (map f xs) (h 0 x refl) (each_map P f xs (λ k. h (suc k)))

pub each_unmap : {A B : Type 0} (P : B → Type 0) (f : A → B) (xs : List A) → Each P (map f xs) → Each (λ x. P (f x)) xs
each_unmap P f [] h = each_nil (λ x. P (f x))
each_unmap P f (x ∷ xs) h = each_cons (λ x. P (f x)) x xs (h 0 (f x) refl) (each_unmap P f xs (λ k. h (suc k)))

-- ---- numbers in order
pub each_range : (Q : ℕ → Type 0) (a n : ℕ) → ((i : ℕ) → i < a + n → Q i) → Each Q (range_with_len a n)
each_range Q a zero h = each_nil Q
each_range Q a (suc n) h = each_cons Q a (range_with_len (a + 1) n) (h a (omega arith)) (each_range Q (a + 1) n (λ i b. h i (omega arith)))

-- ---- places
-- item k of list i stands behind the lists before it
flat_at : {A : Type 0} (f : ℕ → List A) (a n i k : ℕ) (x : A) → i < n → slice_get (f (a + i)) k ≡ Some x →
    slice_get (flat_map f (range_with_len a n)) (length (flat_map f (range_with_len a i)) + k) ≡ Some x
flat_at f a zero i k x b h = absurd (omega arith)
flat_at f a (suc n) zero k x b h =
    let z : a + 0 ≡ a = omega arith in
    let e : 0 + k ≡ k = omega arith in
    ap (slice_get (f a ++ flat_map f (range_with_len (a + 1) n))) e
    ∙ in_left (f a) (flat_map f (range_with_len (a + 1) n)) k x (subst (λ b. slice_get (f b) k ≡ Some x) z h)
flat_at f a (suc n) (suc i) k x b h =
    let s : a + suc i ≡ (a + 1) + i = omega arith in
    let rest = flat_map f (range_with_len (a + 1) i) in
    let l = length-append (f a) rest in
    let e : length (f a ++ rest) + k ≡ length (f a) + (length rest + k) = omega (arith, l) in
    ap (slice_get (f a ++ flat_map f (range_with_len (a + 1) n))) e
    ∙ in_right (f a) (flat_map f (range_with_len (a + 1) n)) (length rest + k)
    ∙ flat_at f (a + 1) n i k x (omega arith) (subst (λ b. slice_get (f b) k ≡ Some x) s h)

-- lists of the same lengths stand at the same places
pub same_place : {A B : Type 0} (f : ℕ → List A) (g : ℕ → List B) → ((i : ℕ) → length (f i) ≡ length (g i)) → (is : List ℕ) → length (flat_map f is) ≡ length (flat_map g is)
same_place f g h [] = refl
same_place f g h (i ∷ is) =
    let a = length-append (f i) (flat_map f is) in
    let b = length-append (g i) (flat_map g is) in
    let c = h i in
    let d = same_place f g h is in
    omega (arith, a, b, c, d)

pub flat_first : {A : Type 0} (f : ℕ → List A) (n i k : ℕ) (x : A) → i < n → slice_get (f i) k ≡ Some x →
    slice_get (flat_map f (range_with_len 0 n)) (length (flat_map f (range_with_len 0 i)) + k) ≡ Some x
flat_first f n i k x b h = let z : i ≡ 0 + i = omega arith in flat_at f 0 n i k x b (subst (λ q. slice_get (f q) k ≡ Some x) z h)

-- ---- two lists, item by item
module _ {A B : Type 0} (R : A → B → Type 0) where
  pub zip_append : (xs us : List A) (ys vs : List B) → AllZip R xs ys → AllZip R us vs → AllZip R (xs ++ us) (ys ++ vs)
  zip_append [] us [] vs h g = g
  zip_append [] us (y ∷ ys) vs h g = absurd h
  zip_append (x ∷ xs) us [] vs h g = absurd h
  zip_append (x ∷ xs) us (y ∷ ys) vs h g = (h.0, zip_append xs us ys vs h.1 g)

  pub zip_flat : (f : ℕ → List A) (g : ℕ → List B) (is : List ℕ) → ((i : ℕ) → AllZip R (f i) (g i)) → AllZip R (flat_map f is) (flat_map g is)
  zip_flat f g [] h = tt
  zip_flat f g (i ∷ is) h = zip_append (f i) (flat_map f is) (g i) (flat_map g is) (h i) (zip_flat f g is h)

  -- beside an item of the first list stands one of the second
  pub zip_at : (xs : List A) (ys : List B) → AllZip R xs ys → (k : ℕ) (x : A) → slice_get xs k ≡ Some x → (y : B) × (slice_get ys k ≡ Some y) × R x y
  zip_at [] [] h k x e = absurd (none-some x e)
  zip_at [] (y ∷ ys) h k x e = absurd h
  zip_at (w ∷ xs) [] h k x e = absurd h
  zip_at (w ∷ xs) (y ∷ ys) h zero x e = (y, refl, subst (λ z. R z y) (same_Some w x e) h.0)
  zip_at (w ∷ xs) (y ∷ ys) h (suc k) x e = zip_at xs ys h.1 k x e
