-- Places in order, what stands in lists that are joined, and how many entries have an unknown of their own.
use Rattle.std.proofs.Common.{◌≡◌, ◌⊎◌, inl, inr, ℕ, zero, suc, ◌+◌, ◌<◌, ◌≤◌, Bool, true, false, cond, List, [], ◌∷◌, ◌++◌, length, Option, Some, refl, sym, ap, ◌∙◌, arith, add-zero, zero-add}
use Rattle.std.specs.Prelude.{filter, count_by, sum_by, flat_map, slice_get}
use Rattle.std.specs.List.{range_with_len}
use Rattle.std.proofs.lemmas.List.{map-id, append-nil}
use Rattle.std.proofs.lemmas.List.Concat.{flat_map-append}
use Rattle.std.proofs.lemmas.List.FromFn.{length-range_with_len, get_or-range_with_len, map-range_with_len_more}
use Rattle.std.proofs.lemmas.List.Sums.{sum_by-cons, sum_by_push, length-filter, count_by-le-length}
use Rattle.std.proofs.lemmas.Option.{slice_get_within, get_or_from_slice_get}
use Rattle.dcx_shape.specs.declared.shape.Sides.{Sides}
use Rattle.dcx_shape.specs.Sides.{entries_of}
use Rattle.dcx_shape.specs.Places.{places_below}
use Rattle.dcx_call.specs.declared.attribute.Attribute.{Attribute}
use Rattle.dcx_tree.proofs.Sublists.{at_filter}
use Rattle.dcx_unknowns.specs.Own.{is_own, own_entries, own_count, own_before}

-- ---- places
-- one more place
pub places_next : (k : ℕ) → places_below (k + 1) ≡ places_below k ++ k ∷ []
places_next k = sym (map-id (places_below (k + 1))) ∙ map-range_with_len_more (λ (x : ℕ). x) 0 k k (zero-add k) ∙ ap (λ xs. xs ++ k ∷ []) (map-id (places_below k))

-- a place that is listed is below the number of places
pub place_within : (n k e : ℕ) → slice_get (places_below n) k ≡ Some e → e < n
place_within n k e at =
    let there : k < length (places_below n) = slice_get_within (places_below n) k e at in
    let lt : k < n = omega (arith, there, length-range_with_len 0 n) in
    let same = sym (get_or_from_slice_get (places_below n) k e 0 at) ∙ get_or-range_with_len 0 n k 0 lt in
    omega (arith, lt, same)

-- lists by place, one more of them
pub joined_next : {A : Type 0} (f : ℕ → List A) (k : ℕ) → flat_map f (places_below (k + 1)) ≡ flat_map f (places_below k) ++ f k
joined_next f k =
    ap (flat_map f) (places_next k) ∙ flat_map-append f (places_below k) (k ∷ []) ∙ ap (λ xs. flat_map f (places_below k) ++ xs) (append-nil (f k))

pub summed_next : (f : ℕ → ℕ) (k : ℕ) → sum_by f (places_below (k + 1)) ≡ sum_by f (places_below k) + f k
summed_next f k = ap (sum_by f) (places_next k) ∙ sum_by_push f (places_below k) k

-- ---- lists that are joined
module _ {A : Type 0} where
  pub in_right : (xs ys : List A) (k : ℕ) → slice_get (xs ++ ys) (length xs + k) ≡ slice_get ys k
  in_right [] ys k = ap (slice_get ys) (zero-add k)
  in_right (x ∷ xs) ys k =
      let e : length (x ∷ xs) + k ≡ suc (length xs + k) = omega arith in
      ap (slice_get ((x ∷ xs) ++ ys)) e ∙ in_right xs ys k

  -- what stands in the one or in the other
  pub in_either : (xs ys : List A) (k : ℕ) (x : A) → slice_get (xs ++ ys) k ≡ Some x → (slice_get xs k ≡ Some x) ⊎ ((j : ℕ) × (k ≡ length xs + j) × (slice_get ys j ≡ Some x))
  in_either [] ys k x e = inr (k, sym (zero-add k), e)
  in_either (y ∷ xs) ys zero x e = inl e
  in_either (y ∷ xs) ys (suc k) x e = elim (in_either xs ys k x e) [
    | inl h ↦ inl h
    | inr q ↦ let s = q.1 in inr (q.0, omega (arith, s), q.2)
  ]

-- ---- what passes a test
passing_more : (p : ℕ → Bool) (a : ℕ) (passing rest : List ℕ) (o : Option ℕ) (b : Bool) → p a ≡ b → slice_get passing (count_by p rest) ≡ o
    → slice_get (cond b (a ∷ passing) passing) (count_by p (a ∷ rest)) ≡ o
passing_more p a passing rest o true t e =
    let here : ◌≡◌ {A = ℕ} (cond (p a) 1 0) 1 = ap (λ c. cond c 1 0) t in
    let c : count_by p (a ∷ rest) ≡ suc (count_by p rest) = omega (arith, sum_by-cons (λ j. cond (p j) 1 0) a rest, here) in
    ap (slice_get (a ∷ passing)) c ∙ e
passing_more p a passing rest o false t e =
    let here : ◌≡◌ {A = ℕ} (cond (p a) 1 0) 0 = ap (λ c. cond c 1 0) t in
    let c : count_by p (a ∷ rest) ≡ count_by p rest = omega (arith, sum_by-cons (λ j. cond (p j) 1 0) a rest, here) in
    ap (slice_get passing) c ∙ e

-- among all that pass, as many stand before it as pass before it
passing_at : (p : ℕ → Bool) (a n d : ℕ) → d < n → p (a + d) ≡ true → slice_get (filter p (range_with_len a n)) (count_by p (range_with_len a d)) ≡ Some (a + d)
passing_at p a zero d h e = absurd (omega arith)
passing_at p a (suc n) zero h e =
    let here : p a ≡ true = ap p (sym (add-zero a)) ∙ e in
    ap (λ b. slice_get (cond b (a ∷ filter p (range_with_len (a + 1) n)) (filter p (range_with_len (a + 1) n))) 0) here ∙ ap Some (sym (add-zero a))
passing_at p a (suc n) (suc d) h e =
    let same : (a + 1) + d ≡ a + suc d = omega arith in
    passing_more p a (filter p (range_with_len (a + 1) n)) (range_with_len (a + 1) d) (Some (a + suc d)) (p a) refl
    (passing_at p (a + 1) n d (omega arith) (ap p same ∙ e) ∙ ap Some same)

module _ (a : Attribute) (s : Sides) where
  -- ---- entries with an unknown of their own
  pub own_at : (k : ℕ) → k < entries_of s → is_own a s k ≡ true → slice_get (own_entries a s) (own_before a s k) ≡ Some k
  own_at k h e = passing_at (is_own a s) 0 (entries_of s) k h (ap (is_own a s) (zero-add k) ∙ e) ∙ ap Some (zero-add k)

  -- what is listed is an entry, and has its own
  pub own_listed : (j k : ℕ) → slice_get (own_entries a s) j ≡ Some k → (k < entries_of s) × (is_own a s k ≡ true)
  own_listed j k e =
      let (i, at, own) = at_filter (is_own a s) (places_below (entries_of s)) j k e in
      (place_within (entries_of s) i k at, own)

  -- ---- how many there are
  pub own_before-next : (k : ℕ) → own_before a s (k + 1) ≡ own_before a s k + cond (is_own a s k) 1 0
  own_before-next k = summed_next (λ j. cond (is_own a s j) 1 0) k

  pub own_before-le : (k : ℕ) → own_before a s k ≤ k
  own_before-le k = omega (arith, count_by-le-length (is_own a s) (places_below k), length-range_with_len 0 k)

  pub own_count_is : own_count a s ≡ own_before a s (entries_of s)
  own_count_is = length-filter (is_own a s) (places_below (entries_of s))

  pub own_before-lt : (k : ℕ) → k < entries_of s → is_own a s k ≡ true → own_before a s k < own_count a s
  own_before-lt k h e = slice_get_within (own_entries a s) (own_before a s k) k (own_at k h e)

  -- one more entry, with its own or without
  pub own_more : (k : ℕ) → is_own a s k ≡ true → own_before a s (k + 1) ≡ own_before a s k + 1
  own_more k e = own_before-next k ∙ ap (λ b. own_before a s k + cond b 1 0) e

  pub own_no_more : (k : ℕ) → is_own a s k ≡ false → own_before a s (k + 1) ≡ own_before a s k
  own_no_more k e = own_before-next k ∙ ap (λ b. own_before a s k + cond b 1 0) e ∙ add-zero (own_before a s k)
