-- Lists, what is left of them by a test, and names that stand in them once.
use Rattle.std.proofs.Common.{◌≡◌, ℕ, zero, suc, Bool, true, false, cond, List, [], ◌∷◌, ◌++◌, length, map, take, get_or, Some, refl, sym, ap, ap₂, ◌∙◌, subst, true≢false, ◌+◌, ◌<◌}
use Rattle.std.specs.Prelude.{◌||◌, filter}
use Rattle.std.specs.List.{slice_get, Contains, list_any, AllByRecursion, IsDistinct}
use Rattle.std.proofs.lemmas.List.{append-nil}
use Rattle.std.proofs.lemmas.List.Elements.{filter_more}
use Rattle.std.proofs.lemmas.Option.{none-some, same_Some, slice_get_within, slice_get-get_or, get_or_from_slice_get}
use Rattle.dcx_point.specs.Pairs.{same_name}
use Rattle.dcx_point.proofs.Puts.{same_name-refl}

module _ {X : Type 0} where
  -- an element and its place
  pub contains_at : (xs : List X) (x : X) → Contains xs x → (k : ℕ) × (slice_get xs k ≡ Some x)
  contains_at xs x (k, lt, e) = (k, slice_get-get_or xs k x lt ∙ ap Some e)

  pub at_contains : (xs : List X) (k : ℕ) (x : X) → slice_get xs k ≡ Some x → Contains xs x
  at_contains xs k x e = (k, slice_get_within xs k x e, get_or_from_slice_get xs k x x e)

  -- ---- tests
  -- what passes the test is left
  pub filter_at : (p : X → Bool) (xs : List X) (k : ℕ) (x : X) → slice_get xs k ≡ Some x → p x ≡ true → (j : ℕ) × (slice_get (filter p xs) j ≡ Some x)
  filter_at p [] k x e t = absurd (none-some x e)
  filter_at p (y ∷ xs) zero x e t =
      let s : p y ≡ true = ap p (same_Some y x e) ∙ t in
      (0, rw s e)
  filter_at p (y ∷ xs) (suc k) x e t =
      let r = filter_at p xs k x e t in
      elim (p y) as (λ b. (j : ℕ) × (slice_get (cond b (y ∷ filter p xs) (filter p xs)) j ≡ Some x)) [ true ↦ (suc r.0, r.1) | false ↦ r ]

  -- what is left was there, and passes the test
  pub at_filter : (p : X → Bool) (xs : List X) (j : ℕ) (x : X) → slice_get (filter p xs) j ≡ Some x → (k : ℕ) × (slice_get xs k ≡ Some x) × (p x ≡ true)
  at_filter p [] j x e = absurd (none-some x e)
  at_filter p (y ∷ xs) j x e = by (λ i. at_filter p xs i x) (p y) refl j e
    where
      by : ((i : ℕ) → slice_get (filter p xs) i ≡ Some x → (k : ℕ) × (slice_get xs k ≡ Some x) × (p x ≡ true)) →
          (b : Bool) → p y ≡ b → (i : ℕ) → slice_get (cond b (y ∷ filter p xs) (filter p xs)) i ≡ Some x → (k : ℕ) × (slice_get (y ∷ xs) k ≡ Some x) × (p x ≡ true)
      by rest true t zero h = (0, h, ap p (sym (same_Some y x h)) ∙ t)
      by rest true t (suc i) h = let r = rest i h in (suc r.0, r.1, r.2)
      by rest false t i h = let r = rest i h in (suc r.0, r.1, r.2)

  -- an element that passes the test
  pub any_at : (p : X → Bool) (xs : List X) → list_any p xs ≡ true → (k : ℕ) × (x : X) × (slice_get xs k ≡ Some x) × (p x ≡ true)
  any_at p [] e = absurd (true≢false (sym e))
  any_at p (y ∷ xs) e = by (any_at p xs) (p y) refl e
    where
      by : (list_any p xs ≡ true → (k : ℕ) × (x : X) × (slice_get xs k ≡ Some x) × (p x ≡ true)) →
          (b : Bool) → p y ≡ b → (b || list_any p xs) ≡ true → (k : ℕ) × (x : X) × (slice_get (y ∷ xs) k ≡ Some x) × (p x ≡ true)
      by rest true t h = (0, y, refl, t)
      by rest false t h = let r = rest h in (suc r.0, r.1, r.2, r.3)

  pub at_any : (p : X → Bool) (xs : List X) (k : ℕ) (x : X) → slice_get xs k ≡ Some x → p x ≡ true → list_any p xs ≡ true
  at_any p [] k x e t = absurd (none-some x e)
  at_any p (y ∷ xs) zero x e t = let s : p y ≡ true = ap p (same_Some y x e) ∙ t in rw s refl
  at_any p (y ∷ xs) (suc k) x e t = by (at_any p xs k x e t) (p y)
    where
      by : list_any p xs ≡ true → (b : Bool) → (b || list_any p xs) ≡ true
      by rest true = refl
      by rest false = rest

  -- ---- names that stand once
  all_at : (P : List ℕ → Type 0) (f : X → List ℕ) (xs : List X) (j : ℕ) (w : X) → AllByRecursion P (map f xs) → slice_get xs j ≡ Some w → P (f w)
  all_at P f [] j w all e = absurd (none-some w e)
  all_at P f (x ∷ xs) zero w all e = subst (λ y. P (f y)) (same_Some x w e) all.0
  all_at P f (x ∷ xs) (suc j) w all e = all_at P f xs j w all.1 e

  apart : (f : X → List ℕ) (x w : X) → same_name (f x) (f w) ≡ false → ¬ (f x ≡ f w)
  apart f x w e s = true≢false (sym (same_name-refl (f x)) ∙ ap (same_name (f x)) s ∙ e)

  pub one_name : (f : X → List ℕ) (xs : List X) → IsDistinct same_name (map f xs) → (i j : ℕ) (v w : X) → slice_get xs i ≡ Some v → slice_get xs j ≡ Some w → f v ≡ f w → v ≡ w
  unfolding IsDistinct
  one_name f [] d i j v w e h s = absurd (none-some v e)
  one_name f (x ∷ xs) d zero zero v w e h s = sym (same_Some x v e) ∙ same_Some x w h
  one_name f (x ∷ xs) d zero (suc j) v w e h s =
      absurd (apart f x w (all_at (λ y. same_name (f x) y ≡ false) f xs j w d.0 h) (ap f (same_Some x v e) ∙ s))
  one_name f (x ∷ xs) d (suc i) zero v w e h s =
      absurd (apart f x v (all_at (λ y. same_name (f x) y ≡ false) f xs i v d.0 e) (ap f (same_Some x w h) ∙ sym s))
  one_name f (x ∷ xs) d (suc i) (suc j) v w e h s = one_name f xs d.1 i j v w e h s

  -- the names of what is left stand once, where others follow
  all_left : (P : List ℕ → Type 0) (f : X → List ℕ) (p : X → Bool) (xs : List X) (more less : List (List ℕ)) → (AllByRecursion P more → AllByRecursion P less) →
      AllByRecursion P (map f xs ++ more) → AllByRecursion P (map f (filter p xs) ++ less)
  all_left P f p [] more less h all = h all
  all_left P f p (x ∷ xs) more less h all =
      let rest = all_left P f p xs more less h all.1 in
      elim (p x) as (λ b. AllByRecursion P (map f (cond b (x ∷ filter p xs) (filter p xs)) ++ less)) [ true ↦ (all.0, rest) | false ↦ rest ]

  distinct_left : (f : X → List ℕ) (p : X → Bool) (xs : List X) (more less : List (List ℕ)) →
      ((P : List ℕ → Type 0) → AllByRecursion P more → AllByRecursion P less) → (IsDistinct same_name more → IsDistinct same_name less) →
      IsDistinct same_name (map f xs ++ more) → IsDistinct same_name (map f (filter p xs) ++ less)
  unfolding IsDistinct
  distinct_left f p [] more less h k d = k d
  distinct_left f p (x ∷ xs) more less h k d =
      let rest = distinct_left f p xs more less h k d.1 in
      let here = all_left (λ y. same_name (f x) y ≡ false) f p xs more less (h (λ y. same_name (f x) y ≡ false)) d.0 in
      elim (p x) as (λ b. IsDistinct same_name (map f (cond b (x ∷ filter p xs) (filter p xs)) ++ less)) [ true ↦ (here, rest) | false ↦ rest ]

-- of two lists one after the other, each
all_front : (P : List ℕ → Type 0) (xs ys : List (List ℕ)) → AllByRecursion P (xs ++ ys) → AllByRecursion P xs
all_front P [] ys all = tt
all_front P (x ∷ xs) ys all = (all.0, all_front P xs ys all.1)

pub distinct_front : (xs ys : List (List ℕ)) → IsDistinct same_name (xs ++ ys) → IsDistinct same_name xs
unfolding IsDistinct
distinct_front [] ys d = tt
distinct_front (x ∷ xs) ys d = (all_front (λ y. same_name x y ≡ false) xs ys d.0, distinct_front xs ys d.1)

pub distinct_back : (xs ys : List (List ℕ)) → IsDistinct same_name (xs ++ ys) → IsDistinct same_name ys
unfolding IsDistinct
distinct_back [] ys d = d
distinct_back (x ∷ xs) ys d = distinct_back xs ys d.1

-- the names of what is left of two lists stand once
pub distinct_both : {X Y : Type 0} (f : X → List ℕ) (g : Y → List ℕ) (p : X → Bool) (q : Y → Bool) (xs : List X) (ys : List Y) →
    IsDistinct same_name (map f xs ++ map g ys) → IsDistinct same_name (map f (filter p xs) ++ map g (filter q ys))
distinct_both f g p q xs ys d =
    distinct_left f p xs (map g ys) (map g (filter q ys))
    (λ P all. rw append-nil at (all_left P g q ys [] [] (λ h. h) (rw (append-nil (map g ys)) all)))
    (λ d'. rw append-nil at (distinct_left g q ys [] [] (λ P h. h) (λ h. h) (rw (append-nil (map g ys)) d')))
    d

-- a step of a loop that keeps what passes a test
module _ {X : Type 0} (p : X → Bool) (xs : List X) (i : ℕ) (x : X) (old new : List X) (lt : i < length xs) (is : x ≡ get_or xs i x) (was : old ≡ filter p (take i xs)) where
  more : (b : Bool) → p x ≡ b → filter p (take (i + 1) xs) ≡ filter p (take i xs) ++ cond b (x ∷ []) []
  more b t =
      filter_more p xs i x lt
      ∙ ap (λ (z : X). filter p (take i xs) ++ cond (p z) (z ∷ []) []) (sym is)
      ∙ ap (λ c. filter p (take i xs) ++ cond c (x ∷ []) []) t

  pub filter_kept : (y : X) → p x ≡ true → y ≡ x → new ≡ old ++ y ∷ [] → new ≡ filter p (take (i + 1) xs)
  filter_kept y t same added = added ∙ ap₂ (λ zs z. zs ++ z ∷ []) was same ∙ sym (more true t)

  pub filter_dropped : p x ≡ false → new ≡ old → new ≡ filter p (take (i + 1) xs)
  filter_dropped t same = same ∙ was ∙ sym (append-nil (filter p (take i xs))) ∙ sym (more false t)
