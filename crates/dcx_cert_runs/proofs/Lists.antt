-- One item more of a list, and items of two lists that stand at one place.
use Rattle.std.proofs.Common.{◌≡◌, ℕ, suc, ◌+◌, ◌<◌, ◌≤◌, List, [], ◌∷◌, ◌++◌, length, get_or, Some, refl, sym, ap, ap₂, ◌∙◌, subst, arith}
use native.Mathlib.Decide.{dec_lt}
use Rattle.std.specs.List.{slice_get, All}
use Rattle.std.proofs.lemmas.Option.{slice_get-get_or, slice_get_within, get_or_from_slice_get}
use Rattle.std.proofs.lemmas.List.{length_push, get_or_push}
use Rattle.std.proofs.lemmas.List.Elements.{All-from_get_or}
use Rattle.dcx_math.proofs.Lists.{in_left}

-- what holds of an item beside which another one stands holds of each
pub each_beside : {X Y : Type 0} (P : Y → Type 0) (xs : List X) (ys : List Y) (a : X) (b : Y) → length ys ≡ length xs
    → ((k : ℕ) (x : X) (y : Y) → slice_get xs k ≡ Some x → slice_get ys k ≡ Some y → P y) → All P ys
each_beside P xs ys a b e h =
    All-from_get_or P ys b (λ i lt. h i (get_or xs i a) (get_or ys i b) (slice_get-get_or xs i a (omega (arith, e, lt))) (slice_get-get_or ys i b lt))

-- lists with the same items
pub same_lists : {X : Type 0} (xs ys : List X) → length xs ≡ length ys → ((k : ℕ) (x y : X) → slice_get xs k ≡ Some x → slice_get ys k ≡ Some y → x ≡ y) → xs ≡ ys
same_lists [] [] e h = refl
same_lists [] (y ∷ ys) e h = absurd (omega (arith, e))
same_lists (x ∷ xs) [] e h = absurd (omega (arith, e))
same_lists (x ∷ xs) (y ∷ ys) e h = ap₂ ◌∷◌ (h 0 x y refl refl) (same_lists xs ys (omega (arith, e)) (λ k u v at here. h (suc k) u v at here))

-- ---- one place more
-- what holds of the items of two lists below a place, and of those at the place, holds of those below the next one
pub below_next : {X Y : Type 0} (R : X → Y → Type 0) (xs : List X) (ys : List Y) (i : ℕ) (a : X) (b : Y) → a ≡ get_or xs i a → b ≡ get_or ys i b
    → ((k : ℕ) (x : X) (y : Y) → k < i → slice_get xs k ≡ Some x → slice_get ys k ≡ Some y → R x y) → R a b
    → (k : ℕ) (x : X) (y : Y) → k < i + 1 → slice_get xs k ≡ Some x → slice_get ys k ≡ Some y → R x y
below_next R xs ys i a b ia ib h here k x y lt at there = by (dec_lt k i)
  where
    by : Dec (k < i) → R x y
    by (yes l) = h k x y l at there
    by (no n) =
        let e : k ≡ i = omega (arith, n) in
        subst (λ z. R z y) (ia ∙ get_or_from_slice_get xs i x a (subst (λ n. slice_get xs n ≡ Some x) e at))
        (subst (R a) (ib ∙ get_or_from_slice_get ys i y b (subst (λ n. slice_get ys n ≡ Some y) e there)) here)

-- what holds below a place that no item of the second list is behind holds of all
pub all_below : {X Y : Type 0} (R : X → Y → Type 0) (xs : List X) (ys : List Y) (n : ℕ) → length ys ≤ n → ((k : ℕ) (x : X) (y : Y) → k < n → slice_get xs k ≡ Some x → slice_get ys k ≡ Some y → R x y)
    → (k : ℕ) (x : X) (y : Y) → slice_get xs k ≡ Some x → slice_get ys k ≡ Some y → R x y
all_below R xs ys n end h k x y at there = let within = slice_get_within ys k y there in h k x y (omega (arith, within, end)) at there

-- ---- a list made of two
at_end : {X : Type 0} (zs : List X) (z : X) (k : ℕ) → k ≡ length zs → slice_get (zs ++ z ∷ []) k ≡ Some z
at_end zs z k e = let count = length_push zs z in slice_get-get_or (zs ++ z ∷ []) k z (omega (arith, count, e)) ∙ ap Some (get_or_push zs z z k (sym e))

-- each item so far is made of the two at its place
pub record AreMade {X Y Z : Type 0} (F : X → Y → Z) (xs : List X) (ys : List Y) (zs : List Z) (n : ℕ) : Type 0 where
  pub count : length zs ≡ n
  pub each : (k : ℕ) (x : X) (y : Y) → k < n → slice_get xs k ≡ Some x → slice_get ys k ≡ Some y → slice_get zs k ≡ Some (F x y)

module _ {X Y Z : Type 0} (F : X → Y → Z) (xs : List X) (ys : List Y) where
  pub none_made : AreMade F xs ys [] 0
  none_made = record { count = refl; each = λ k x y lt at here. absurd (omega arith) }

  -- one item more
  pub made_step : (zs : List Z) (n : ℕ) (a : X) (b : Y) (z : Z) → AreMade F xs ys zs n → a ≡ get_or xs n a → b ≡ get_or ys n b → z ≡ F a b → AreMade F xs ys (zs ++ z ∷ []) (n + 1)
  made_step zs n a b z h ia ib is = record { count = length_push zs z ∙ ap (λ k. k + 1) h.count; each = λ k x y lt at here. by k x y lt at here (dec_lt k n) }
    where
      by : (k : ℕ) (x : X) (y : Y) → k < n + 1 → slice_get xs k ≡ Some x → slice_get ys k ≡ Some y → Dec (k < n) → slice_get (zs ++ z ∷ []) k ≡ Some (F x y)
      by k x y lt at here (yes l) = in_left zs (z ∷ []) k (F x y) (h.each k x y l at here)
      by k x y lt at here (no m) =
          let e : k ≡ n = omega (arith, m) in
          let first : a ≡ x = ia ∙ get_or_from_slice_get xs n x a (subst (λ i. slice_get xs i ≡ Some x) e at) in
          let second : b ≡ y = ib ∙ get_or_from_slice_get ys n y b (subst (λ i. slice_get ys i ≡ Some y) e here) in
          at_end zs z k (e ∙ sym h.count) ∙ ap Some (is ∙ ap₂ F first second)
