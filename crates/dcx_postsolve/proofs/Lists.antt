-- Lists by their places.
use Rattle.std.proofs.Common.{◌≡◌, ℕ, zero, suc, ◌+◌, ◌<◌, List, [], ◌∷◌, map, take, drop, Some, Ok, refl, ap, ap₂, ◌∙◌, arith}
use Rattle.std.specs.Prelude.{Result, slice_get}
use Rattle.std.proofs.lemmas.Option.{none-some}

module _ {A : Type 0} where
  -- what stands in a front stands in the whole
  pub in_front : (n : ℕ) (xs : List A) (k : ℕ) (x : A) → slice_get (take n xs) k ≡ Some x → (k < n) × (slice_get xs k ≡ Some x)
  in_front zero xs k x e = absurd (none-some x e)
  in_front (suc n) [] k x e = absurd (none-some x e)
  in_front (suc n) (y ∷ xs) zero x e = (omega arith, e)
  in_front (suc n) (y ∷ xs) (suc k) x e = let (l, at) = in_front n xs k x e in (omega (arith, l), at)

  -- what stands behind a front
  pub behind : (n : ℕ) (xs : List A) (k : ℕ) → slice_get (drop n xs) k ≡ slice_get xs (n + k)
  behind zero xs k = let z : k ≡ 0 + k = omega arith in ap (slice_get xs) z
  behind (suc n) [] k = refl
  behind (suc n) (y ∷ xs) k = let z : suc (n + k) ≡ suc n + k = omega arith in behind n xs k ∙ ap (slice_get (y ∷ xs)) z

  -- what is formed is told by the answers
  pub same_formed : (E : Type 0) (xs ys : List A) → ◌≡◌ {A = List (Result A E)} (map Ok xs) (map Ok ys) → xs ≡ ys
  same_formed E [] [] e = refl
  same_formed E [] (y ∷ ys) e = absurd (cc)
  same_formed E (x ∷ xs) [] e = absurd (cc)
  same_formed E (x ∷ xs) (y ∷ ys) e =
      let here : x ≡ y = cc in
      let rest : ◌≡◌ {A = List (Result A E)} (map Ok xs) (map Ok ys) = cc in
      ap₂ ◌∷◌ here (same_formed E xs ys rest)
