-- Where a test first passes in a list.
use Rattle.std.proofs.Common.{◌≡◌, ℕ, zero, suc, ◌+◌, Bool, true, false, List, [], ◌∷◌, Some, None, refl, ap, ◌∙◌, arith, cond}
use Rattle.std.specs.List.{slice_get, position_from}
use Rattle.std.proofs.lemmas.Option.{none-some, same_Some}

module _ {X : Type 0} (p : X → Bool) where
  pub position_none : (k : ℕ) (xs : List X) → ((i : ℕ) (x : X) → slice_get xs i ≡ Some x → p x ≡ false) → position_from p k xs ≡ None
  position_none k [] h = refl
  position_none k (x ∷ xs) h =
      let e : p x ≡ false = h 0 x refl in
      let r = position_none (k + 1) xs (λ i. h (suc i)) in
      ap (λ b. cond b (Some k) (position_from p (k + 1) xs)) e ∙ r

  -- the only element that passes it
  pub position_some : (k : ℕ) (xs : List X) (i : ℕ) (x : X) → slice_get xs i ≡ Some x → p x ≡ true → ((j : ℕ) (y : X) → slice_get xs j ≡ Some y → p y ≡ true → j ≡ i) →
      position_from p k xs ≡ Some (k + i)
  position_some k [] i x e t only = absurd (none-some x e)
  position_some k (y ∷ xs) zero x e t only =
      let s : p y ≡ true = ap p (same_Some y x e) ∙ t in
      ap (λ b. cond b (Some k) (position_from p (k + 1) xs)) s ∙ ap Some (omega arith)
  position_some k (y ∷ xs) (suc i) x e t only =
      by (position_some (k + 1) xs i x e t (λ j z f u. let q = only (suc j) z f u in omega (arith, q)) ∙ ap Some (omega arith)) (p y) refl
    where
      by : position_from p (k + 1) xs ≡ Some (k + suc i) → (b : Bool) → p y ≡ b → cond b (Some k) (position_from p (k + 1) xs) ≡ Some (k + suc i)
      by rest true u = absurd (let q = only 0 y refl u in omega (arith, q))
      by rest false u = rest
