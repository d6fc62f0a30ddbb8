-- Marks that are listed one after the other.
use Rattle.std.proofs.Common.{◌≡◌, ℕ, zero, suc, ◌+◌, ◌<◌, arith, Bool, List, [], ◌∷◌, ◌++◌, length, refl, sym, ap, ◌∙◌}
use Rattle.dcx_unknowns.specs.Layout.{marked}

-- one more mark
pub marked_more : (xs ys : List Bool) (x : Bool) (f : ℕ → Bool) (n : ℕ) → length xs ≡ n → ((k : ℕ) → k < n → marked xs k ≡ f k) → x ≡ f n → ys ≡ xs ++ x ∷ [] → (k : ℕ) → k < n + 1 → marked ys k ≡ f k
marked_more [] ys x f n e h is added zero b = ap (λ l. marked l 0) added ∙ is ∙ ap f (sym e)
marked_more [] ys x f n e h is added (suc k) b = absurd (omega (arith, e, b))
marked_more (y ∷ xs) ys x f n e h is added zero b = ap (λ l. marked l 0) added ∙ h 0 (omega (arith, e))
marked_more (y ∷ xs) ys x f n e h is added (suc k) b =
    ap (λ l. marked l (suc k)) added
    ∙ marked_more xs (xs ++ x ∷ []) x (λ m. f (suc m)) (length xs) refl (λ m c. h (suc m) (omega (arith, e, c))) (is ∙ ap f (sym e)) refl k (omega (arith, e, b))
