-- Runs of bytes of one kind: where they end, and that they end at one place alone.
use Rattle.std.proofs.Common.{◌≡◌, ℕ, ◌+◌, ◌<◌, ◌≤◌, List, [], ◌∷◌, ◌++◌, length, drop, ◌⊎◌, inl, inr, Bool, true, false, refl, sym, ap, ◌∙◌, subst, arith}
use Rattle.std.proofs.Math.ListN.{drop_of_length-le}
use Rattle.std.proofs.lemmas.Bool.Decides.{nat_tests}
use Rattle.std.proofs.lemmas.List.{append-nil}
use Rattle.std.specs.Prelude.{nat_lt}
use Rattle.std.specs.List.{AllByRecursion}
use Rattle.dcx_lines.specs.Reading.{BeginsWithout}
use Rattle.dcx_lines.proofs.FracText.{same_before, absent}

-- what stands behind a run is nothing, or begins with another byte
abbrev pub Ends : (ℕ → Type 0) → List ℕ → Type 0
Ends P xs = (xs ≡ []) ⊎ BeginsWithout P xs

nothing_ends : (P : ℕ → Type 0) (xs ys r : List ℕ) → AllByRecursion P xs → BeginsWithout P r → xs ≡ ys ++ r → ⊥
nothing_ends P xs ys r h begins e =
    let all : AllByRecursion P (ys ++ begins.byte ∷ begins.tail) = subst (AllByRecursion P) (e ∙ ap (λ t. ys ++ t) begins.is) h in
    begins.without (absent P ys begins.tail begins.byte all)

-- a run that is ended by another byte is all of the first run
pub one_run : (P : ℕ → Type 0) (xs ys r s : List ℕ) → AllByRecursion P xs → AllByRecursion P ys → Ends P r → BeginsWithout P s → xs ++ r ≡ ys ++ s → (xs ≡ ys) × (r ≡ s)
one_run P xs ys r s h k (inl e) begins same =
    absurd (nothing_ends P xs ys s h begins (sym (ap (λ t. xs ++ t) e ∙ append-nil xs) ∙ same))
one_run P xs ys r s h k (inr first) begins same = same_before P xs ys r s h k first begins same

-- where all bytes are of the kind, nothing stands behind them
pub whole_run : (P : ℕ → Type 0) (xs ys r : List ℕ) → AllByRecursion P ys → Ends P r → xs ++ r ≡ ys → r ≡ []
whole_run P xs ys r k (inl e) same = e
whole_run P xs ys r k (inr begins) same = absurd (nothing_ends P ys xs r k begins (sym same))

-- the bytes from a place on, where they are a run's end
pub ends_at : (P : ℕ → Type 0) (bs : List ℕ) (i : ℕ) → i ≤ length bs → (i < length bs → BeginsWithout P (drop i bs)) → Ends P (drop i bs)
ends_at P bs i l h = by (nat_lt i (length bs)) refl
  where
    by : (b : Bool) → nat_lt i (length bs) ≡ b → Ends P (drop i bs)
    by true e = inr (h (grind (arith, nat_tests)))
    by false e = inl (drop_of_length-le bs (grind (arith, nat_tests)))
