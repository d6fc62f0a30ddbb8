-- Lists of terms of which one goes on where the other ends: their sum is the one put behind the other.
use Rattle.std.proofs.Common.{◌≡◌, ◌≢◌, ℕ, zero, suc, ◌<◌, ◌≤◌, ◌-◌, ◌++◌, Bool, false, List, [], ◌∷◌, Option, Some, None, Result, Ok, Err, length, get_or, refl, ap, ◌∙◌, arith}
use Rattle.std.specs.List.{All}
use Rattle.std.proofs.lemmas.List.Elements.{All-append, All-head, All-tail}
use native.Mathlib.Decide.{ℕ_discrete}
use Rattle.dcx_math.specs.Rising.{IsRising}
use Rattle.dcx_frac.specs.declared.fraction.Passes.{Passes}
use Rattle.dcx_linear.specs.Terms.{IsSparse, IsBehind, term_at, SumsAt, SumsTerms}
use Rattle.dcx_linear.specs.TermLaws.{term_at-here, term_at-later, term_at-below}

module _ {T : Type 0} (key : T → ℕ) where
  -- a later key isn't smaller
  rising_at : (ts : List T) → IsRising key ts → (i j : ℕ) (d e : T) → i ≤ j → j < length ts → key (get_or ts i d) ≤ key (get_or ts j e)
  rising_at [] h i j d e le lt = absurd (omega arith)
  rising_at (t ∷ ts) h zero zero d e le lt = omega arith
  rising_at (t ∷ ts) h zero (suc j) d e le lt = let k : key t < key (get_or ts j e) = h.0 j e (omega arith) in omega (arith, k)
  rising_at (t ∷ ts) h (suc i) zero d e le lt = absurd (omega arith)
  rising_at (t ∷ ts) h (suc i) (suc j) d e le lt = rising_at ts h.1 i j d e (omega arith) (omega arith)

  -- where the first key of one list is above the last one of the other, all stand behind
  pub all_behind : (ts us : List T) → IsRising key ts → IsRising key us → (t u : T) → t ≡ get_or ts (length ts - 1) t → u ≡ get_or us 0 u → key t < key u → IsBehind key ts us
  all_behind ts us h k t u last first lt i d l j e m =
      let a = rising_at ts h i (length ts - 1) d t (omega arith) (omega arith) in
      let b = rising_at us k 0 j u e (omega arith) m in
      let p : key t ≡ key (get_or ts (length ts - 1) t) = ap key last in
      let q : key u ≡ key (get_or us 0 u) = ap key first in
      omega (arith, a, b, p, q, lt)

  -- behind a list stands nothing that is behind none
  pub none_behind : (ts : List T) → IsBehind key ts []
  none_behind ts i d l j e m = absurd (omega arith)

  rising_on : (ts us : List T) → IsRising key ts → IsRising key us → IsBehind key ts us → IsRising key (ts ++ us)
  rising_on [] us h k b = k
  rising_on (t ∷ ts) us h k b = (
    All-append (λ u. key t < key u) ts us h.0 (All-head (λ s. All (λ u. key s < key u) us) t ts b),
    rising_on ts us h.1 k
        (All-tail (λ s. All (λ u. key s < key u) us) t ts b),
  )

module _ {T : Type 0} (key : T → ℕ) (is_zero : T → Bool) (Sums : T → T → Result T Passes → Type 0) where
  same : (x y u v z w : Option T) → x ≡ y → u ≡ v → z ≡ w → SumsAt is_zero Sums y v (Ok w) → SumsAt is_zero Sums x u (Ok z)
  same x y u v z w e f g h = rw (e, f, g) h

  -- at each key stands what one of the lists has there
  at_key : (ts us : List T) → IsBehind key ts us → (k : ℕ) → SumsAt is_zero Sums (term_at key ts k) (term_at key us k) (Ok (term_at key (ts ++ us) k))
  at_key [] us b k = refl
  at_key (t ∷ ts) us b k = by (ℕ_discrete (key t) k) (at_key ts us (All-tail (λ s. All (λ u. key s < key u) us) t ts b) k)
    where
      first : All (λ u. key t < key u) us
      first = All-head (λ s. All (λ u. key s < key u) us) t ts b

      by : Dec (key t ≡ k) → SumsAt is_zero Sums (term_at key ts k) (term_at key us k) (Ok (term_at key (ts ++ us) k))
          → SumsAt is_zero Sums (term_at key (t ∷ ts) k) (term_at key us k) (Ok (term_at key (t ∷ (ts ++ us)) k))
      by (yes e) rest =
          same (term_at key (t ∷ ts) k) (Some t) (term_at key us k) None (term_at key (t ∷ (ts ++ us)) k) (Some t)
          (term_at-here key t ts k e) (term_at-below key us k (λ i d m. let a = first i d m in omega (arith, a, e))) (term_at-here key t (ts ++ us) k e) refl
      by (no f) rest =
          same (term_at key (t ∷ ts) k) (term_at key ts k) (term_at key us k) (term_at key us k) (term_at key (t ∷ (ts ++ us)) k) (term_at key (ts ++ us) k)
          (term_at-later key t ts k f) refl (term_at-later key t (ts ++ us) k f) rest

  -- so that is the sum
  pub sum_behind : (ts us : List T) → IsSparse key is_zero ts → IsSparse key is_zero us → IsBehind key ts us → SumsTerms key is_zero Sums ts us (Ok (ts ++ us))
  sum_behind ts us h k b =
      (record { rising = rising_on key ts us h.rising k.rising b; nonzero = All-append (λ t. is_zero t ≡ false) ts us h.nonzero k.nonzero }, at_key ts us b)
