-- The number that a list of terms stands for: the sum of its terms. It follows from what stands at each key.
use Rattle.std.proofs.Common.{◌≡◌, ℕ, suc, ◌+◌, ◌<◌, ◌≤◌, Bool, true, false, if◌then◌else◌, List, [], ◌∷◌, Option, Some, None, Result, Ok, refl, sym, ap, ap₂, ◌∙◌, subst, pos, arith}
use Rattle.std.specs.List.{All}
use Rattle.std.proofs.lemmas.List.Elements.{All-head, All-tail, All-cons, All-nil}
use native.Mathlib.Decide.{ℕ_discrete}
use Rattle.dcx_math.specs.Rational.{ℚ, whole, ◌+ℚ◌}
use Rattle.dcx_math.specs.Sums.{rat_sum_by, rat_sum_below}
use Rattle.dcx_math.proofs.Orders.{+ℚ_idl, +ℚ_idr}
use Rattle.dcx_math.proofs.Sums.{rat_sum_below-zero, rat_sum_below-+ℚ, rat_sum_below-same, rat_sum_below-one}
use Rattle.dcx_math.specs.Rising.{IsRising}
use Rattle.dcx_frac.specs.declared.fraction.Passes.{Passes}
use Rattle.dcx_linear.specs.Terms.{term_at, kept, SumsAt, ChangesAt, SumsTerms, ChangesTerms}
use Rattle.dcx_linear.specs.TermLaws.{term_at-here, term_at-later, term_at-below}

module _ {T : Type 0} (key : T → ℕ) (v : T → ℚ) where
  -- the number that stands at a key
  abbrev pub number_at : Option T → ℚ
  number_at None = whole (pos 0)
  number_at (Some t) = v t

  -- a number above all keys
  abbrev above : List T → ℕ
  above [] = 0
  above (t ∷ ts) = suc (key t) + above ts

  above_all : (ts : List T) (n : ℕ) → above ts ≤ n → All (λ t. key t < n) ts
  above_all [] n h = All-nil (λ t. key t < n)
  above_all (t ∷ ts) n h = All-cons (λ u. key u < n) t ts (omega (arith, h)) (above_all ts n (omega (arith, h)))

  -- the sum of the terms, by keys
  sum_by_keys : (ts : List T) (n : ℕ) → IsRising key ts → All (λ t. key t < n) ts → rat_sum_below n (λ k. number_at (term_at key ts k)) ≡ rat_sum_by v ts
  sum_by_keys [] n rising small = rat_sum_below-zero n
  sum_by_keys (t ∷ ts) n rising small =
      rat_sum_below-same n (λ k. number_at (term_at key (t ∷ ts) k)) (λ k. number_at (term_at key (t ∷ []) k) +ℚ number_at (term_at key ts k)) (λ k lt. split k (ℕ_discrete (key t) k))
      ∙ rat_sum_below-+ℚ n (λ k. number_at (term_at key (t ∷ []) k)) (λ k. number_at (term_at key ts k))
      ∙ ap₂ ◌+ℚ◌ first (sum_by_keys ts n rising.1 (All-tail (λ u. key u < n) t ts small))
    where
      split : (k : ℕ) → Dec (key t ≡ k) → number_at (term_at key (t ∷ ts) k) ≡ number_at (term_at key (t ∷ []) k) +ℚ number_at (term_at key ts k)
      split k (yes e) =
          let none = term_at-below key ts k (subst (λ j. All (λ u. j < key u) ts) e rising.0) in
          ap number_at (term_at-here key t ts k e) ∙ sym (+ℚ_idr (v t)) ∙ sym (ap₂ (λ x y. number_at x +ℚ number_at y) (term_at-here key t [] k e) none)
      split k (no d) =
          ap number_at (term_at-later key t ts k d) ∙ sym (+ℚ_idl (number_at (term_at key ts k))) ∙ sym (ap (λ x. number_at x +ℚ number_at (term_at key ts k)) (term_at-later key t [] k d))

      first : rat_sum_below n (λ k. number_at (term_at key (t ∷ []) k)) ≡ v t
      first =
          rat_sum_below-one n (key t) (λ k. number_at (term_at key (t ∷ []) k)) (All-head (λ u. key u < n) t ts small)
          (λ k lt d. ap number_at (term_at-later key t [] k (λ e. d (sym e))))
          ∙ ap number_at (term_at-here key t [] (key t) refl)

  module _ (is_zero : T → Bool) (zero_is : (t : T) → is_zero t ≡ true → v t ≡ whole (pos 0)) where
    number_kept : (t : T) → number_at (kept is_zero t) ≡ v t
    number_kept t = by (is_zero t) refl
      where
        by : (b : Bool) → is_zero t ≡ b → number_at (if b then None else Some t) ≡ v t
        by true e = sym (zero_is t e)
        by false e = refl

    module _ (Sums : T → T → Result T Passes → Type 0) (sums : (t u w : T) → Sums t u (Ok w) → v w ≡ v t +ℚ v u) where
      sum_at : (x y z : Option T) → SumsAt is_zero Sums x y (Ok z) → number_at z ≡ number_at x +ℚ number_at y
      sum_at None y z h = let e : z ≡ y = cc in ap number_at e ∙ sym (+ℚ_idl (number_at y))
      sum_at (Some t) None z h = let e : z ≡ Some t = cc in ap number_at e ∙ sym (+ℚ_idr (v t))
      sum_at (Some t) (Some u) z h = ap number_at h.2 ∙ number_kept h.0 ∙ sums t u h.0 h.1

      -- the sum of two lists stands for the sum
      pub sum_of_terms : (ts us ws : List T) → IsRising key ts → IsRising key us → SumsTerms key is_zero Sums ts us (Ok ws) → rat_sum_by v ws ≡ rat_sum_by v ts +ℚ rat_sum_by v us
      sum_of_terms ts us ws rising rising' h =
          let n = above ts + above us + above ws in
          sym (sum_by_keys ws n h.0.rising (above_all ws n (omega arith)))
          ∙ rat_sum_below-same n _ (λ k. number_at (term_at key ts k) +ℚ number_at (term_at key us k)) (λ k lt. sum_at (term_at key ts k) (term_at key us k) (term_at key ws k) (h.1 k))
          ∙ rat_sum_below-+ℚ n (λ k. number_at (term_at key ts k)) (λ k. number_at (term_at key us k))
          ∙ ap₂ ◌+ℚ◌ (sum_by_keys ts n rising (above_all ts n (omega arith))) (sum_by_keys us n rising' (above_all us n (omega arith)))

    module _ (Changes : T → Result T Passes → Type 0) (f : ℚ → ℚ) (changes : (t w : T) → Changes t (Ok w) → v w ≡ f (v t)) (zero_stays : f (whole (pos 0)) ≡ whole (pos 0))
        (sums_keep : (n : ℕ) (g : ℕ → ℚ) → rat_sum_below n (λ k. f (g k)) ≡ f (rat_sum_below n g)) where
      change_at : (x z : Option T) → ChangesAt is_zero Changes x (Ok z) → number_at z ≡ f (number_at x)
      change_at None z h = let e : z ≡ None = cc in ap number_at e ∙ sym zero_stays
      change_at (Some t) z h = ap number_at h.2 ∙ number_kept h.0 ∙ changes t h.0 h.1

      -- a changed list stands for the changed number
      pub change_of_terms : (ts ws : List T) → IsRising key ts → ChangesTerms key is_zero Changes ts (Ok ws) → rat_sum_by v ws ≡ f (rat_sum_by v ts)
      change_of_terms ts ws rising h =
          let n = above ts + above ws in
          sym (sum_by_keys ws n h.0.rising (above_all ws n (omega arith)))
          ∙ rat_sum_below-same n _ (λ k. f (number_at (term_at key ts k))) (λ k lt. change_at (term_at key ts k) (term_at key ws k) (h.1 k))
          ∙ sums_keep n (λ k. number_at (term_at key ts k))
          ∙ ap f (sum_by_keys ts n rising (above_all ts n (omega arith)))
