-- The coefficients that the first terms of a form tell.
use Rattle.std.proofs.Common.{◌≡◌, ◌≢◌, ℕ, zero, suc, ◌+◌, ◌<◌, List, [], ◌∷◌, ◌++◌, Some, length, get_or, take, sym, ap, ◌∙◌, subst, arith}
use Rattle.std.specs.List.{All}
use Rattle.std.proofs.lemmas.List.Elements.{All-head, All-tail, All-cons, All-nil, All-weaker}
use Rattle.std.proofs.lemmas.List.{take_more}
use Rattle.dcx_math.specs.Rising.{IsRising}
use native.Mathlib.Decide.{ℕ_discrete}
use Rattle.dcx_frac.specs.declared.fraction.Frac.{Frac}
use Rattle.dcx_linear.specs.declared.form.FormTerm.{FormTerm}
use Rattle.dcx_linear.specs.Terms.{term_at}
use Rattle.dcx_linear.specs.TermLaws.{term_at-here, term_at-later, term_at-below, term_at-member}
use Rattle.dcx_linear.specs.FormTerms.{unknown_of}
use Rattle.dcx_std.specs.WholeRows.{coefficient_or_zero, coefficient_at}

module _ {T : Type 0} (key : T → ℕ) where
  -- behind terms with smaller keys a term stands at its key
  term_at-last : (ts : List T) (t : T) (k : ℕ) → All (λ s. key s < key t) ts → key t ≡ k → term_at key (ts ++ t ∷ []) k ≡ Some t
  term_at-last [] t k h e = term_at-here key t [] k e
  term_at-last (s ∷ ss) t k h e =
      let below : key s < key t = All-head (λ u. key u < key t) s ss h in
      term_at-later key s (ss ++ t ∷ []) k (λ d. omega (arith, d, e, below)) ∙ term_at-last ss t k (All-tail (λ u. key u < key t) s ss h) e

  -- at another key stands what stood there
  term_at-other : (ts : List T) (t : T) (k : ℕ) → key t ≢ k → term_at key (ts ++ t ∷ []) k ≡ term_at key ts k
  term_at-other [] t k d = term_at-later key t [] k d
  term_at-other (s ∷ ss) t k d = by (ℕ_discrete (key s) k) (term_at-other ss t k d)
    where
      by : Dec (key s ≡ k) → term_at key (ss ++ t ∷ []) k ≡ term_at key ss k → term_at key (s ∷ (ss ++ t ∷ [])) k ≡ term_at key (s ∷ ss) k
      by (yes e) rest = term_at-here key s (ss ++ t ∷ []) k e ∙ sym (term_at-here key s ss k e)
      by (no f) rest = term_at-later key s (ss ++ t ∷ []) k f ∙ rest ∙ sym (term_at-later key s ss k f)

  -- the terms before a term of a rising list have smaller keys
  rising_before : (ts : List T) (i : ℕ) (d : T) → IsRising key ts → i < length ts → All (λ s. key s < key (get_or ts i d)) (take i ts)
  rising_before [] i d h lt = absurd (omega arith)
  rising_before (t ∷ ts) zero d h lt = All-nil (λ s. key s < key t)
  rising_before (t ∷ ts) (suc i) d h lt = All-cons (λ s. key s < key (get_or ts i d)) t (take i ts) (h.0 i d (omega arith)) (rising_before ts i d h.1 (omega arith))

  -- below the key of a term of a rising list stands what the terms before it have there
  rising_front : (ts : List T) → IsRising key ts → (i : ℕ) (d : T) (k : ℕ) → i < length ts → k < key (get_or ts i d) → term_at key ts k ≡ term_at key (take i ts) k
  rising_front [] h i d k lt l = absurd (omega arith)
  rising_front (t ∷ ts) h zero d k lt l = term_at-below key (t ∷ ts) k (All-cons (λ s. k < key s) t ts l (All-weaker (λ s. key t < key s) (λ s. k < key s) (λ s a. omega (arith, a, l)) ts h.0))
  rising_front (t ∷ ts) h (suc i) d k lt l = by (ℕ_discrete (key t) k) (rising_front ts h.1 i d k (omega arith) l)
    where
      by : Dec (key t ≡ k) → term_at key ts k ≡ term_at key (take i ts) k → term_at key (t ∷ ts) k ≡ term_at key (t ∷ take i ts) k
      by (yes e) rest = term_at-here key t ts k e ∙ sym (term_at-here key t (take i ts) k e)
      by (no f) rest = term_at-later key t ts k f ∙ rest ∙ sym (term_at-later key t (take i ts) k f)

-- one more term tells the coefficient of its unknown, and no other
module _ (ts : List (FormTerm Frac)) (rising : IsRising unknown_of ts) (i : ℕ) (t : FormTerm Frac) (lt : i < length ts) (is : t ≡ get_or ts i t) where
  next : take (i + 1) ts ≡ take i ts ++ t ∷ []
  next = take_more ts i t lt ∙ ap (λ s. take i ts ++ s ∷ []) (sym is)

  before : All (λ s. unknown_of s < unknown_of t) (take i ts)
  before = subst (λ w. All (λ s. unknown_of s < unknown_of w) (take i ts)) (sym is) (rising_before unknown_of ts i t rising lt)

  pub coefficient_here : (u : ℕ) → t.unknown ≡ u → coefficient_at (take (i + 1) ts) u ≡ t.coefficient
  coefficient_here u e = ap (λ s. coefficient_at s u) next ∙ ap coefficient_or_zero (term_at-last unknown_of (take i ts) t u before e)

  pub coefficient_elsewhere : (u : ℕ) → t.unknown ≢ u → coefficient_at (take (i + 1) ts) u ≡ coefficient_at (take i ts) u
  coefficient_elsewhere u d = ap (λ s. coefficient_at s u) next ∙ ap coefficient_or_zero (term_at-other unknown_of (take i ts) t u d)

  -- all terms tell the same of it
  pub coefficient_in_all : coefficient_at ts t.unknown ≡ t.coefficient
  coefficient_in_all =
      ap (λ (w : FormTerm Frac). coefficient_at ts w.unknown) is ∙ ap coefficient_or_zero (term_at-member unknown_of ts rising i t lt) ∙ ap (λ (w : FormTerm Frac). w.coefficient) (sym is)

  -- and of the unknowns before it what the terms before it tell
  pub coefficient_before : (u : ℕ) → u < t.unknown → coefficient_at ts u ≡ coefficient_at (take i ts) u
  coefficient_before u l = ap coefficient_or_zero (rising_front unknown_of ts rising i t u lt (subst (λ (w : FormTerm Frac). u < w.unknown) is l))
