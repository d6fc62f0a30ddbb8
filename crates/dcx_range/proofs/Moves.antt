-- How affine numbers and forms move with one parameter, which stands in no coefficient of an unknown.
use Rattle.std.proofs.Common.{◌≡◌, ◌≢◌, ℕ, ◌<◌, Bool, true, false, List, [], ◌∷◌, refl, sym, ap, ap₂, ◌∙◌, arith, pos}
use Rattle.std.specs.Prelude.{◌==◌, if◌then◌else◌}
use Rattle.std.specs.List.{All, list_any}
use Rattle.std.proofs.lemmas.Bool.{eqb-true, eqb-false, or_parts}
use Rattle.std.proofs.lemmas.List.Elements.{All-tail, All-head, All-cons, All-nil, All-weaker}
use Rattle.dcx_math.specs.Rational.{ℚ, whole, ◌+ℚ◌, ◌-ℚ◌, ◌*ℚ◌}
use Rattle.dcx_math.specs.Sums.{rat_sum_by}
use Rattle.dcx_math.proofs.Ring.{ring, reads}
use Rattle.dcx_math.proofs.Orders.{+ℚ_idl, zero-*ℚ}
use Rattle.dcx_math.proofs.Sums.{rat_sum_by-same}
use Rattle.dcx_math.specs.Rising.{IsRising}
use Rattle.dcx_frac.specs.Frac.{value}
use Rattle.dcx_atom.proofs.FormedSums.{value-zero_frac}
use Rattle.dcx_linear.specs.declared.param_term.ParamTerm.{ParamTerm}
use Rattle.dcx_linear.specs.declared.param_form.ParamForm.{ParamForm}
use Rattle.dcx_linear.specs.declared.form.Form.{Form}
use Rattle.dcx_linear.specs.Parameters.{Parameters}
use Rattle.dcx_linear.specs.ParamTerms.{key_of, HoldsTerms, term_value}
use Rattle.dcx_linear.specs.ParamForms.{form_value}
use Rattle.dcx_linear.specs.FormTerms.{Unknowns, unknown_value}
use Rattle.dcx_linear.specs.Forms.{linear_value}
use Rattle.dcx_range.specs.Standing.{lists, scales_unknown}
use Rattle.dcx_range.specs.Coefficients.{coefficient_in, coefficient_of}
use Rattle.dcx_right.specs.Ranges.{DifferAt}

-- ---- tests
pub none_at : {X : Type 0} (p : X → Bool) (xs : List X) → list_any p xs ≡ false → All (λ x. p x ≡ false) xs
none_at p [] e = All-nil (λ x. p x ≡ false)
none_at p (x ∷ xs) e = let b = or_parts (p x) (list_any p xs) e in All-cons (λ y. p y ≡ false) x xs b.0 (none_at p xs b.1)

-- ---- numbers
moved_first : (c a b r : ℚ) → c *ℚ b +ℚ r ≡ (c *ℚ a +ℚ r) +ℚ c *ℚ (b -ℚ a)
moved_first c a b r = ring (c ∷ a ∷ b ∷ r ∷ []) (search reads depth 30) tt

moved_later : (x r c d : ℚ) → x +ℚ (r +ℚ c *ℚ d) ≡ (x +ℚ r) +ℚ c *ℚ d
moved_later x r c d = ring (x ∷ r ∷ c ∷ d ∷ []) (search reads depth 30) tt

moved_front : (x r c d : ℚ) → (x +ℚ c *ℚ d) +ℚ r ≡ (x +ℚ r) +ℚ c *ℚ d
moved_front x r c d = ring (x ∷ r ∷ c ∷ d ∷ []) (search reads depth 30) tt

-- the only entry of the parameter is 0, wherever it is listed
abbrev pub IsScalarAt : ℕ → List ParamTerm → Type 0
IsScalarAt k ts = All (λ t. t.position ≡ k → t.entry ≡ 0) ts

module _ (s t : Parameters) (k : ℕ) (differ : DifferAt k s t) where
  -- by how much the parameter moves
  unfoldable pub moved : ℚ
  moved = t k 0 -ℚ s k 0

  term_same : (x : ParamTerm) → x.position ≢ k → term_value t x ≡ term_value s x
  term_same x n = ap (λ y. value x.coefficient *ℚ y) (differ x.position x.entry n)

  unlisted : (ts : List ParamTerm) → All (λ x. x.position ≢ k) ts → rat_sum_by (term_value t) ts ≡ rat_sum_by (term_value s) ts
  unlisted ts h = rat_sum_by-same (term_value t) (term_value s) ts (All-weaker (λ x. x.position ≢ k) (λ x. term_value t x ≡ term_value s x) term_same ts h)

  behind : (x : ParamTerm) (ts : List ParamTerm) → x.position ≡ k → x.entry ≡ 0 → All (λ y. key_of x < key_of y) ts → IsScalarAt k ts → All (λ y. y.position ≢ k) ts
  behind x ts p e above zero = λ i d l q. let b = above i d l in let z = zero i d l q in absurd (omega (arith, b, z, q, p, e))

  sum_moves : (ts : List ParamTerm) → IsRising key_of ts → IsScalarAt k ts → rat_sum_by (term_value t) ts ≡ rat_sum_by (term_value s) ts +ℚ value (coefficient_in k ts) *ℚ moved
  unfolding moved
  sum_moves [] rising zero = sym (+ℚ_idl (whole (pos 0) *ℚ moved) ∙ zero-*ℚ moved) ∙ ap (λ y. whole (pos 0) +ℚ y *ℚ moved) (sym value-zero_frac)
  sum_moves (x ∷ ts) rising zero = by (x.position == k) refl (sum_moves ts rising.1 (All-tail (λ y. y.position ≡ k → y.entry ≡ 0) x ts zero))
    where
      by : (b : Bool) → (x.position == k) ≡ b → rat_sum_by (term_value t) ts ≡ rat_sum_by (term_value s) ts +ℚ value (coefficient_in k ts) *ℚ moved
          → term_value t x +ℚ rat_sum_by (term_value t) ts ≡ (term_value s x +ℚ rat_sum_by (term_value s) ts) +ℚ value (if b then x.coefficient else coefficient_in k ts) *ℚ moved
      by true e rest =
          let p = eqb-true x.position k e in
          let z = All-head (λ y. y.position ≡ k → y.entry ≡ 0) x ts zero p in
          ap₂ ◌+ℚ◌ (ap₂ (λ a b. value x.coefficient *ℚ t a b) p z) (unlisted ts (behind x ts p z rising.0 (All-tail (λ y. y.position ≡ k → y.entry ≡ 0) x ts zero)))
          ∙ moved_first (value x.coefficient) (s k 0) (t k 0) (rat_sum_by (term_value s) ts)
          ∙ ap (λ y. (y +ℚ rat_sum_by (term_value s) ts) +ℚ value x.coefficient *ℚ (t k 0 -ℚ s k 0)) (sym (ap₂ (λ a b. value x.coefficient *ℚ s a b) p z))
      by false e rest =
          ap₂ ◌+ℚ◌ (term_same x (eqb-false x.position k e)) rest
          ∙ moved_later (term_value s x) (rat_sum_by (term_value s) ts) (value (coefficient_in k ts)) moved

  -- an affine number moves by the parameter's coefficient
  pub number_moves : (f : ParamForm) → HoldsTerms f.terms → IsScalarAt k f.terms → form_value f t ≡ form_value f s +ℚ value (coefficient_of k f) *ℚ moved
  number_moves f holds zero = ap (λ y. value f.constant +ℚ y) (sum_moves f.terms holds.rising zero)
      ∙ moved_later (value f.constant) (rat_sum_by (term_value s) f.terms) (value (coefficient_of k f)) moved

  -- or stays, where it doesn't list it
  pub number_stays : (f : ParamForm) → lists k f ≡ false → form_value f t ≡ form_value f s
  number_stays f e =
      ap (λ y. value f.constant +ℚ y)
      (unlisted f.terms (All-weaker (λ x. (x.position == k) ≡ false) (λ x. x.position ≢ k) (λ x h. eqb-false x.position k h) f.terms (none_at (λ x. x.position == k) f.terms e)))

  -- a form moves with its constant
  pub form_moves : (f : Form ParamForm) (x : Unknowns) → HoldsTerms f.constant.terms → IsScalarAt k f.constant.terms → scales_unknown k f ≡ false
      → linear_value form_value f x t ≡ linear_value form_value f x s +ℚ value (coefficient_of k f.constant) *ℚ moved
  form_moves f x holds zero free =
      ap₂ ◌+ℚ◌ (number_moves f.constant holds zero)
      (rat_sum_by-same (unknown_value form_value x t) (unknown_value form_value x s) f.terms
      (All-weaker (λ y. lists k y.coefficient ≡ false) (λ y. unknown_value form_value x t y ≡ unknown_value form_value x s y)
      (λ y e. ap (λ z. z *ℚ x y.unknown) (number_stays y.coefficient e)) f.terms (none_at (λ y. lists k y.coefficient) f.terms free)))
      ∙ moved_front (form_value f.constant s) (rat_sum_by (unknown_value form_value x s) f.terms) (value (coefficient_of k f.constant)) moved
