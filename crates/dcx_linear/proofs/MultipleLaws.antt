-- Laws of a coefficient times a form of numbers: it is the product, it has one answer, and it is no wider.
use Rattle.std.proofs.Common.{◌≡◌, ℕ, ◌<◌, ◌≤◌, ◌∷◌, [], Option, Some, Result, Ok, sym, ap, ap₂, ◌∙◌, subst}
use Rattle.dcx_math.specs.Rational.{ℚ, ◌+ℚ◌, ◌*ℚ◌}
use Rattle.dcx_math.specs.Sums.{rat_sum_by}
use Rattle.dcx_math.proofs.Orders.{*ℚ-+ℚ, *ℚ-zero}
use Rattle.dcx_math.proofs.Ring.{ring, reads}
use Rattle.dcx_math.proofs.Sums.{rat_sum_below-*ℚ}
use Rattle.dcx_frac.specs.declared.fraction.Frac.{Frac}
use Rattle.dcx_frac.specs.declared.fraction.Passes.{Passes}
use Rattle.dcx_frac.specs.Frac.{value}
use Rattle.dcx_linear.specs.declared.change.Change.{Change}
use Rattle.dcx_linear.specs.declared.change.Change.TheVariants.{Scale}
use Rattle.dcx_linear.specs.declared.form.FormTerm.{FormTerm}
use Rattle.dcx_linear.specs.declared.form.Form.{Form}
use Rattle.dcx_linear.specs.Affine.{one_in_turn}
use Rattle.dcx_linear.specs.Changes.{changed}
use Rattle.dcx_linear.specs.Parameters.{Parameters}
use Rattle.dcx_linear.specs.Terms.{term_at, ChangesAt}
use Rattle.dcx_linear.specs.TermLaws.{each_formed, term_at-All, one_change_of_terms}
use Rattle.dcx_linear.specs.TermSums.{change_of_terms}
use Rattle.dcx_linear.specs.FormTerms.{Unknowns, unknown_of, has_zero_coefficient, unknown_value}
use Rattle.dcx_linear.specs.Forms.{form_constant, form_terms, linear_value}
use Rattle.dcx_linear.specs.FormLaws.{zero_term, same_linear, one_given}
use Rattle.dcx_linear.specs.Multiples.{times_number, times_unknown, multiple_gives}
use Rattle.dcx_linear.specs.Widths.{form_width}
use Rattle.dcx_linear.proofs.Widths.{width_bounds, width_least, change_below}

turned : (k y z : ℚ) → (y *ℚ k) *ℚ z ≡ k *ℚ (y *ℚ z)
turned k y z = ring (k ∷ y ∷ z ∷ []) (search reads depth 30) tt

swapped : (k y : ℚ) → y *ℚ k ≡ k *ℚ y
swapped k y = ring (k ∷ y ∷ []) (search reads depth 30) tt

module _ {C : Type 0} (number_of : C → Option Frac) (Changes : Change → C → Result C Passes → Type 0) (c : C) where
  module _ (value_at : C → Parameters → ℚ) (number_value : (d : C) (x : Frac) (p : Parameters) → number_of d ≡ Some x → value_at d p ≡ value x) (x : Unknowns) (p : Parameters)
      (change_value : (change : Change) (a d : C) → Changes change a (Ok d) → value_at d p ≡ changed change (value_at a p)) where
    -- the coefficient times a number
    times_value : (d r : C) → times_number number_of Changes c d (Ok r) → value_at r p ≡ value_at d p *ℚ value_at c p
    times_value d r h = change_value (Scale h.0) c r h.2 ∙ ap (λ y. y *ℚ value_at c p) (sym (number_value d h.0 p h.1))

    term_times : (t v : FormTerm C) → times_unknown number_of Changes c t (Ok v) → unknown_value value_at x p v ≡ value_at c p *ℚ unknown_value value_at x p t
    term_times t v h = ap₂ (λ y z. y *ℚ z) (times_value t.coefficient v.coefficient h.1) (ap x h.0) ∙ turned (value_at c p) (value_at t.coefficient p) (x t.unknown)

    -- the multiple of a form is the product
    pub multiple_value : (f h : Form C) → multiple_gives number_of Changes c f (Ok h) → linear_value value_at h x p ≡ value_at c p *ℚ linear_value value_at f x p
    multiple_value f h s =
        ap₂ ◌+ℚ◌ (times_value f.constant h.constant s.1.0 ∙ swapped (value_at c p) (value_at f.constant p))
        (change_of_terms unknown_of (unknown_value value_at x p) (has_zero_coefficient number_of) (zero_term value_at number_of number_value x p) (times_unknown number_of Changes c)
        (λ q. value_at c p *ℚ q) term_times (*ℚ-zero (value_at c p)) (λ n g. rat_sum_below-*ℚ n (value_at c p) g) f.terms h.terms s.0.rising s.1.1)
        ∙ sym (*ℚ-+ℚ (value_at c p) (value_at f.constant p) (rat_sum_by (unknown_value value_at x p) f.terms))

  module _ (one_change : (change : Change) (a : C) (r s : Result C Passes) → Changes change a r → Changes change a s → r ≡ s) where
    one_times : (d : C) (r s : Result C Passes) → times_number number_of Changes c d r → times_number number_of Changes c d s → r ≡ s
    one_times d r s h k =
        let e = sym h.1 ∙ k.1 in
        let q : h.0 ≡ k.0 = cc in
        one_change (Scale k.0) c r s (subst (λ y. Changes (Scale y) c r) q h.2) k.2

    -- a form has one multiple
    pub one_multiple : (f : Form C) (r s : Result (Form C) Passes) → multiple_gives number_of Changes c f r → multiple_gives number_of Changes c f s → r ≡ s
    one_multiple f r s h k =
        one_in_turn form_constant form_terms (same_linear number_of) _ _ (one_times f.constant)
        (one_change_of_terms unknown_of (has_zero_coefficient number_of) (times_unknown number_of Changes c)
        (λ t r s h k. one_given number_of t.unknown (times_number number_of Changes c t.coefficient) (one_times t.coefficient) r s h k) f.terms) r s h.1 k.1

  -- the multiple is no wider
  pub multiple_width : (n : ℕ) (f h : Form C) → multiple_gives number_of Changes c f (Ok h) → form_width f ≤ n → form_width h ≤ n
  multiple_width n f h s a =
      width_least h.terms n
      (each_formed unknown_of (has_zero_coefficient number_of) (λ k. ChangesAt (has_zero_coefficient number_of) (times_unknown number_of Changes c) (term_at unknown_of f.terms k)) (λ t. t.unknown < n)
      (λ k v q. change_below number_of n (times_unknown number_of Changes c) (λ t w z. z.0) (term_at unknown_of f.terms k) v
      (λ t e. term_at-All unknown_of (λ t. t.unknown < n) f.terms k t (width_bounds f.terms n a) e) q)
      h.terms s.1.1)
