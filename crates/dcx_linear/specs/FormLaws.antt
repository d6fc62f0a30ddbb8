-- Laws of linear forms, over any kind of coefficient that has the laws of one.
use Rattle.std.proofs.Common.{◌≡◌, ℕ, true, [], ◌∷◌, Option, Some, None, Result, Ok, Err, refl, sym, ap, ap₂, ◌∙◌, pos}
use Rattle.dcx_math.specs.Rational.{ℚ, whole, ◌+ℚ◌, ◌*ℚ◌}
use Rattle.dcx_math.specs.Sums.{rat_sum_by}
use Rattle.dcx_math.proofs.Orders.{zero-*ℚ}
use Rattle.dcx_math.proofs.Ring.{ring, reads}
use Rattle.dcx_math.proofs.Ratios.{IsTrue-rat_eq}
use Rattle.dcx_frac.specs.declared.fraction.Frac.{Frac}
use Rattle.dcx_frac.specs.declared.fraction.Passes.{Passes}
use Rattle.dcx_frac.specs.Frac.{value}
use Rattle.dcx_linear.specs.declared.change.Change.{Change}
use Rattle.dcx_linear.specs.declared.form.FormTerm.{FormTerm}
use Rattle.dcx_linear.specs.declared.form.Form.{Form}
use Rattle.dcx_linear.specs.Affine.{one_in_turn}
use Rattle.dcx_linear.specs.Changes.{changed}
use Rattle.dcx_linear.specs.ChangeLaws.{changed_product, changed_sum, changed_zero, changed_sums}
use Rattle.dcx_linear.specs.Parameters.{Parameters}
use Rattle.dcx_linear.specs.TermLaws.{one_sum_of_terms, one_change_of_terms}
use Rattle.dcx_linear.specs.TermSums.{sum_of_terms, change_of_terms}
use Rattle.dcx_linear.specs.FormTerms.{Unknowns, unknown_of, is_told_zero, has_zero_coefficient, GivesTerm, sum_gives_unknown, change_gives_unknown, unknown_value}
use Rattle.dcx_linear.specs.Forms.{form_constant, form_terms, linear_value, sum_gives_linear, change_gives_linear}

-- what is told to be 0 is 0
told_zero : (o : Option Frac) → is_told_zero o ≡ true → (x : Frac) × (o ≡ Some x) × (value x ≡ whole (pos 0))
told_zero None e = cc
told_zero (Some x) e = (x, refl, (IsTrue-rat_eq (value x) (whole (pos 0))).0 e)

module _ {C : Type 0} (value_at : C → Parameters → ℚ) (number_of : C → Option Frac) (number_value : (c : C) (x : Frac) (p : Parameters) → number_of c ≡ Some x → value_at c p ≡ value x)
    (x : Unknowns) (p : Parameters) where
  -- a term whose coefficient is 0 stands for 0
  pub zero_term : (t : FormTerm C) → has_zero_coefficient number_of t ≡ true → unknown_value value_at x p t ≡ whole (pos 0)
  zero_term t e =
      let z = told_zero (number_of t.coefficient) e in
      ap (λ y. y *ℚ x t.unknown) (number_value t.coefficient z.0 p z.1 ∙ z.2) ∙ zero-*ℚ (x t.unknown)

  module _ (Sums : C → C → Result C Passes → Type 0) (sum_value : (a b c : C) → Sums a b (Ok c) → value_at c p ≡ value_at a p +ℚ value_at b p) where
    term_sum : (t u v : FormTerm C) → sum_gives_unknown Sums t u (Ok v) → unknown_value value_at x p v ≡ unknown_value value_at x p t +ℚ unknown_value value_at x p u
    term_sum t u v h =
        ap₂ (λ y z. y *ℚ z) (sum_value t.coefficient u.coefficient v.coefficient h.1.1) (ap x h.1.0)
        ∙ ring (value_at t.coefficient p ∷ value_at u.coefficient p ∷ x t.unknown ∷ []) (search reads depth 30) tt
        ∙ ap (λ e. unknown_value value_at x p t +ℚ value_at u.coefficient p *ℚ e) (ap x (sym h.0))

    -- a sum of forms is the sum, whatever the unknowns and parameters are
    pub linear_sum_value : (f g h : Form C) → sum_gives_linear number_of Sums f g (Ok h) → linear_value value_at h x p ≡ linear_value value_at f x p +ℚ linear_value value_at g x p
    linear_sum_value f g h s =
        ap₂ ◌+ℚ◌ (sum_value f.constant g.constant h.constant s.1.0)
        (sum_of_terms unknown_of (unknown_value value_at x p) (has_zero_coefficient number_of) zero_term (sum_gives_unknown Sums) term_sum f.terms g.terms h.terms s.0.0.rising s.0.1.rising s.1.1)
        ∙ ring (value_at f.constant p ∷ value_at g.constant p ∷ rat_sum_by (unknown_value value_at x p) f.terms ∷ rat_sum_by (unknown_value value_at x p) g.terms ∷ []) (search reads depth 30) tt

  module _ (Changes : Change → C → Result C Passes → Type 0) (change_value : (change : Change) (a c : C) → Changes change a (Ok c) → value_at c p ≡ changed change (value_at a p)) where
    term_change : (change : Change) (t v : FormTerm C) → change_gives_unknown Changes change t (Ok v) → unknown_value value_at x p v ≡ changed change (unknown_value value_at x p t)
    term_change change t v h =
        ap₂ (λ y z. y *ℚ z) (change_value change t.coefficient v.coefficient h.1) (ap x h.0) ∙ changed_product change (value_at t.coefficient p) (x t.unknown)

    -- a product or quotient of a form is so, whatever the unknowns and parameters are
    pub linear_change_value : (change : Change) (f h : Form C) → change_gives_linear number_of Changes change f (Ok h) → linear_value value_at h x p ≡ changed change (linear_value value_at f x p)
    linear_change_value change f h s =
        ap₂ ◌+ℚ◌ (change_value change f.constant h.constant s.1.0)
        (change_of_terms unknown_of (unknown_value value_at x p) (has_zero_coefficient number_of) zero_term (change_gives_unknown Changes change) (changed change) (term_change change)
        (changed_zero change) (changed_sums change) f.terms h.terms s.0.rising s.1.1)
        ∙ changed_sum change (value_at f.constant p) (rat_sum_by (unknown_value value_at x p) f.terms)

-- ---- one answer
module _ {C : Type 0} (number_of : C → Option Frac) where
  pub same_linear : (f g : Form C) → f.constant ≡ g.constant → f.terms ≡ g.terms → f ≡ g
  same_linear f g d e = ap₂ (λ c ts. let h : Form C = record { constant = c; terms = ts } in h) d e

  pub one_given : (unknown : ℕ) (Forms : Result C Passes → Type 0) → ((r s : Result C Passes) → Forms r → Forms s → r ≡ s) → (r s : Result (FormTerm C) Passes) → GivesTerm unknown Forms r
      → GivesTerm unknown Forms s → r ≡ s
  one_given unknown Forms one (Ok t) (Ok u) h k =
      let e = one (Ok t.coefficient) (Ok u.coefficient) h.1 k.1 in
      let d : t.coefficient ≡ u.coefficient = cc in
      ap Ok (ap₂ (λ n c. let v : FormTerm C = record { unknown = n; coefficient = c } in v) (h.0 ∙ sym k.0) d)
  one_given unknown Forms one (Ok t) (Err q) h k = let e = one (Ok t.coefficient) (Err q) h.1 k in cc
  one_given unknown Forms one (Err q) (Ok t) h k = let e = one (Err q) (Ok t.coefficient) h k.1 in cc
  one_given unknown Forms one (Err p) (Err q) h k = let e = one (Err p) (Err q) h k in cc

  -- two forms have one sum
  pub one_linear_sum : (Sums : C → C → Result C Passes → Type 0) → ((a b : C) (r s : Result C Passes) → Sums a b r → Sums a b s → r ≡ s)
      → (f g : Form C) (r s : Result (Form C) Passes) → sum_gives_linear number_of Sums f g r → sum_gives_linear number_of Sums f g s → r ≡ s
  one_linear_sum Sums one f g r s h k =
      one_in_turn form_constant form_terms same_linear _ _ (one f.constant g.constant)
      (one_sum_of_terms unknown_of (has_zero_coefficient number_of) (sum_gives_unknown Sums)
      (λ t u r s h k. one_given t.unknown (Sums t.coefficient u.coefficient) (one t.coefficient u.coefficient) r s h.1 k.1) f.terms g.terms) r s h.1 k.1

  -- a form is changed in one way
  pub one_linear_change : (Changes : Change → C → Result C Passes → Type 0) → ((change : Change) (a : C) (r s : Result C Passes) → Changes change a r → Changes change a s → r ≡ s)
      → (change : Change) (f : Form C) (r s : Result (Form C) Passes) → change_gives_linear number_of Changes change f r → change_gives_linear number_of Changes change f s → r ≡ s
  one_linear_change Changes one change f r s h k =
      one_in_turn form_constant form_terms same_linear _ _ (one change f.constant)
      (one_change_of_terms unknown_of (has_zero_coefficient number_of) (change_gives_unknown Changes change)
      (λ t r s h k. one_given t.unknown (Changes change t.coefficient) (one change t.coefficient) r s h k) f.terms) r s h.1 k.1
