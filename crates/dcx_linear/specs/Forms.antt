-- Linear forms: a constant and coefficients at unknowns, over any kind of coefficient.
use Rattle.std.specs.Prelude.{◌≡◌, ℕ, List, [], ◌∷◌, Option, Result, pos}
use Rattle.dcx_math.specs.Rational.{ℚ, whole, ◌+ℚ◌}
use Rattle.dcx_math.specs.Sums.{rat_sum_by}
use Rattle.dcx_frac.specs.declared.fraction.Frac.{Frac}
use Rattle.dcx_frac.specs.declared.fraction.Passes.{Passes}
use Rattle.dcx_frac.specs.Frac.{value}
use Rattle.dcx_atom.specs.Formed.{zero_frac}
use Rattle.dcx_linear.specs.declared.change.Change.{Change}
use Rattle.dcx_linear.specs.declared.form.FormTerm.{FormTerm}
use Rattle.dcx_linear.specs.declared.form.Form.{Form}
use Rattle.dcx_linear.specs.Affine.{InTurn}
use Rattle.dcx_linear.specs.Parameters.{Parameters}
use Rattle.dcx_linear.specs.Terms.{SumsTerms, ChangesTerms}
use Rattle.dcx_linear.specs.FormTerms.{Unknowns, unknown_of, has_zero_coefficient, HoldsUnknowns, sum_gives_unknown, change_gives_unknown, unknown_value}

abbrev pub form_constant : {C : Type 0} → Form C → C
form_constant f = f.constant

abbrev pub form_terms : {C : Type 0} → Form C → List (FormTerm C)
form_terms f = f.terms

-- the number that it is: the constant, and each coefficient times its unknown
abbrev pub linear_value : {C : Type 0} → (C → Parameters → ℚ) → Form C → Unknowns → Parameters → ℚ
linear_value value_at f x p = value_at f.constant p +ℚ rat_sum_by (unknown_value value_at x p) f.terms

-- a coefficient, with no unknown
abbrev pub is_constant : {C : Type 0} → C → Form C
is_constant c = record { constant = c; terms = [] }

-- an unknown, times 1
pub record IsUnknownForm {C : Type 0} (of_number : Frac → C) (unknown : ℕ) (f : Form C) : Type 0 where
  pub one : Frac
  pub is_one : value one ≡ whole (pos 1)
  pub is : f ≡ record { constant = of_number zero_frac; terms = record { unknown = unknown; coefficient = of_number one } ∷ [] }

-- what adding two forms answers: their constants, and then their coefficients, by rising unknowns
abbrev pub sum_gives_linear : {C : Type 0} → (C → Option Frac) → (C → C → Result C Passes → Type 0) → Form C → Form C → Result (Form C) Passes → Type 0
sum_gives_linear number_of Sums f g r =
    (HoldsUnknowns number_of f.terms × HoldsUnknowns number_of g.terms)
    × InTurn form_constant form_terms (Sums f.constant g.constant) (SumsTerms unknown_of (has_zero_coefficient number_of) (sum_gives_unknown Sums) f.terms g.terms) r

-- what multiplying or dividing a form answers: its constant, and then its coefficients, by rising unknowns
abbrev pub change_gives_linear : {C : Type 0} → (C → Option Frac) → (Change → C → Result C Passes → Type 0) → Change → Form C → Result (Form C) Passes → Type 0
change_gives_linear number_of Changes change f r =
    HoldsUnknowns number_of f.terms
    × InTurn form_constant form_terms (Changes change f.constant) (ChangesTerms unknown_of (has_zero_coefficient number_of) (change_gives_unknown Changes change) f.terms) r
