-- A coefficient times a form whose coefficients are numbers.
use Rattle.std.specs.Prelude.{◌≡◌, Option, Some, IsSome, Result}
use Rattle.std.specs.List.{All}
use Rattle.dcx_frac.specs.declared.fraction.Frac.{Frac}
use Rattle.dcx_frac.specs.declared.fraction.Passes.{Passes}
use Rattle.dcx_linear.specs.declared.change.Change.{Change}
use Rattle.dcx_linear.specs.declared.change.Change.TheVariants.{Scale}
use Rattle.dcx_linear.specs.declared.form.FormTerm.{FormTerm}
use Rattle.dcx_linear.specs.declared.form.Form.{Form}
use Rattle.dcx_linear.specs.Affine.{InTurn}
use Rattle.dcx_linear.specs.Terms.{ChangesTerms}
use Rattle.dcx_linear.specs.FormTerms.{unknown_of, has_zero_coefficient, HoldsUnknowns, GivesTerm}
use Rattle.dcx_linear.specs.Forms.{form_constant, form_terms}

abbrev pub is_number_term : {C : Type 0} → (C → Option Frac) → FormTerm C → Type 0
is_number_term number_of t = IsSome (number_of t.coefficient)

-- the constant and each coefficient is a number
abbrev pub HasNumbers : {C : Type 0} → (C → Option Frac) → Form C → Type 0
HasNumbers number_of f = IsSome (number_of f.constant) × All (is_number_term number_of) f.terms

-- what multiplying c by the number that d is answers
abbrev pub times_number : {C : Type 0} → (C → Option Frac) → (Change → C → Result C Passes → Type 0) → C → C → Result C Passes → Type 0
times_number number_of Changes c d r = (x : Frac) × (number_of d ≡ Some x) × Changes (Scale x) c r

-- what multiplying c by the coefficient of a term answers, at its unknown
abbrev pub times_unknown : {C : Type 0} → (C → Option Frac) → (Change → C → Result C Passes → Type 0) → C → FormTerm C → Result (FormTerm C) Passes → Type 0
times_unknown number_of Changes c t r = GivesTerm t.unknown (times_number number_of Changes c t.coefficient) r

-- what a coefficient times a form answers: times its constant, and then times its coefficients, by rising unknowns
abbrev pub multiple_gives : {C : Type 0} → (C → Option Frac) → (Change → C → Result C Passes → Type 0) → C → Form C → Result (Form C) Passes → Type 0
multiple_gives number_of Changes c f r =
    HoldsUnknowns number_of f.terms
    × InTurn form_constant form_terms (times_number number_of Changes c f.constant) (ChangesTerms unknown_of (has_zero_coefficient number_of) (times_unknown number_of Changes c) f.terms) r
