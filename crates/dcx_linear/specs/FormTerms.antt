-- Terms of linear forms: coefficients at unknowns.
use Rattle.std.specs.Prelude.{◌≡◌, ℕ, Bool, false, List, Option, Some, None, Result, Ok, Err}
use Rattle.dcx_math.specs.Rational.{ℚ, ◌*ℚ◌}
use Rattle.dcx_frac.specs.declared.fraction.Frac.{Frac}
use Rattle.dcx_frac.specs.declared.fraction.Passes.{Passes}
use Rattle.dcx_linear.specs.declared.change.Change.{Change}
use Rattle.dcx_linear.specs.declared.form.FormTerm.{FormTerm}
use Rattle.dcx_linear.specs.Changes.{zero_test}
use Rattle.dcx_linear.specs.Parameters.{Parameters}
use Rattle.dcx_linear.specs.Terms.{IsSparse}

-- a number for each unknown
abbrev pub Unknowns : Type 0
Unknowns = ℕ → ℚ

abbrev pub unknown_of : {C : Type 0} → FormTerm C → ℕ
unknown_of t = t.unknown

-- the coefficient is told to be 0
abbrev pub is_told_zero : Option Frac → Bool
is_told_zero None = false
is_told_zero (Some x) = zero_test x

-- the coefficient is the number 0
abbrev pub has_zero_coefficient : {C : Type 0} → (C → Option Frac) → FormTerm C → Bool
has_zero_coefficient number_of t = is_told_zero (number_of t.coefficient)

-- unknowns rise, and no coefficient is 0
abbrev pub HoldsUnknowns : {C : Type 0} → (C → Option Frac) → List (FormTerm C) → Type 0
HoldsUnknowns number_of ts = IsSparse unknown_of (has_zero_coefficient number_of) ts

-- what an operation on coefficients gives of the term of an unknown
abbrev pub GivesTerm : {C : Type 0} → ℕ → (Result C Passes → Type 0) → Result (FormTerm C) Passes → Type 0
GivesTerm unknown Forms (Ok t) = (t.unknown ≡ unknown) × Forms (Ok t.coefficient)
GivesTerm unknown Forms (Err passes) = Forms (Err passes)

-- what the sum of two terms of one unknown answers
abbrev pub sum_gives_unknown : {C : Type 0} → (C → C → Result C Passes → Type 0) → FormTerm C → FormTerm C → Result (FormTerm C) Passes → Type 0
sum_gives_unknown Sums t u r = (u.unknown ≡ t.unknown) × GivesTerm t.unknown (Sums t.coefficient u.coefficient) r

-- what the changed term answers
abbrev pub change_gives_unknown : {C : Type 0} → (Change → C → Result C Passes → Type 0) → Change → FormTerm C → Result (FormTerm C) Passes → Type 0
change_gives_unknown Changes change t r = GivesTerm t.unknown (Changes change t.coefficient) r

-- the number that a term stands for
abbrev pub unknown_value : {C : Type 0} → (C → Parameters → ℚ) → Unknowns → Parameters → FormTerm C → ℚ
unknown_value value_at x p t = value_at t.coefficient p *ℚ x t.unknown

-- a sum has the unknown of its summands
pub unknown_sum_key : {C : Type 0} (Sums : C → C → Result C Passes → Type 0) (t u v : FormTerm C) → sum_gives_unknown Sums t u (Ok v) → v.unknown ≡ t.unknown
unknown_sum_key Sums t u v h = h.1.0

-- a changed term keeps its unknown
pub unknown_change_key : {C : Type 0} (Changes : Change → C → Result C Passes → Type 0) (change : Change) (t v : FormTerm C) → change_gives_unknown Changes change t (Ok v) → v.unknown ≡ t.unknown
unknown_change_key Changes change t v h = h.0
