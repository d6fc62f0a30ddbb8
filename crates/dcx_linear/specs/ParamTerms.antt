-- Terms of affine numbers: coefficients at entries of parameters.
use Rattle.std.specs.Prelude.{◌≡◌, ℕ, ◌+◌, ◌*◌, Bool, List, Result, Ok, Err}
use Rattle.dcx_math.specs.Rational.{ℚ, ◌*ℚ◌}
use Rattle.dcx_frac.specs.declared.fraction.Frac.{Frac}
use Rattle.dcx_frac.specs.declared.fraction.Passes.{Passes}
use Rattle.dcx_frac.specs.Frac.{value}
use Rattle.dcx_frac.specs.Results.{sum_of}
use Rattle.dcx_linear.specs.declared.change.Change.{Change}
use Rattle.dcx_linear.specs.declared.param_term.ParamTerm.{ParamTerm}
use Rattle.dcx_linear.specs.Changes.{changed_frac, zero_test}
use Rattle.dcx_linear.specs.Parameters.{Parameters, Names, IsNameOf}
use Rattle.dcx_linear.specs.Terms.{IsSparse}

-- terms rise by position and then by entry, which is below 2 ^ 32
abbrev pub key_of : ParamTerm → ℕ
key_of t = t.position * 4294967296 + t.entry

abbrev pub has_zero : ParamTerm → Bool
has_zero t = zero_test t.coefficient

-- positions and entries rise, and no coefficient is 0
abbrev pub HoldsTerms : List ParamTerm → Type 0
HoldsTerms ts = IsSparse key_of has_zero ts

-- the two stand at one entry of one parameter
abbrev pub IsSameEntry : ParamTerm → ParamTerm → Type 0
IsSameEntry t u = (u.position ≡ t.position) × (u.entry ≡ t.entry)

abbrev pub with_coefficient : ParamTerm → Frac → ParamTerm
with_coefficient t x = record t { coefficient = x }

-- the term with the coefficient that is formed
abbrev pub renewed : ParamTerm → Result Frac Passes → Result ParamTerm Passes
renewed t (Ok x) = Ok (with_coefficient t x)
renewed t (Err passes) = Err passes

-- what the sum of two terms of one entry answers
abbrev pub sum_gives_term : ParamTerm → ParamTerm → Result ParamTerm Passes → Type 0
sum_gives_term t u r = IsSameEntry t u × (r ≡ renewed t (sum_of t.coefficient u.coefficient))

-- what the changed term answers
abbrev pub change_gives_term : Change → ParamTerm → Result ParamTerm Passes → Type 0
change_gives_term change t r = r ≡ renewed t (changed_frac change t.coefficient)

-- the number that a term stands for
abbrev pub term_value : Parameters → ParamTerm → ℚ
term_value p t = value t.coefficient *ℚ p t.position t.entry

-- the parameter's name is the one at its position
abbrev pub IsNamed : Names → ParamTerm → Type 0
IsNamed names t = IsNameOf names t.position t.name
