-- Forms and rows with affine coefficients, at a setting.
use Rattle.std.specs.Prelude.{◌≡◌, ◌⊎◌, ℕ, suc, List, [], ◌∷◌, ◌++◌, length, Option, Some, Result, Ok, Err}
use Rattle.std.specs.List.{All}
use Rattle.std.specs.Option.{option_to_list}
use Rattle.dcx_math.specs.Rational.{ℚ}
use Rattle.dcx_frac.specs.declared.fraction.Frac.{Frac}
use Rattle.dcx_frac.specs.declared.fraction.Passes.{Passes}
use Rattle.dcx_frac.specs.Frac.{value}
use Rattle.dcx_atom.specs.Formed.{and_then}
use Rattle.dcx_point.specs.Pairs.{Pairs}
use Rattle.dcx_linear.specs.declared.param_form.ParamForm.{ParamForm}
use Rattle.dcx_linear.specs.declared.form.FormTerm.{FormTerm}
use Rattle.dcx_linear.specs.declared.form.Form.{Form}
use Rattle.dcx_linear.specs.declared.row.Row.{Row}
use Rattle.dcx_linear.specs.declared.row.UnknownKind.{UnknownKind}
use Rattle.dcx_linear.specs.Parameters.{Parameters}
use Rattle.dcx_linear.specs.ParamForms.{IsListedBy, number_at}
use Rattle.dcx_linear.specs.Slots.{kept_term}

-- a fraction is the number that it is
abbrev pub told : Frac → Option Frac
told x = Some x

abbrev pub frac_value : Frac → Parameters → ℚ
frac_value x p = value x

-- ---- forms
-- the setting has each entry that the coefficient of the term lists
abbrev pub IsListedTerm : Pairs → FormTerm ParamForm → Type 0
IsListedTerm setting t = IsListedBy setting t.coefficient

-- the setting has each entry that the form lists
abbrev pub IsListedForm : Pairs → Form ParamForm → Type 0
IsListedForm setting f = IsListedBy setting f.constant × All (IsListedTerm setting) f.terms

-- the terms at a setting, one by one, without those whose coefficient is 0 there; or the first operation that passes
abbrev pub terms_at : Pairs → List (FormTerm ParamForm) → Result (List (FormTerm Frac)) Passes
terms_at setting [] = Ok []
terms_at setting (t ∷ ts) = and_then (number_at setting t.coefficient) (λ x. and_then (terms_at setting ts) (λ us. Ok (option_to_list (kept_term told t.unknown x) ++ us)))

abbrev pub with_terms : Frac → List (FormTerm Frac) → Form Frac
with_terms x us = record { constant = x; terms = us }

-- the form at a setting: its constant, and then its terms; or the first operation that passes
abbrev pub form_at : Pairs → Form ParamForm → Result (Form Frac) Passes
form_at setting f = and_then (number_at setting f.constant) (λ x. and_then (terms_at setting f.terms) (λ us. Ok (with_terms x us)))

-- ---- rows
-- the setting has each entry that the row lists
abbrev pub IsListedRow : Pairs → Row ParamForm → Type 0
IsListedRow setting r = IsListedForm setting r.form

-- a row stands to 0 as before
abbrev pub with_form : Row ParamForm → Form Frac → Row Frac
with_form r f = record { kind = r.kind; form = f }

-- the number of the row stands beside what passes
abbrev pub at_row : {A : Type 0} → ℕ → Result A Passes → Result A (ℕ × Passes)
at_row n (Ok x) = Ok x
at_row n (Err passes) = Err (n, passes)

-- the form at a setting; or the first operation that passes, with the row
abbrev pub form_on_row : Pairs → ℕ → Form ParamForm → Result (Form Frac) (ℕ × Passes)
form_on_row setting n f = at_row n (form_at setting f)

-- goes on with the row that was formed
abbrev pub then_row : {A B : Type 0} → Result A (ℕ × Passes) → (A → Result B (ℕ × Passes)) → Result B (ℕ × Passes)
then_row (Ok x) f = f x
then_row (Err stop) f = Err stop

-- the rows at a setting in order, counted from n; or the first operation that passes, with its row
abbrev pub rows_at : Pairs → ℕ → List (Row ParamForm) → Result (List (Row Frac)) (ℕ × Passes)
rows_at setting n [] = Ok []
rows_at setting n (r ∷ rs) = then_row (form_on_row setting n r.form) (λ f. then_row (rows_at setting (suc n) rs) (λ us. Ok (with_form r f ∷ us)))

-- a linear program over affine numbers, or over fractions: rows, what is to be small, and the kinds of the unknowns
abbrev pub ProgramOf : Type 0 → Type 0
ProgramOf C = List (Row C) × Form C × List UnknownKind

-- what a program at a setting answers: the rows in order, and then what is to be small, which counts as the row behind them; the kinds stay
abbrev pub program_gives : Pairs → ProgramOf ParamForm → Result (ProgramOf Frac) (ℕ × Passes) → Type 0
program_gives setting p (Ok q) = (rows_at setting 0 p.0 ≡ Ok q.0) × (form_on_row setting (length p.0) p.1 ≡ Ok q.1) × (q.2 ≡ p.2)
program_gives setting p (Err stop) = (rows_at setting 0 p.0 ≡ Err stop) ⊎ (((rs : List (Row Frac)) × (rows_at setting 0 p.0 ≡ Ok rs)) × (form_on_row setting (length p.0) p.1 ≡ Err stop))
