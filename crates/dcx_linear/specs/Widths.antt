-- How many unknowns forms and rows reach to.
use Rattle.std.specs.Prelude.{ℕ, suc, max, List, [], ◌∷◌}
use Rattle.dcx_linear.specs.declared.form.FormTerm.{FormTerm}
use Rattle.dcx_linear.specs.declared.form.Form.{Form}
use Rattle.dcx_linear.specs.declared.row.Row.{Row}

-- the least number above all unknowns of the terms
abbrev pub terms_width : {C : Type 0} → List (FormTerm C) → ℕ
terms_width [] = 0
terms_width (t ∷ ts) = max (suc t.unknown) (terms_width ts)

abbrev pub form_width : {C : Type 0} → Form C → ℕ
form_width f = terms_width f.terms

-- the least number above all unknowns of the rows
abbrev pub rows_width : {C : Type 0} → List (Row C) → ℕ
rows_width [] = 0
rows_width (r ∷ rs) = max (form_width r.form) (rows_width rs)
