-- Where a parameter stands in affine numbers, forms and rows.
use Rattle.std.specs.Prelude.{ℕ, ◌==◌, Bool, List}
use Rattle.std.specs.List.{list_any}
use Rattle.dcx_linear.specs.declared.param_form.ParamForm.{ParamForm}
use Rattle.dcx_linear.specs.declared.form.Form.{Form}
use Rattle.dcx_linear.specs.declared.row.Row.{Row}

-- the affine number lists an entry of the parameter at position k
abbrev pub lists : ℕ → ParamForm → Bool
lists k f = list_any (λ t. t.position == k) f.terms

-- the coefficient of an unknown does
abbrev pub scales_unknown : ℕ → Form ParamForm → Bool
scales_unknown k f = list_any (λ t. lists k t.coefficient) f.terms

-- that of a row does
abbrev pub scales_row : ℕ → List (Row ParamForm) → Bool
scales_row k rows = list_any (λ r. scales_unknown k r.form) rows
