-- Forms whose coefficients list parameters under their names.
use Rattle.std.specs.List.{All}
use Rattle.dcx_linear.specs.declared.form.FormTerm.{FormTerm}
use Rattle.dcx_linear.specs.declared.form.Form.{Form}
use Rattle.dcx_linear.specs.Parameters.{Names}

abbrev pub IsNamedTerm : {C : Type 0} → (Names → C → Type 0) → Names → FormTerm C → Type 0
IsNamedTerm named names t = named names t.coefficient

-- so does the constant and each coefficient
abbrev pub IsNamedLinear : {C : Type 0} → (Names → C → Type 0) → Names → Form C → Type 0
IsNamedLinear named names f = named names f.constant × All (IsNamedTerm named names) f.terms
