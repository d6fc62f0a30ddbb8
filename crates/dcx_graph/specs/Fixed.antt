-- Programs with affine coefficients that speak of a problem's parameters alone, and what they are at a setting.
use Rattle.std.specs.Prelude.{◌≡◌, ℕ, length, Some, Ok, slice_get}
use Rattle.std.specs.List.{All}
use Rattle.dcx_shape.specs.Shape.{sides_of}
use Rattle.dcx_point.specs.Pairs.{Pairs}
use Rattle.dcx_call.specs.Values.{HasArray}
use Rattle.dcx_convex.specs.Rules.{Rules}
use Rattle.dcx_tree.specs.declared.problem.Problem.{Problem}
use Rattle.dcx_tree.specs.Meaning.{setting_of}
use Rattle.dcx_linear.specs.declared.row.Row.{Row}
use Rattle.dcx_linear.specs.declared.param_form.ParamForm.{ParamForm}
use Rattle.dcx_linear.specs.Parameters.{Parameters}
use Rattle.dcx_linear.specs.ParamForms.{form_of_number, number_of_form, sum_gives_form, change_gives_form, form_value, IsEntryForm}
use Rattle.dcx_linear.specs.FormsAt.{frac_value}
use Rattle.dcx_entries.specs.Nodes.{Table, AreFormed}
use Rattle.dcx_formed.specs.Within.{IsKnown}
use Rattle.dcx_graph.specs.Program.{Program, IsProgram}
use Rattle.dcx_graph.specs.Fixing.{IsListedProgram, FixGives}
use Rattle.dcx_graph.specs.AsLinear.{linear_at, IsReductionAt}

-- each entry that is listed is one of a declared parameter
pub record IsKnownProgram (p : Problem) (q : Program ParamForm) : Type 0 where
  pub rows : (k : ℕ) (r : Row ParamForm) → slice_get q.rows k ≡ Some r → IsKnown p r.form
  pub objective : IsKnown p q.objective

-- each parameter has an array of its shape
abbrev pub HaveArrays : Problem → Pairs → Type 0
HaveArrays p setting = All (λ q. HasArray setting q.name (sides_of q.shape)) p.parameters

-- ---- the statements
-- the program of formed nodes speaks of declared parameters alone
abbrev pub ProgramsAreKnown : Type 0
ProgramsAreKnown =
    (rules : Rules) (p : Problem) (setting : Pairs) (table : Table ParamForm) (q : Program ParamForm) →
    AreFormed form_of_number number_of_form sum_gives_form change_gives_form (λ position name entry s c. IsEntryForm position name entry c) rules p setting (length p.tree) table →
    IsProgram form_of_number number_of_form sum_gives_form change_gives_form rules p table q → IsKnownProgram p q

-- so a setting with an array for each parameter has each entry that is listed
abbrev pub KnownAreListed : Type 0
KnownAreListed = (p : Problem) (setting : Pairs) (q : Program ParamForm) → IsKnownProgram p q → HaveArrays p setting → IsListedProgram setting q

-- and at the setting the program is a reduced program of the problem if it was one with the setting's numbers
abbrev pub FixedAreReductions : Type 0
FixedAreReductions =
    (rules : Rules) (p : Problem) (setting : Pairs) (q : Program ParamForm) (r : Program _) (params : Parameters) → IsKnownProgram p q → HaveArrays p setting → FixGives setting q (Ok r) →
    IsReductionAt rules p (setting_of p setting) (linear_at form_value (setting_of p setting) q) → IsReductionAt rules p (setting_of p setting) (linear_at frac_value params r)
