-- The forms of formed nodes at unknowns and parameters, and what nodes are formed of: fractions, or affine numbers.
use Rattle.std.specs.Prelude.{◌≡◌, List, [], length, map, Some, slice_index_or}
use Rattle.dcx_math.specs.Rational.{ℚ}
use Rattle.dcx_frac.specs.declared.fraction.Frac.{Frac}
use Rattle.dcx_frac.specs.Results.{sum_of}
use Rattle.dcx_point.specs.Pairs.{Pairs}
use Rattle.dcx_convex.specs.Nodes.{Setting}
use Rattle.dcx_convex.specs.Rules.{Rules}
use Rattle.dcx_convex.specs.Reductions.{Unknowns, IsReduction}
use Rattle.dcx_tree.specs.declared.problem.Problem.{Problem}
use Rattle.dcx_tree.specs.Meaning.{convex_problem}
use Rattle.dcx_linear.specs.declared.param_form.ParamForm.{ParamForm}
use Rattle.dcx_linear.specs.Changes.{changed_frac}
use Rattle.dcx_linear.specs.Parameters.{Parameters, entry_of}
use Rattle.dcx_linear.specs.ParamForms.{number_of_form, form_of_number, sum_gives_form, change_gives_form, IsEntryForm}
use Rattle.dcx_linear.specs.Forms.{linear_value}
use Rattle.dcx_unknowns.specs.Equations.{Forms, AllStand, graph_numbers, reduced_with}
use Rattle.dcx_entries.specs.declared.formed.FormedRow.{FormedRow}
use Rattle.dcx_entries.specs.Parts.{zero_form}
use Rattle.dcx_entries.specs.Nodes.{Table, table_forms, AreFormed}
use Rattle.dcx_entries.specs.Kept.{graph_rows}

-- the number that the form of entry j of node i is, and 0 past the end
abbrev pub forms_at : {C : Type 0} → (C → Parameters → ℚ) → (Frac → C) → Parameters → Table C → Forms
forms_at value_at of_number params table u i j = linear_value value_at (slice_index_or (slice_index_or (table_forms table) i []) j (zero_form of_number)) u params

-- the numbers that rows are, at all unknowns
abbrev pub rows_at : {C : Type 0} → (C → Parameters → ℚ) → Parameters → List (FormedRow C) → List (Unknowns → ℚ)
rows_at value_at params rows = map (λ r u. linear_value value_at r.form u params) rows

-- the forms of a table meet the equation of each node, its rows are those of the graphs, and so both are a reduced program of
-- the problem
pub record MeetEquations {C : Type 0} (value_at : C → Parameters → ℚ) (of_number : Frac → C) (params : Parameters) (rules : Rules) (p : Problem) (s : Setting) (table : Table C) : Type 0 where
  pub stand : AllStand rules p s (forms_at value_at of_number params table)
  pub rows : graph_numbers rules p s (forms_at value_at of_number params table) ≡ rows_at value_at params (graph_rows of_number table)
  pub reduction : IsReduction rules (convex_problem p) s (reduced_with rules p s (forms_at value_at of_number params table))

-- all nodes are formed of fractions
abbrev pub AreFormedOfFracs : Rules → Problem → Pairs → Table Frac → Type 0
AreFormedOfFracs rules p setting table =
    AreFormed (λ f. f) (λ f. Some f) (λ a b r. r ≡ sum_of a b) (λ change a r. r ≡ changed_frac change a) (λ position name entry given f. entry_of given name entry ≡ Some f)
    rules p setting (length p.tree) table

-- all nodes are formed of affine numbers
abbrev pub AreFormedOfParamForms : Rules → Problem → Pairs → Table ParamForm → Type 0
AreFormedOfParamForms rules p setting table =
    AreFormed form_of_number number_of_form sum_gives_form change_gives_form (λ position name entry given f. IsEntryForm position name entry f) rules p setting (length p.tree) table
