-- A program as a linear program over exact numbers, and when it is one of a problem.
use Rattle.std.specs.Prelude.{◌≡◌, map, Option, Result}
use Rattle.dcx_math.specs.Rational.{ℚ}
use Rattle.dcx_convex.specs.Nodes.{Setting}
use Rattle.dcx_convex.specs.Rules.{Rules}
use Rattle.dcx_convex.specs.Reductions.{Unknowns, Reduced, IsReduction}
use Rattle.dcx_tree.specs.declared.problem.Problem.{Problem}
use Rattle.dcx_tree.specs.Meaning.{convex_problem}
use Rattle.dcx_linear.specs.declared.row.Row.{Row}
use Rattle.dcx_linear.specs.Parameters.{Parameters}
use Rattle.dcx_linear.specs.Forms.{linear_value}
use Rattle.dcx_linear.specs.Rows.{RowAt, LinearProgram}
use Rattle.dcx_unknowns.specs.Unknowns.{point_at}
use Rattle.dcx_postsolve.specs.Programs.{IsProgramOf}
use Rattle.dcx_frac.specs.declared.fraction.Frac.{Frac}
use Rattle.dcx_frac.specs.declared.fraction.Passes.{Passes}
use Rattle.dcx_linear.specs.declared.change.Change.{Change}
use Rattle.dcx_unknowns.specs.Equations.{graph_numbers, reduced_with}
use Rattle.dcx_entries.specs.Nodes.{Table}
use Rattle.dcx_entries.specs.Kept.{graph_rows}
use Rattle.dcx_formed.specs.Forms.{forms_at, rows_at}
use Rattle.dcx_graph.specs.Program.{Program, IsProgram}

-- a row, and a program, where the parameters have these numbers
abbrev pub row_at : {C : Type 0} → (C → Parameters → ℚ) → Parameters → Row C → RowAt
row_at value_at params r = record { kind = r.kind; number = λ u. linear_value value_at r.form u params }

abbrev pub linear_at : {C : Type 0} → (C → Parameters → ℚ) → Parameters → Program C → LinearProgram
linear_at value_at params q = record { kinds = q.kinds; rows = map (row_at value_at params) q.rows; objective = λ u. linear_value value_at q.objective u params }

-- the linear program is that of a reduced program of the problem at s, whose unknowns stand for points as the layout has it
pub record IsReductionAt (rules : Rules) (p : Problem) (s : Setting) (l : LinearProgram) : Type 0 where
  pub reduced : Reduced
  pub reduction : IsReduction rules (convex_problem p) s reduced
  pub program : IsProgramOf l (convex_problem p) reduced
  pub point : (u : Unknowns) → reduced.point u ≡ point_at p.variables u

-- the program of a table whose forms and rows are a reduced program is the linear program of that one
abbrev pub ProgramsAreReductions : {C : Type 0} → (C → Parameters → ℚ) → (Frac → C) → (C → Option Frac) → (C → C → Result C Passes → Type 0) → (Change → C → Result C Passes → Type 0) → Type 0
ProgramsAreReductions {C} value_at of_number number_of Sums Changes =
    (rules : Rules) (p : Problem) (s : Setting) (table : Table C) (q : Program C) (params : Parameters) → IsProgram of_number number_of Sums Changes rules p table q →
    graph_numbers rules p s (forms_at value_at of_number params table) ≡ rows_at value_at params (graph_rows of_number table) →
    IsReduction rules (convex_problem p) s (reduced_with rules p s (forms_at value_at of_number params table)) → IsReductionAt rules p s (linear_at value_at params q)
