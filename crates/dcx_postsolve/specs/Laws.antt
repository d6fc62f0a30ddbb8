-- The laws of what is read from columns and rows: unknowns, points, multipliers, and answers at the same of them.
use Rattle.std.specs.Prelude.{◌≡◌, ◌≤◌, ◌⊎◌, ℕ, ◌+◌, ◌<◌, List, map, length, Some, None, sum_by, slice_get}
use Rattle.dcx_math.specs.Rational.{ℚ}
use Rattle.dcx_math.specs.Sums.{rat_at}
use Rattle.dcx_frac.specs.declared.fraction.Frac.{Frac}
use Rattle.dcx_frac.specs.declared.fraction.Passes.{Passes}
use Rattle.dcx_atom.specs.declared.array.Array.{Array}
use Rattle.dcx_point.specs.Pairs.{Pairs}
use Rattle.dcx_convex.specs.Nodes.{Setting, Point}
use Rattle.dcx_convex.specs.Answers.{Multipliers}
use Rattle.dcx_tree.specs.declared.constraint.Constraint.{Constraint}
use Rattle.dcx_tree.specs.declared.problem.Problem.{Problem}
use Rattle.dcx_tree.specs.Meaning.{point_of, value_at, IsOptimal, IsInfeasible, IsUnbounded}
use Rattle.dcx_tab.specs.declared.rows.ColumnKind.{ColumnKind}
use Rattle.dcx_tab.specs.declared.program.Program.{Program}
use Rattle.dcx_lp_answer.specs.declared.answer.LpStatus.{LpStatus}
use Rattle.dcx_lp_answer.specs.declared.answer.RowNote.{RowNote}
use Rattle.dcx_lp_answer.specs.declared.answer.LpAnswer.{LpAnswer}
use Rattle.dcx_lp_answer.specs.Right.{is_inequality, multiplier_at, IsOneSided}
use Rattle.dcx_lp_answer.specs.Multipliers.{is_at_most, passing_from}
use Rattle.dcx_std.specs.GivenRows.{GivenRows}
use Rattle.dcx_std.specs.IntegerRows.{IsMade}
use Rattle.dcx_std.specs.Solutions.{unknowns_at}
use Rattle.dcx_unknowns.specs.Unknowns.{point_at}
use Rattle.dcx_unknowns.specs.Layout.{constraint_rows}
use Rattle.dcx_unknowns.specs.Laws.{AreAlike}
use Rattle.dcx_postsolve.specs.Numbers.{unknown_numbers, HasColumns, AreOneSided}
use Rattle.dcx_postsolve.specs.Points.{numbered, IsPointOf}
use Rattle.dcx_postsolve.specs.Duals.{row_kind, all_multipliers, AreDuals, first_row, IsRowMultiplier}
use Rattle.dcx_right.specs.Answers.{multipliers_in}

-- ---- unknowns
-- numbers of the columns of a program, one for each, tell those of the unknowns of its rows
pub record ColumnsTellUnknowns (rows : GivenRows) (q : Program) (zs : List ℚ) : Type 0 where
  pub there : HasColumns rows.kinds zs
  pub one_sided : IsOneSided q.columns zs → AreOneSided rows.kinds zs
  pub same : (u : ℕ) → rat_at (unknown_numbers rows.kinds zs) u ≡ unknowns_at q.columns zs u

abbrev pub ColumnsAreUnknowns : Type 0
ColumnsAreUnknowns = (rows : GivenRows) (q : Program) (zs : List ℚ) → IsMade rows q → length zs ≡ length q.columns → ColumnsTellUnknowns rows q zs

-- the point of the arrays of unknowns has the entries of the point of the unknowns
abbrev pub ArraysArePoints : Type 0
ArraysArePoints = (p : Problem) (us : List Frac) (given : Pairs) → IsPointOf p.variables us given → AreAlike p.variables (point_at p.variables (numbered us)) (point_of p given)

-- ---- multipliers
-- what is told of the multipliers of constraints, of whose rows these are the first
pub record AreOne (status : LpStatus) (constraints : List Constraint) (notes : List RowNote) : Type 0 where
  pub same : (d e : List Array) → AreDuals status constraints notes d → AreDuals status constraints notes e → map (λ x. x.entries) d ≡ map (λ x. x.entries) e
  pub none_passes : (d : List Array) → AreDuals status constraints notes d → passing_from 0 (all_multipliers status constraints notes) ≡ None
  pub either : sum_by constraint_rows constraints ≤ length notes →
      ((d : List Array) × AreDuals status constraints notes d) ⊎ ((row : ℕ) × (passes : Passes) × (passing_from 0 (all_multipliers status constraints notes) ≡ Some (row, passes)))

abbrev pub DualsAreOne : Type 0
DualsAreOne = (status : LpStatus) (constraints : List Constraint) (notes : List RowNote) → AreOne status constraints notes

abbrev pub DualsAreMultipliers : Type 0
DualsAreMultipliers = (status : LpStatus) (constraints : List Constraint) (notes : List RowNote) (d : List Array) → AreDuals status constraints notes d →
    (k : ℕ) (c : Constraint) → slice_get constraints k ≡ Some c → (j : ℕ) → j < constraint_rows c →
    IsRowMultiplier status c.kind notes (first_row constraints k + j) (multipliers_in d k j)

-- of the rows of constraints these columns have slacks for the inequalities, and for no others
abbrev pub HaveSlacks : List ColumnKind → List Constraint → Type 0
HaveSlacks kinds constraints = (k : ℕ) (c : Constraint) → slice_get constraints k ≡ Some c → (j : ℕ) → j < constraint_rows c
    → is_inequality kinds (first_row constraints k + j) ≡ is_at_most (row_kind c.kind)

abbrev pub DualsAreRight : Type 0
DualsAreRight = (kinds : List ColumnKind) (a : LpAnswer) (constraints : List Constraint) (d : List Array) → HaveSlacks kinds constraints → AreDuals a.status constraints a.rows d →
    (k : ℕ) (c : Constraint) → slice_get constraints k ≡ Some c → (j : ℕ) → j < constraint_rows c → multipliers_in d k j ≡ multiplier_at kinds a (first_row constraints k + j)

-- ---- answers
abbrev pub AlikePointsHaveValues : Type 0
AlikePointsHaveValues = (p : Problem) (s : Setting) (x y : Point) → AreAlike p.variables x y → (i j : ℕ) → value_at p s x i j ≡ value_at p s y i j

-- the multipliers are the same at the entries of the constraints
abbrev pub AreSameMultipliers : List Constraint → Multipliers → Multipliers → Type 0
AreSameMultipliers constraints m n = (k : ℕ) (c : Constraint) → slice_get constraints k ≡ Some c → (j : ℕ) → j < constraint_rows c → m k j ≡ n k j

-- answers stay answers at points that are alike and at multipliers that are
-- the same
pub record StayAnswers (p : Problem) (s : Setting) : Type 0 where
  pub optimal : (v : ℚ) (x y : Point) (m n : Multipliers) → AreAlike p.variables x y → AreSameMultipliers p.constraints m n → IsOptimal p s v x m → IsOptimal p s v y n
  pub infeasible : (m n : Multipliers) (gap : ℚ) → AreSameMultipliers p.constraints m n → IsInfeasible p s m gap → IsInfeasible p s n gap
  pub unbounded : (x y d e : Point) (bound slope : ℚ) → AreAlike p.variables x y → AreAlike p.variables d e → IsUnbounded p s x d bound slope → IsUnbounded p s y e bound slope

abbrev pub AnswersStay : Type 0
AnswersStay = (p : Problem) (s : Setting) → StayAnswers p s
