-- The linear program of a reduced program: its rows are those of the constraints, entry by entry, and then those beside them.
-- Whose multipliers those of its rows are.
use Rattle.std.specs.Prelude.{◌≡◌, ◌↔◌, ℕ, zero, suc, ◌+◌, List, [], ◌∷◌, ◌++◌, map, pos}
use Rattle.dcx_math.specs.Rational.{ℚ, whole}
use Rattle.dcx_atom.specs.Arrays.{list_below}
use Rattle.dcx_convex.specs.Nodes.{Numbers}
use Rattle.dcx_convex.specs.Problems.{Relation, AtMost, Equal, Constraint, Problem, objective_of, gap_of}
use Rattle.dcx_convex.specs.Answers.{Multipliers}
use Rattle.dcx_convex.specs.Reductions.{Unknowns, Reduced, IsAssignment}
use Rattle.dcx_linear.specs.declared.row.RowKind.{RowKind}
use Rattle.dcx_linear.specs.declared.row.RowKind.TheVariants as kinds
use Rattle.dcx_linear.specs.Rows.{RowAt, LinearProgram, AreOfKinds}

-- how a row of a constraint stands to 0
abbrev pub kind_of : Relation → RowKind
kind_of AtMost = kinds.AtMost
kind_of Equal = kinds.Equal

-- ---- rows
-- entry j of left minus right, where the forms stand for the nodes
abbrev pub gap_row : (Unknowns → ℕ → Numbers) → Constraint → ℕ → RowAt
gap_row forms c j = record { kind = kind_of c.relation; number = λ u. gap_of (forms u) c j }

-- the rows of constraints, in order and entry by entry
abbrev pub gap_rows : (Unknowns → ℕ → Numbers) → List Constraint → List RowAt
gap_rows forms [] = []
gap_rows forms (c ∷ cs) = list_below c.size (gap_row forms c) ++ gap_rows forms cs

-- a row that is at most 0
abbrev pub bound_row : (Unknowns → ℚ) → RowAt
bound_row row = record { kind = kinds.AtMost; number = row }

-- l is the linear program of the reduced program r of p
pub record IsProgramOf (l : LinearProgram) (p : Problem) (r : Reduced) : Type 0 where
  pub assignments : (u : Unknowns) → AreOfKinds l.kinds u ↔ IsAssignment r u
  pub rows : l.rows ≡ gap_rows r.forms p.constraints ++ map bound_row r.rows
  pub objective : (u : Unknowns) → l.objective u ≡ objective_of p (r.forms u)

-- ---- multipliers
-- those of constraints, the first of whose rows has the number i: one for each entry
abbrev pub multipliers_from : ℕ → List Constraint → (ℕ → ℚ) → Multipliers
multipliers_from i [] m k j = whole (pos 0)
multipliers_from i (c ∷ cs) m zero j = m (i + j)
multipliers_from i (c ∷ cs) m (suc k) j = multipliers_from (i + c.size) cs m k j

abbrev pub multipliers_of : Problem → (ℕ → ℚ) → Multipliers
multipliers_of p m = multipliers_from 0 p.constraints m
