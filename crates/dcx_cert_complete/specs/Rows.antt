-- The multipliers of the rows of a program, and the weights that are told of them.
use Rattle.std.specs.Prelude.{◌≡◌, ℕ, ◌+◌, ◌<◌, Bool, List, length, map, Option}
use Rattle.std.specs.List.{flat_map, range_with_len}
use Rattle.dcx_math.specs.Rational.{ℚ, ◌+ℚ◌, ◌≤ℚ◌}
use Rattle.dcx_math.specs.Sums.{IsNonnegative}
use Rattle.dcx_frac.specs.declared.fraction.Frac.{Frac}
use Rattle.dcx_shape.specs.Sides.{entries_of}
use Rattle.dcx_atom.specs.declared.array.Array.{Array}
use Rattle.dcx_atom.specs.Arrays.{number_at}
use Rattle.dcx_atom.specs.Steps.{rows_before}
use Rattle.dcx_convex.specs.Nodes.{Setting}
use Rattle.dcx_convex.specs.Rules.{Rules}
use Rattle.dcx_convex.specs.Reductions.{Unknowns}
use Rattle.dcx_tree.specs.declared.problem.Problem.{Problem}
use Rattle.dcx_tree.specs.Nodes.{arg_sides}
use Rattle.dcx_linear.specs.Rows.{AreOfKinds, combined_from}
use Rattle.dcx_unknowns.specs.Layout.{unknown_kinds, rows_at}
use Rattle.dcx_unknowns.specs.Equations.{Forms, graph_numbers}
use Rattle.dcx_postsolve.specs.Programs.{bound_row}
use Rattle.dcx_cert_complete.specs.Families.{EachAtom}
use Rattle.dcx_cert_complete.specs.Bounded.{started}

-- the rows of the graphs of the nodes before node i
abbrev pub rows_until : Rules → Problem → ℕ → ℕ
rows_until rules p i = length (flat_map (rows_at rules p) (range_with_len 0 i))

-- v is at most the coefficients at the start over the forms, with the rows of the graphs times their multipliers, the first of which has
-- the number `first`, at all unknowns of their kinds
abbrev pub BoundsForms : Rules → Problem → Setting → Forms → List Array → (with_objective : Bool) → ℚ → (m : ℕ → ℚ) → (first : ℕ) → Type 0
BoundsForms rules p s forms duals with_objective v m first =
    (u : Unknowns) → AreOfKinds (unknown_kinds rules p) u → v ≤ℚ started with_objective p duals (forms u) +ℚ combined_from m first (map bound_row (graph_numbers rules p s forms)) u

-- the multipliers of those rows are at least 0, and those of the nodes whose values aren't known are their weights
pub record AreRowWeights (rules : Rules) (p : Problem) (values : List (Option Array)) (weights : ℕ → List Frac) (m : ℕ → ℚ) (first : ℕ) : Type 0 where
  pub signs : (i q : ℕ) → i < length p.tree → q < length (rows_at rules p i) → IsNonnegative (m (first + (rows_until rules p i + q)))
  pub weights_are : EachAtom p.tree values (λ i n a. (q : ℕ) → q < rows_before a (arg_sides p.tree n) (entries_of n.sides) → number_at (weights i) q ≡ m (first + (rows_until rules p i + q)))
