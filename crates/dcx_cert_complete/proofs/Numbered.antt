-- The rows of the graphs of the nodes, one node after the other.
use Rattle.std.proofs.Common.{◌≡◌, ℕ, List, length, Option, Some, None, slice_get, refl}
use Rattle.std.proofs.lemmas.List.{length-map}
use Rattle.dcx_math.specs.Rational.{ℚ}
use Rattle.dcx_convex.specs.Nodes.{Setting}
use Rattle.dcx_convex.specs.Reductions.{Unknowns}
use Rattle.dcx_convex.specs.Rules.{Rules}
use Rattle.dcx_tree.specs.declared.problem.Problem.{Problem}
use Rattle.dcx_tree.specs.Nodes.{Node}
use Rattle.dcx_unknowns.specs.Layout.{is_reduced, rows_if, rows_at}
use Rattle.dcx_unknowns.specs.Equations.{Forms, row_number, numbers_if}

module _ (rules : Rules) (p : Problem) (s : Setting) (forms : Forms) where
  -- the numbers of the rows of node i
  abbrev pub numbers_at : ℕ → List (Unknowns → ℚ)
  numbers_at i = numbers_if rules p s forms i (slice_get p.tree i) (rows_at rules p i)

  pub numbers_at-length : (i : ℕ) → length (numbers_at i) ≡ length (rows_at rules p i)
  numbers_at-length i = by (slice_get p.tree i)
    where
      by : (o : Option Node) → length (numbers_if rules p s forms i o (rows_if p.tree (is_reduced rules p i) o)) ≡ length (rows_if p.tree (is_reduced rules p i) o)
      by None = refl
      by (Some n) = length-map (rows_if p.tree (is_reduced rules p i) (Some n)) (row_number rules p s forms i n)
