-- The values of the nodes that have no variable below them: they need no point.
use Rattle.std.specs.Prelude.{◌≡◌, ℕ, ◌<◌, true, false, List, [], length, Option, Some, None}
use Rattle.dcx_atom.specs.declared.array.Array.{Array}
use Rattle.dcx_point.specs.Pairs.{Pairs}
use Rattle.dcx_convex.specs.Certificates.{is_fixed}
use Rattle.dcx_tree.specs.declared.problem.Problem.{Problem}
use Rattle.dcx_tree.specs.Meaning.{convex_problem}
use Rattle.dcx_tree.specs.Values.{array_at, IsValueOf}

-- the array of node i, and that it is its value
pub record HasValue (p : Problem) (setting : Pairs) (values : List (Option Array)) (i : ℕ) : Type 0 where
  pub array : Array
  pub there : array_at values i ≡ Some array
  pub is_value : IsValueOf p.tree setting [] i array

-- the values of the nodes without a variable below them, and nothing for the others
pub record AreFixedValues (p : Problem) (setting : Pairs) (values : List (Option Array)) : Type 0 where
  pub count : length values ≡ length p.tree
  pub fixed : (i : ℕ) → i < length p.tree → is_fixed (convex_problem p).nodes i ≡ true → HasValue p setting values i
  pub others : (i : ℕ) → i < length p.tree → is_fixed (convex_problem p).nodes i ≡ false → array_at values i ≡ None
