-- The main statements, as the clauses of the laws say them.
use Rattle.std.specs.Prelude.{◌≡◌, ℕ, ◌<◌, ◌⊎◌, ◌↔◌}
use Rattle.std.specs.List.{All}
use Rattle.dcx_math.specs.Rational.{ℚ}
use Rattle.dcx_shape.specs.declared.shape.Sides.{Sides}
use Rattle.dcx_shape.specs.declared.shape.Sides.TheVariants.{Matrix}
use Rattle.dcx_shape.specs.Shape.{sides_of}
use Rattle.dcx_shape.specs.Sides.{entries_of}
use Rattle.dcx_shape.specs.Places.{row_place}
use Rattle.dcx_atom.specs.Arrays.{entry_at}
use Rattle.dcx_point.specs.Pairs.{Pairs}
use Rattle.dcx_call.specs.declared.attribute.Attribute.{Attribute}
use Rattle.dcx_call.specs.declared.attribute.Attribute.TheVariants.{Symmetric}
use Rattle.dcx_call.specs.declared.attribute.Variable.{Variable}
use Rattle.dcx_call.specs.Attributes.{IsInDomain}
use Rattle.dcx_tree.specs.declared.problem.Problem.{Problem}
use Rattle.dcx_tree.specs.Meaning as meaning
use Rattle.dcx_tree.specs.Meaning.{point_of}
use Rattle.dcx_domain.specs.Entries.{KeepsAt, LeavesAt, KeepsDomainAt}
use Rattle.dcx_domain.specs.Points.{IsInside}

-- an array is in the domain of a variable exactly where each entry keeps what is demanded; an entry keeps it or leaves it, and
-- not both; of a square symmetric array each entry below the diagonal is asked, and no other
pub record HoldsForEntries : Type 0 where
  pub each : (v : Variable) (x : ℕ → ℚ) → IsInDomain v x ↔ ((k : ℕ) → k < entries_of (sides_of v.shape) → KeepsDomainAt v x k)
  pub either : (a : Attribute) (sides : Sides) (x : ℕ → ℚ) (k : ℕ) → k < entries_of sides → KeepsAt a sides x k ⊎ LeavesAt a sides x k
  pub not_both : (a : Attribute) (sides : Sides) (x : ℕ → ℚ) (k : ℕ) → KeepsAt a sides x k → ¬ LeavesAt a sides x k
  pub square : (n i j : ℕ) (x : ℕ → ℚ) → i < n → j < n →
      KeepsAt Symmetric (Matrix n n) x (row_place (Matrix n n) i j) ↔ (j < i → entry_at (Matrix n n) x i j ≡ entry_at (Matrix n n) x j i)

-- a point is in the domain of a problem exactly where each variable's array is in the variable's domain
abbrev pub HoldsForPoints : Type 0
HoldsForPoints = (p : Problem) (given : Pairs) → meaning.IsInDomain p (point_of p given) ↔ All (λ v. IsInside v given) p.variables
