-- Boxes: for entries of variables a lower or an upper integer, or both.
use Rattle.std.specs.Prelude.{ℕ, nat_lt, nat_eq, ◌&&◌, Bool, if◌then◌else◌, ℤ, pos, Option, Some, None, slice_get}
use Rattle.dcx_math.specs.Rational.{ℚ, whole, ◌≤ℚ◌}
use Rattle.dcx_shape.specs.Shape.{sides_of}
use Rattle.dcx_shape.specs.Sides.{entries_of}
use Rattle.dcx_call.specs.declared.attribute.Variable.{Variable}
use Rattle.dcx_call.specs.declared.attribute.Whole.{Whole}
use Rattle.dcx_call.specs.declared.attribute.Whole.TheVariants.{Not, Integer, Boolean}
use Rattle.dcx_convex.specs.Nodes.{Point}
use Rattle.dcx_tree.specs.declared.problem.Problem.{Problem}

-- ---- the bounds of one entry
pub record Bounds : Type 0 where
  pub lower : Option ℤ
  pub upper : Option ℤ

abbrev pub unbounded : Bounds
unbounded = record { lower = None; upper = None }

-- a number is at least the lower bound, and at most the upper one, where there are such
abbrev pub IsAtLeast : Option ℤ → ℚ → Type 0
IsAtLeast None x = Unit {0}
IsAtLeast (Some n) x = whole n ≤ℚ x

abbrev pub IsAtMost : Option ℤ → ℚ → Type 0
IsAtMost None x = Unit {0}
IsAtMost (Some n) x = x ≤ℚ whole n

pub record IsWithin (b : Bounds) (x : ℚ) : Type 0 where
  pub lower : IsAtLeast b.lower x
  pub upper : IsAtMost b.upper x

-- ---- boxes
-- the bounds of each entry of each variable
abbrev pub Box : Type 0
Box = ℕ → ℕ → Bounds

-- each entry of the point is within its bounds
abbrev pub IsInBox : Box → Point → Type 0
IsInBox box x = (k j : ℕ) → IsWithin (box k j) (x k j)

-- the bounds of an entry by the mark of its variable: a boolean one is at most 1
abbrev pub mark_bounds : Whole → Bounds
mark_bounds Not = unbounded
mark_bounds Integer = unbounded
mark_bounds Boolean = record { lower = None; upper = Some (pos 1) }

-- the bounds of entry j of a variable
abbrev pub root_bounds : Option Variable → ℕ → Bounds
root_bounds None j = unbounded
root_bounds (Some v) j = if nat_lt j (entries_of (sides_of v.shape)) then mark_bounds v.whole else unbounded

-- the box of all whole points: each boolean entry is at most 1
abbrev pub root_box : Problem → Box
root_box p k j = root_bounds (slice_get p.variables k) j

-- entry h of variable i is entry j of variable k
abbrev pub is_entry : ℕ → ℕ → ℕ → ℕ → Bool
is_entry k j i h = nat_eq i k && nat_eq h j

-- the two sides of a box at entry j of variable k: its points where that entry is at most n, and those where it is at least n
abbrev pub at_most : Box → ℕ → ℕ → ℤ → Box
at_most box k j n i h = if is_entry k j i h then record { lower = (box i h).lower; upper = Some n } else box i h

abbrev pub at_least : Box → ℕ → ℕ → ℤ → Box
at_least box k j n i h = if is_entry k j i h then record { lower = Some n; upper = (box i h).upper } else box i h
