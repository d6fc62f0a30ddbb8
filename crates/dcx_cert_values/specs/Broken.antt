-- The first entry at which two arrays don't stand to each other as asked.
use Rattle.std.specs.Prelude.{◌≡◌, ℕ, ◌<◌, List, length, Some, slice_get}
use Rattle.dcx_math.specs.Rational.{◌-ℚ◌}
use Rattle.dcx_frac.specs.declared.fraction.Frac.{Frac}
use Rattle.dcx_atom.specs.Arrays.{number_at}
use Rattle.dcx_convex.specs.Problems.{Holds}
use Rattle.dcx_tree.specs.declared.constraint.Kind.{Kind}
use Rattle.dcx_tree.specs.Meaning.{relation_of}

-- at entry j left minus right is at most 0, or is 0
abbrev pub HoldsAt : Kind → (left right : List Frac) → ℕ → Type 0
HoldsAt kind left right j = Holds (relation_of kind) (number_at left j -ℚ number_at right j)

-- at each entry
abbrev pub AllHold : Kind → (left right : List Frac) → Type 0
AllHold kind left right = (j : ℕ) → j < length left → HoldsAt kind left right j

-- this entry is the first at which it isn't so, and these numbers stand there
pub record IsFirstBroken (kind : Kind) (left right : List Frac) (entry : ℕ) (x y : Frac) : Type 0 where
  pub left_is : slice_get left entry ≡ Some x
  pub right_is : slice_get right entry ≡ Some y
  pub before : (j : ℕ) → j < entry → HoldsAt kind left right j
  pub broken : ¬ HoldsAt kind left right entry
