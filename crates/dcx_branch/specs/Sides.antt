-- Sides of splits, one after another from the root box on: the box that they lead to, and the boxes that are open beside it.
use Rattle.std.specs.Prelude.{◌≡◌, ℕ, Bool, true, false, if◌then◌else◌, List, [], ◌∷◌, ◌++◌, Some, ◌+ℤ◌, pos}
use Rattle.dcx_right.specs.Boxes.{Bounds, Box, mark_bounds, is_entry, at_most, at_least}
use Rattle.dcx_branch.specs.declared.place.Place.{Place}
use Rattle.dcx_branch.specs.declared.bound.BoundAt.{BoundAt}
use Rattle.dcx_branch.specs.declared.side.Side.{Side}
use Rattle.dcx_branch.specs.declared.limits.Limits.{Limits}
use Rattle.dcx_branch.specs.Rows.{bounds_of}

-- ---- limits
abbrev pub limits_of : Limits → Bounds
limits_of l = record { lower = l.lower; upper = l.upper }

-- ---- boxes
-- a side of a box
abbrev pub side_of : Box → Side → Box
side_of box d =
    if d.above then at_least box d.place.variable d.place.entry (d.limit +ℤ pos 1) else at_most box d.place.variable d.place.entry d.limit

-- the box of sides, each taken of the one before
abbrev pub box_of : Box → List Side → Box
box_of box [] = box
box_of box (d ∷ ds) = box_of (side_of box d) ds

-- the upper side, where the lower one is taken
abbrev pub other_side : Box → Side → List Box
other_side box d = if d.above then [] else at_least box d.place.variable d.place.entry (d.limit +ℤ pos 1) ∷ []

-- the upper sides that aren't taken yet, the last first
abbrev pub open_sides : Box → List Side → List Box
open_sides box [] = []
open_sides box (d ∷ ds) = open_sides (side_of box d) ds ++ other_side box d

-- ---- one entry
-- the bounds of an entry on a side of it
abbrev pub side_bounds : Side → Bounds → Bounds
side_bounds d b = if d.above then record { lower = Some (d.limit +ℤ pos 1); upper = b.upper } else record { lower = b.lower; upper = Some d.limit }

-- the bounds of entry j of variable k in the box of sides, where they are b at first
abbrev pub sided : Bounds → ℕ → ℕ → List Side → Bounds
sided b k j [] = b
sided b k j (d ∷ ds) = sided (if is_entry d.place.variable d.place.entry k j then side_bounds d b else b) k j ds

-- the bounds of entries in the box of sides, in order
abbrev pub box_bounds : List Place → List Side → List BoundAt
box_bounds [] ds = []
box_bounds (q ∷ ps) ds = bounds_of q (sided (mark_bounds q.whole) q.variable q.entry ds) ++ box_bounds ps ds

-- ---- the next open side
-- the upper side of the same split
pub record IsUpperOf (d c : Side) : Type 0 where
  pub place : c.place ≡ d.place
  pub limit : c.limit ≡ d.limit
  pub above : c.above ≡ true

-- the sides lead to the box that is open beside the others, or no box is open
abbrev pub IsNextSide : List Side → Bool → List Side → Type 0
IsNextSide old true new = (box : Box) → open_sides box old ≡ box_of box new ∷ open_sides box new
IsNextSide old false new = (box : Box) → open_sides box old ≡ []
