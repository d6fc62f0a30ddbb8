-- What the bounds of a box are: they fit, and name known unknowns.
use Rattle.std.proofs.Common.{◌≡◌, ℕ, zero, suc, ◌+◌, ◌≤◌, ◌<◌, ◌^◌, Bool, true, false, if◌then◌else◌, List, [], ◌∷◌, Option, Some, None, refl, subst, arith, lit<}
use Rattle.std.specs.Prelude.{ℤ, pos, negsuc, ◌+ℤ◌, unsigned_abs, nat_lt, slice_get}
use Rattle.std.specs.List.{All}
use Rattle.std.proofs.lemmas.Int.{ints}
use Rattle.std.proofs.lemmas.List.Elements.{All-nil, All-cons, All-head, All-tail, All-append}
use Rattle.std.proofs.lemmas.Option.{none-some, same_Some}
use Rattle.dcx_frac.specs.Fits.{Fits}
use Rattle.dcx_shape.specs.Shape.{sides_of}
use Rattle.dcx_shape.specs.Sides.{entries_of}
use Rattle.dcx_call.specs.declared.attribute.Variable.{Variable}
use Rattle.dcx_call.specs.declared.attribute.Whole.{Whole}
use Rattle.dcx_call.specs.declared.attribute.Whole.TheVariants.{Not, Integer, Boolean}
use Rattle.dcx_tree.specs.declared.problem.Problem.{Problem}
use Rattle.dcx_right.specs.Boxes.{Bounds, unbounded, Box, mark_bounds, root_bounds, root_box, is_entry, at_most, at_least}
use Rattle.dcx_branch.specs.declared.place.Place.{Place}
use Rattle.dcx_branch.specs.declared.bound.BoundAt.{BoundAt}
use Rattle.dcx_branch.specs.declared.side.Side.{Side}
use Rattle.dcx_branch.specs.Between.{HasRoom}
use Rattle.dcx_branch.specs.Rows.{bound_of, bounds_of, all_bounds}
use Rattle.dcx_branch.specs.Sides.{side_bounds, sided, box_bounds}

-- ---- limits with room fit, and so do the next integers
pub size_fits : (n : ℕ) → n ≤ 2 ^ 126 + 1 → n < 2 ^ 127
size_fits n h = omega arith

next_size : (n : ℤ) → unsigned_abs (n +ℤ pos 1) ≤ unsigned_abs n + 1
next_size (pos a) = omega (arith, ints)
next_size (negsuc zero) = omega (arith, ints)
next_size (negsuc (suc a)) = omega (arith, ints)

pub room_fits : (n : ℤ) → HasRoom n → Fits n
room_fits n h = size_fits (unsigned_abs n) (omega arith)

pub next_fits : (n : ℤ) → HasRoom n → Fits (n +ℤ pos 1)
next_fits n h = let s = next_size n in size_fits (unsigned_abs (n +ℤ pos 1)) (omega arith)

-- ---- bounds of one entry
-- where there is one, it fits
abbrev pub FitsIf : Option ℤ → Type 0
FitsIf o = (n : ℤ) → o ≡ Some n → Fits n

pub record FitBounds (b : Bounds) : Type 0 where
  pub lower : FitsIf b.lower
  pub upper : FitsIf b.upper

fits_none : FitsIf None
fits_none n e = absurd (none-some n e)

fits_some : (m : ℤ) → Fits m → FitsIf (Some m)
fits_some m h n e = subst Fits (same_Some m n e) h

mark_fits : (w : Whole) → FitBounds (mark_bounds w)
mark_fits Not = record { lower = fits_none; upper = fits_none }
mark_fits Integer = record { lower = fits_none; upper = fits_none }
mark_fits Boolean = record { lower = fits_none; upper = fits_some (pos 1) (lit< tt) }

chosen : (c : Bool) (b d : Bounds) → FitBounds b → FitBounds d → FitBounds (if c then b else d)
chosen true b d h k = h
chosen false b d h k = k

side_fits : (d : Side) (b : Bounds) → FitBounds b → FitBounds (side_bounds d b)
side_fits d b h =
    chosen d.above (record { lower = Some (d.limit +ℤ pos 1); upper = b.upper }) (record { lower = b.lower; upper = Some d.limit })
    (record { lower = fits_some (d.limit +ℤ pos 1) (next_fits d.limit d.room); upper = h.upper })
    (record { lower = h.lower; upper = fits_some d.limit (room_fits d.limit d.room) })

sided_fits : (b : Bounds) (k j : ℕ) (ds : List Side) → FitBounds b → FitBounds (sided b k j ds)
sided_fits b k j [] h = h
sided_fits b k j (d ∷ ds) h =
    sided_fits (if is_entry d.place.variable d.place.entry k j then side_bounds d b else b) k j ds
    (chosen (is_entry d.place.variable d.place.entry k j) (side_bounds d b) b (side_fits d b h) h)

-- ---- boxes
-- the bounds of each entry fit
abbrev pub FitBox : Box → Type 0
FitBox box = (k j : ℕ) → FitBounds (box k j)

none_fits : FitBounds unbounded
none_fits = record { lower = fits_none; upper = fits_none }

pub root_fits : (p : Problem) → FitBox (root_box p)
root_fits p k j = by (slice_get p.variables k)
  where
    by : (o : Option Variable) → FitBounds (root_bounds o j)
    by None = none_fits
    by (Some v) = chosen (nat_lt j (entries_of (sides_of v.shape))) (mark_bounds v.whole) unbounded (mark_fits v.whole) none_fits

pub at_most_fits : (box : Box) (k j : ℕ) (n : ℤ) → Fits n → FitBox box → FitBox (at_most box k j n)
at_most_fits box k j n small h i e =
    chosen (is_entry k j i e) (record { lower = (box i e).lower; upper = Some n }) (box i e) (record { lower = (h i e).lower; upper = fits_some n small }) (h i e)

pub at_least_fits : (box : Box) (k j : ℕ) (n : ℤ) → Fits n → FitBox box → FitBox (at_least box k j n)
at_least_fits box k j n small h i e =
    chosen (is_entry k j i e) (record { lower = Some n; upper = (box i e).upper }) (box i e) (record { lower = fits_some n small; upper = (h i e).upper }) (h i e)

-- ---- all bounds
-- what holds of each bound of an entry
module _ (P : BoundAt → Type 0) where
  of_bound : (q : Place) (upper : Bool) (o : Option ℤ) → ((m : ℤ) → o ≡ Some m → P (record { place = q; upper = upper; limit = m })) → All P (bound_of q upper o)
  of_bound q upper None h = All-nil P
  of_bound q upper (Some m) h = All-cons P (record { place = q; upper = upper; limit = m }) [] (h m refl) (All-nil P)

  of_bounds : (q : Place) (b : Bounds) → ((upper : Bool) (m : ℤ) → (if upper then b.upper else b.lower) ≡ Some m → P (record { place = q; upper = upper; limit = m })) → All P (bounds_of q b)
  of_bounds q b h = All-append P (bound_of q false b.lower) (bound_of q true b.upper) (of_bound q false b.lower (h false)) (of_bound q true b.upper (h true))

abbrev LimitFits : BoundAt → Type 0
LimitFits b = Fits b.limit

limit_fits : (b : Bounds) → FitBounds b → (upper : Bool) (m : ℤ) → (if upper then b.upper else b.lower) ≡ Some m → Fits m
limit_fits b h true m e = h.upper m e
limit_fits b h false m e = h.lower m e

pub bounds_fit : (ps : List Place) (ds : List Side) → All (λ (b : BoundAt). Fits b.limit) (box_bounds ps ds)
bounds_fit [] ds = All-nil LimitFits
bounds_fit (q ∷ ps) ds =
    let b = sided (mark_bounds q.whole) q.variable q.entry ds in
    All-append LimitFits (bounds_of q b) (box_bounds ps ds)
    (of_bounds LimitFits q b (λ upper m e. limit_fits b (sided_fits (mark_bounds q.whole) q.variable q.entry ds (mark_fits q.whole)) upper m e))
    (bounds_fit ps ds)

-- those of a box
pub all_fit : (ps : List Place) (box : Box) → FitBox box → All (λ (b : BoundAt). Fits b.limit) (all_bounds ps box)
all_fit [] box h = All-nil LimitFits
all_fit (q ∷ ps) box h =
    let b = box q.variable q.entry in
    All-append LimitFits (bounds_of q b) (all_bounds ps box) (of_bounds LimitFits q b (λ upper m e. limit_fits b (h q.variable q.entry) upper m e)) (all_fit ps box h)

pub bounds_known : (n : ℕ) (ps : List Place) (ds : List Side) → All (λ (q : Place). q.unknown < n) ps → All (λ (b : BoundAt). b.place.unknown < n) (box_bounds ps ds)
bounds_known n [] ds h = All-nil (λ (b : BoundAt). b.place.unknown < n)
bounds_known n (q ∷ ps) ds h =
    let b = sided (mark_bounds q.whole) q.variable q.entry ds in
    let P = λ (c : BoundAt). c.place.unknown < n in
    All-append P (bounds_of q b) (box_bounds ps ds)
    (of_bounds P q b (λ upper m e. All-head (λ (p : Place). p.unknown < n) q ps h))
    (bounds_known n ps ds (All-tail (λ (p : Place). p.unknown < n) q ps h))
