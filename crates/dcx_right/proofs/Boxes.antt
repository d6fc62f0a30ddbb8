-- Points in boxes: the sides of a box, and the box of all whole points.
use Rattle.std.proofs.Common.{◌≡◌, ℕ, ◌<◌, Bool, true, false, if◌then◌else◌, nat_lt, nat_eq, ◌⊎◌, inl, inr, ℤ, pos, ◌+ℤ◌, ◌≤ℤ◌, ◌<ℤ◌, Option, Some, None, slice_get, refl, sym, subst, arith}
use Rattle.std.proofs.lemmas.Bool.{eqb-true, and_parts, ltb-true}
use Rattle.std.proofs.lemmas.Int.{ints}
use Rattle.dcx_math.specs.Rational.{ℚ, whole, ◌≤ℚ◌}
use Rattle.dcx_math.proofs.IntegerLaws.{≤ℤ-or-<ℤ}
use Rattle.dcx_math.proofs.Orders.{whole-≤ℤ, ≤ℚ-from_≡}
use Rattle.dcx_shape.specs.Shape.{sides_of}
use Rattle.dcx_shape.specs.Sides.{entries_of}
use Rattle.dcx_call.specs.declared.attribute.Variable.{Variable}
use Rattle.dcx_call.specs.declared.attribute.Whole.{Whole}
use Rattle.dcx_call.specs.declared.attribute.Whole.TheVariants.{Not, Integer, Boolean}
use Rattle.dcx_convex.specs.Nodes.{Point}
use Rattle.dcx_tree.specs.declared.problem.Problem.{Problem}
use Rattle.dcx_right.specs.Points.{IsMarked, IsWhole, KeepsMark, KeepsMarks}
use Rattle.dcx_right.specs.Boxes.{Bounds, unbounded, IsWithin, Box, IsInBox, mark_bounds, root_bounds, root_box, is_entry, at_most, at_least}

-- ---- the sides of a box
-- a number within two bounds is within the chosen ones
chosen : (c : Bool) (b d : Bounds) (x : ℚ) → (c ≡ true → IsWithin b x) → IsWithin d x → IsWithin (if c then b else d) x
chosen true b d x h w = h refl
chosen false b d x h w = w

-- what is told of the entry is told where the test holds
at_entry : (P : ℕ → ℕ → Type 0) (k j i h : ℕ) → is_entry k j i h ≡ true → P k j → P i h
at_entry P k j i h e w =
    let (a, b) = and_parts (nat_eq i k) (nat_eq h j) e in
    subst (λ i'. P i' h) (sym (eqb-true i k a)) (subst (λ h'. P k h') (sym (eqb-true h j b)) w)

pub in_at_most : (box : Box) (x : Point) (k j : ℕ) (n : ℤ) → IsInBox box x → x k j ≤ℚ whole n → IsInBox (at_most box k j n) x
in_at_most box x k j n b w i h =
    chosen (is_entry k j i h) (record { lower = (box i h).lower; upper = Some n }) (box i h) (x i h)
    (λ e. record { lower = (b i h).lower; upper = at_entry (λ i' h'. x i' h' ≤ℚ whole n) k j i h e w })
    (b i h)

pub in_at_least : (box : Box) (x : Point) (k j : ℕ) (n : ℤ) → IsInBox box x → whole n ≤ℚ x k j → IsInBox (at_least box k j n) x
in_at_least box x k j n b w i h =
    chosen (is_entry k j i h) (record { lower = Some n; upper = (box i h).upper }) (box i h) (x i h)
    (λ e. record { lower = at_entry (λ i' h'. whole n ≤ℚ x i' h') k j i h e w; upper = (b i h).upper })
    (b i h)

-- ---- marked entries
-- an entry that keeps its mark is whole
mark_whole : (w : Whole) (x : ℚ) → (w ≡ Not → ⊥) → KeepsMark w x → IsWhole x
mark_whole Not x h k = absurd (h refl)
mark_whole Integer x h k = k
mark_whole Boolean x h k = elim k [ inl e ↦ (pos 0, e) | inr e ↦ (pos 1, e) ]

pub marked_whole : (p : Problem) (x : Point) (k j : ℕ) → KeepsMarks p x → IsMarked p k j → IsWhole (x k j)
marked_whole p x k j h m = mark_whole m.variable.whole (x k j) m.marked (h k j m.variable m.entry)

-- an integer is at most n, or at least the next one
next : (n m : ℤ) → n <ℤ m → (n +ℤ pos 1) ≤ℤ m
next n m h = omega (arith, ints)

pub whole_sides : (x : ℚ) (n : ℤ) → IsWhole x → (x ≤ℚ whole n) ⊎ (whole (n +ℤ pos 1) ≤ℚ x)
whole_sides x n (m, e) =
    elim (≤ℤ-or-<ℤ m n) [
      | inl h ↦ inl (subst (λ u. u ≤ℚ whole n) (sym e) (whole-≤ℤ m n h))
      | inr h ↦ inr (subst (λ u. whole (n +ℤ pos 1) ≤ℚ u) (sym e) (whole-≤ℤ (n +ℤ pos 1) m (next n m h)))
    ]

-- ---- the root box
free : (x : ℚ) → IsWithin unbounded x
free x = record { lower = tt; upper = tt }

mark_within : (w : Whole) (x : ℚ) → KeepsMark w x → IsWithin (mark_bounds w) x
mark_within Not x h = free x
mark_within Integer x h = free x
mark_within Boolean x h =
    let below : pos 0 ≤ℤ pos 1 = omega (arith, ints) in
    record { lower = tt; upper = elim h [ inl e ↦ subst (λ u. u ≤ℚ whole (pos 1)) (sym e) (whole-≤ℤ (pos 0) (pos 1) below) | inr e ↦ ≤ℚ-from_≡ e ] }

root_within : (p : Problem) (x : Point) (k j : ℕ) (o : Option Variable) → slice_get p.variables k ≡ o → KeepsMarks p x → IsWithin (root_bounds o j) (x k j)
root_within p x k j None e h = free (x k j)
root_within p x k j (Some v) e h =
    chosen (nat_lt j (entries_of (sides_of v.shape))) (mark_bounds v.whole) unbounded (x k j)
    (λ t. mark_within v.whole (x k j) (h k j v (record { variable = e; entry = ltb-true j (entries_of (sides_of v.shape)) t })))
    (free (x k j))

pub root_has_all : (p : Problem) (x : Point) → KeepsMarks p x → IsInBox (root_box p) x
root_has_all p x h k j = root_within p x k j (slice_get p.variables k) refl h
