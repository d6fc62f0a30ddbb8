-- The boxes that a run comes to: what their bounds are at entries that may be bounded, and that boolean entries are at most 1.
use Rattle.std.proofs.Common.{◌≡◌, ℕ, Bool, true, false, if◌then◌else◌, nat_eq, List, Option, Some, refl, sym, ap, ◌∙◌, subst, arith}
use Rattle.std.specs.Prelude.{ℤ, pos, ◌≤ℤ◌, ◌<ℤ◌}
use Rattle.std.proofs.lemmas.Int.{ints}
use Rattle.std.proofs.lemmas.Bool.{lt-ltb, eqb-true, and_parts}
use Rattle.dcx_math.specs.Rational.{ℚ, whole, ◌≤ℚ◌, ◌<ℚ◌}
use Rattle.dcx_math.proofs.Orders.{≤ℚ_trans, <ℚ-≤ℚ_trans, whole-≤ℤ}
use Rattle.dcx_math.proofs.Products.{<ℚ-whole}
use Rattle.dcx_shape.specs.Sides.{entries_of}
use Rattle.dcx_call.specs.declared.attribute.Variable.{Variable}
use Rattle.dcx_tree.specs.declared.problem.Problem.{Problem}
use Rattle.dcx_unknowns.specs.Unknowns.{sides_in}
use Rattle.dcx_right.specs.Points.{IsMarked}
use Rattle.dcx_right.specs.Boxes.{Bounds, unbounded, IsAtMost, Box, mark_bounds, root_bounds, root_box, is_entry, at_most, at_least}
use Rattle.dcx_branch.specs.declared.place.Place.{Place}
use Rattle.dcx_branch.specs.declared.side.Side.{Side}
use Rattle.dcx_branch.specs.Places.{places}
use Rattle.dcx_branch.specs.Sides.{box_of, sided, box_bounds}
use Rattle.dcx_branch.specs.Run.{bounds_in}
use Rattle.dcx_branch.proofs.Known.{IsIn, IsNested}
use Rattle.dcx_branch.proofs.Boxes.{box_sided, bounds_same}
use Rattle.dcx_branch.proofs.Members.{IsPlaceOf, each_place}

-- the root box at an entry that may be bounded
pub root_at : (p : Problem) (q : Place) → IsPlaceOf p.variables q → root_box p q.variable q.entry ≡ mark_bounds q.whole
root_at p q is =
    ap (λ (o : Option Variable). root_bounds o q.entry) is.there
    ∙ ap (λ (b : Bool). if b then mark_bounds is.variable.whole else unbounded) (lt-ltb q.entry (entries_of (sides_in is.variable)) is.entry)
    ∙ ap mark_bounds (sym is.whole)

-- such an entry is marked
pub place_marked : (p : Problem) (q : Place) → IsIn q (places p.variables) → IsMarked p q.variable q.entry
place_marked p q (i, at) =
    let is = each_place p.variables i q at in
    record { variable = is.variable; entry = record { variable = is.there; entry = is.entry }; marked = is.marked }

-- the bounds of the box of sides
pub sides_bounds : (p : Problem) (ds : List Side) → box_bounds (places p.variables) ds ≡ bounds_in p (box_of (root_box p) ds)
sides_bounds p ds =
    sym (bounds_same (places p.variables) (box_of (root_box p) ds) ds
    (λ i q at.
    box_sided (root_box p) ds q.variable q.entry
    ∙ ap (λ (b : Bounds). sided b q.variable q.entry ds) (root_at p q (each_place p.variables i q at))))

-- ---- boolean entries are at most 1
pub root_nested : (p : Problem) → IsNested p (root_box p)
root_nested p q (i, at) e =
    let there = root_at p q (each_place p.variables i q at) in
    let one : pos 1 ≤ℤ pos 1 = omega (arith, ints) in
    (pos 1, ap (λ (b : Bounds). b.upper) (there ∙ ap mark_bounds e), one)

abbrev IsAtMostOne : Bounds → Type 0
IsAtMostOne b = (n : ℤ) × (b.upper ≡ Some n) × (n ≤ℤ pos 1)

chosen : (c : Bool) (b d : Bounds) → (c ≡ true → IsAtMostOne b) → IsAtMostOne d → IsAtMostOne (if c then b else d)
chosen true b d h k = h refl
chosen false b d h k = k

at_bound : (o : Option ℤ) (m : ℤ) (y : ℚ) → o ≡ Some m → IsAtMost o y → y ≤ℚ whole m
at_bound o m y e h = subst (λ (b : Option ℤ). IsAtMost b y) e h

less_than_one : (m n : ℤ) (y : ℚ) → whole n <ℚ y → y ≤ℚ whole m → m ≤ℤ pos 1 → n ≤ℤ pos 1
less_than_one m n y above below low =
    let less : n <ℤ pos 1 = <ℚ-whole n (pos 1) (<ℚ-≤ℚ_trans above (≤ℚ_trans below (whole-≤ℤ m (pos 1) low))) in
    omega (arith, ints)

-- an integer below a number that keeps the bounds is at most 1 where the entry is boolean
pub at_most_nested : (p : Problem) (box : Box) (k j : ℕ) (n : ℤ) (y : ℚ) → IsAtMost (box k j).upper y → whole n <ℚ y → IsNested p box → IsNested p (at_most box k j n)
at_most_nested p box k j n y kept above h q at e =
    let (m, up, low) = h q at e in
    chosen (is_entry k j q.variable q.entry) (record { lower = (box q.variable q.entry).lower; upper = Some n }) (box q.variable q.entry)
    (λ t.
    let (a, b) = and_parts (nat_eq q.variable k) (nat_eq q.entry j) t in
    let there : (box k j).upper ≡ Some m = subst (λ i. (box i j).upper ≡ Some m) (eqb-true q.variable k a) (subst (λ i. (box q.variable i).upper ≡ Some m) (eqb-true q.entry j b) up) in
    (n, refl, less_than_one m n y above (at_bound (box k j).upper m y there kept) low))
    (h q at e)

pub at_least_nested : (p : Problem) (box : Box) (k j : ℕ) (n : ℤ) → IsNested p box → IsNested p (at_least box k j n)
at_least_nested p box k j n h q at e =
    chosen (is_entry k j q.variable q.entry) (record { lower = Some n; upper = (box q.variable q.entry).upper }) (box q.variable q.entry) (λ t. h q at e) (h q at e)
