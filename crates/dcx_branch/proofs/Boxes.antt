-- The box of sides and the boxes that are open beside it, one side more or less.
use Rattle.std.proofs.Common.{◌≡◌, ℕ, suc, Bool, true, false, if◌then◌else◌, List, [], ◌∷◌, ◌++◌, Some, slice_get, refl, sym, ap, ap₂, ◌∙◌, append_assoc, ℤ, ◌+ℤ◌, pos}
use Rattle.std.proofs.lemmas.List.{append-nil}
use Rattle.dcx_right.specs.Boxes.{Bounds, Box, mark_bounds, is_entry, at_most, at_least}
use Rattle.dcx_branch.specs.declared.place.Place.{Place}
use Rattle.dcx_branch.specs.declared.side.Side.{Side}
use Rattle.dcx_branch.specs.Rows.{bounds_of, all_bounds}
use Rattle.dcx_branch.specs.Sides.{side_of, box_of, other_side, open_sides, side_bounds, sided, box_bounds}

-- one side more
pub box_snoc : (box : Box) (ds : List Side) (d : Side) → box_of box (ds ++ d ∷ []) ≡ side_of (box_of box ds) d
box_snoc box [] d = refl
box_snoc box (c ∷ ds) d = box_snoc (side_of box c) ds d

pub open_snoc : (box : Box) (ds : List Side) (d : Side) → open_sides box (ds ++ d ∷ []) ≡ other_side (box_of box ds) d ++ open_sides box ds
open_snoc box [] d = sym (append-nil (other_side box d))
open_snoc box (c ∷ ds) d =
    ap (λ xs. xs ++ other_side box c) (open_snoc (side_of box c) ds d)
    ∙ append_assoc (other_side (box_of (side_of box c) ds) d) (open_sides (side_of box c) ds) (other_side box c)

-- an upper side has nothing open beside it
other_none : (box : Box) (d : Side) → d.above ≡ true → other_side box d ≡ []
other_none box d e = ap (λ (b : Bool). if b then [] else at_least box d.place.variable d.place.entry (d.limit +ℤ pos 1) ∷ []) e

pub open_above : (box : Box) (ds : List Side) (d : Side) → d.above ≡ true → open_sides box (ds ++ d ∷ []) ≡ open_sides box ds
open_above box ds d e = open_snoc box ds d ∙ ap (λ xs. xs ++ open_sides box ds) (other_none (box_of box ds) d e)

-- the upper side in place of the lower one is the box that was open
pub open_turned : (box : Box) (ds : List Side) (d c : Side) → d.above ≡ false → c.above ≡ true → c.place ≡ d.place → c.limit ≡ d.limit →
    open_sides box (ds ++ d ∷ []) ≡ box_of box (ds ++ c ∷ []) ∷ open_sides box (ds ++ c ∷ [])
open_turned box ds d c e f same_place same_limit =
    let b = box_of box ds in
    let upper = λ (q : Place) (n : ℤ). at_least b q.variable q.entry (n +ℤ pos 1) in
    let left : other_side b d ≡ upper d.place d.limit ∷ [] = ap (λ (t : Bool). if t then [] else upper d.place d.limit ∷ []) e in
    let right : side_of b c ≡ upper c.place c.limit = ap (λ (t : Bool). if t then upper c.place c.limit else at_most b c.place.variable c.place.entry c.limit) f in
    open_snoc box ds d
    ∙ ap (λ xs. xs ++ open_sides box ds) (left ∙ ap₂ (λ q n. upper q n ∷ []) (sym same_place) (sym same_limit))
    ∙ ap₂ ◌∷◌ (sym right ∙ sym (box_snoc box ds c)) (sym (open_above box ds c f))

-- the lower side of a split is taken next
pub open_split : (box : Box) (ds : List Side) (d : Side) → d.above ≡ false →
    box_of box (ds ++ d ∷ []) ∷ open_sides box (ds ++ d ∷ []) ≡
    at_most (box_of box ds) d.place.variable d.place.entry d.limit ∷ at_least (box_of box ds) d.place.variable d.place.entry (d.limit +ℤ pos 1) ∷ open_sides box ds
open_split box ds d e =
    let b = box_of box ds in
    let upper = at_least b d.place.variable d.place.entry (d.limit +ℤ pos 1) in
    let lower = at_most b d.place.variable d.place.entry d.limit in
    ap₂ ◌∷◌ (box_snoc box ds d ∙ ap (λ (t : Bool). if t then upper else lower) e)
    (open_snoc box ds d ∙ ap (λ (t : Bool). let other : List Box = if t then [] else upper ∷ [] in other ++ open_sides box ds) e)

-- ---- one entry
pub sided_snoc : (b : Bounds) (k j : ℕ) (ds : List Side) (d : Side) → sided b k j (ds ++ d ∷ [])
    ≡ (if is_entry d.place.variable d.place.entry k j then side_bounds d (sided b k j ds) else sided b k j ds)
sided_snoc b k j [] d = refl
sided_snoc b k j (c ∷ ds) d = sided_snoc (if is_entry c.place.variable c.place.entry k j then side_bounds c b else b) k j ds d

one_side : (above : Bool) (box : Box) (v e k j : ℕ) (m n : ℤ) →
    (if above then at_least box v e m else at_most box v e n) k j ≡
    (if is_entry v e k j then (if above then (let c : Bounds = record { lower = Some m; upper = (box k j).upper } in c) else (let c : Bounds = record { lower = (box k j).lower; upper = Some n } in
    c)) else box k j)
one_side true box v e k j m n = refl
one_side false box v e k j m n = refl

pub box_sided : (box : Box) (ds : List Side) (k j : ℕ) → box_of box ds k j ≡ sided (box k j) k j ds
box_sided box [] k j = refl
box_sided box (d ∷ ds) k j =
    box_sided (side_of box d) ds k j ∙ ap (λ (b : Bounds). sided b k j ds) (one_side d.above box d.place.variable d.place.entry k j (d.limit +ℤ pos 1) d.limit)

-- the bounds of a box are those of the sides, where they are so entry by entry
pub bounds_same : (ps : List Place) (box : Box) (ds : List Side) → ((i : ℕ) (q : Place) → slice_get ps i ≡ Some q → box q.variable q.entry ≡ sided (mark_bounds q.whole) q.variable q.entry ds) →
    all_bounds ps box ≡ box_bounds ps ds
bounds_same [] box ds h = refl
bounds_same (q ∷ ps) box ds h = ap₂ (λ (b : Bounds) rest. bounds_of q b ++ rest) (h 0 q refl) (bounds_same ps box ds (λ i. h (suc i)))
