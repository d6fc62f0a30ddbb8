-- Lists that are made item by item: what is made so far, and then the rest, is all.
use Rattle.std.proofs.Common.{◌≡◌, ◌==◌, ℕ, zero, suc, ◌+◌, ◌-◌, ◌<◌, arith, List, [], ◌∷◌, ◌++◌, length, get_or, take, drop, set}
use Rattle.std.proofs.Common.{Option, Some, None, Bool, true, false, refl, sym, ap, ◌∙◌, append_assoc, add-one}
use Rattle.std.proofs.lemmas.Bool.Decides.{nat_tests}
use Rattle.std.proofs.lemmas.List.{append-nil}
use Rattle.dcx_call.specs.declared.attribute.Variable.{Variable}
use Rattle.dcx_call.specs.declared.attribute.Whole.{Whole}
use Rattle.dcx_linear.proofs.Formed.{drop_at}
use Rattle.dcx_unknowns.specs.Unknowns.{first_unknown}
use Rattle.dcx_right.specs.Boxes.{Box, mark_bounds}
use Rattle.dcx_branch.specs.declared.place.Place.{Place}
use Rattle.dcx_branch.specs.declared.bound.BoundAt.{BoundAt}
use Rattle.dcx_branch.specs.declared.side.Side.{Side}
use Rattle.dcx_branch.specs.Places.{places_of, place_if, variable_places, places_from}
use Rattle.dcx_branch.specs.Rows.{bounds_of, bound_row, bound_rows}
use Rattle.dcx_branch.specs.Sides.{sided, box_bounds, open_sides, box_of, IsUpperOf}
use Rattle.dcx_branch.proofs.Boxes.{open_above, open_turned}

-- one part more
pub joins : {A : Type 0} (xs ys part rest all : List A) → ys ≡ xs ++ part → xs ++ (part ++ rest) ≡ all → ys ++ rest ≡ all
joins xs ys part rest all e h = ap (λ l. l ++ rest) e ∙ append_assoc xs part rest ∙ h

-- nothing is left
pub ends : {A : Type 0} (xs rest all : List A) → rest ≡ [] → xs ++ rest ≡ all → xs ≡ all
ends xs rest all e h = sym (append-nil xs) ∙ ap (λ l. xs ++ l) (sym e) ∙ h

-- ---- bounds of a box
pub bounds_more : (ps : List Place) (ds : List Side) (i : ℕ) (q : Place) → i < length ps → q ≡ get_or ps i q →
    box_bounds (drop i ps) ds ≡ bounds_of q (sided (mark_bounds q.whole) q.variable q.entry ds) ++ box_bounds (drop (i + 1) ps) ds
bounds_more ps ds i q l is = ap (λ l. box_bounds l ds) (drop_at ps i q l is)

-- ---- entries
place_first : (k : ℕ) (mark : Whole) (j : ℕ) (u : Option ℕ) (us : List (Option ℕ)) → places_of k mark j (u ∷ us) ≡ place_if k mark j u ++ places_of k mark (suc j) us
place_first k mark j None us = refl
place_first k mark j (Some n) us = refl

pub places_more : (k : ℕ) (mark : Whole) (us : List (Option ℕ)) (j : ℕ) (u : Option ℕ) → j < length us → u ≡ get_or us j u →
    places_of k mark j (drop j us) ≡ place_if k mark j u ++ places_of k mark (j + 1) (drop (j + 1) us)
places_more k mark us j u l is =
    ap (places_of k mark j) (drop_at us j u l is) ∙ place_first k mark j u (drop (j + 1) us) ∙ ap (λ n. place_if k mark j u ++ places_of k mark n (drop (j + 1) us)) (sym (add-one j))

pub variables_more : (vs : List Variable) (n : ℕ) (v : Variable) (first : ℕ) → n < length vs → v ≡ get_or vs n v → first ≡ first_unknown vs n →
    places_from vs n (drop n vs) ≡ variable_places n first v ++ places_from vs (n + 1) (drop (n + 1) vs)
variables_more vs n v first l is e =
    ap (places_from vs n) (drop_at vs n v l is)
    ∙ ap (λ f. variable_places n f v ++ places_from vs (suc n) (drop (n + 1) vs)) (sym e)
    ∙ ap (λ m. variable_places n first v ++ places_from vs m (drop (n + 1) vs)) (sym (add-one n))

-- ---- rows of bounds
pub rows_more : (bs : List BoundAt) (i : ℕ) (b : BoundAt) → i < length bs → b ≡ get_or bs i b → bound_rows (drop i bs) ≡ bound_row b ∷ bound_rows (drop (i + 1) bs)
rows_more bs i b l is = ap bound_rows (drop_at bs i b l is)

-- ---- the last side
-- where some are left the last one has this place
pub some_left : (len items last : ℕ) (b : Bool) → len ≡ items → b ≡ (len == 0) → b ≡ false → last ≡ len → items ≡ (last - 1) + 1
some_left len items last b e f g h = grind (arith, nat_tests)

pub last_there : (xs : List Side) (n : ℕ) (x : Side) → length xs ≡ n + 1 → x ≡ get_or xs n x → xs ≡ take n xs ++ x ∷ []
last_there [] n x e is = absurd (omega (arith, e))
last_there (y ∷ []) zero x e is = ap (λ z. z ∷ []) (sym is)
last_there (y ∷ z ∷ xs) zero x e is = absurd (omega (arith, e))
last_there (y ∷ xs) (suc n) x e is = ap (λ l. y ∷ l) (last_there xs n x (omega (arith, e)) is)

pub last_set : (xs : List Side) (n : ℕ) (x : Side) → length xs ≡ n + 1 → set xs n x ≡ take n xs ++ x ∷ []
last_set [] n x e = absurd (omega (arith, e))
last_set (y ∷ []) zero x e = refl
last_set (y ∷ z ∷ xs) zero x e = absurd (omega (arith, e))
last_set (y ∷ xs) (suc n) x e = ap (λ l. y ∷ l) (last_set xs n x (omega (arith, e)))

pub popped_open : (xs ys : List Side) (n : ℕ) (d : Side) → length xs ≡ n + 1 → d ≡ get_or xs n d → d.above ≡ true → ys ≡ take n xs → (box : Box) → open_sides box xs ≡ open_sides box ys
popped_open xs ys n d e is up rest box =
    ap (open_sides box) (last_there xs n d e is) ∙ open_above box (take n xs) d up ∙ ap (open_sides box) (sym rest)

pub turned_open : (xs : List Side) (n : ℕ) (d c : Side) → length xs ≡ n + 1 → d ≡ get_or xs n d → d.above ≡ false → IsUpperOf d c → (box : Box)
    → open_sides box xs ≡ box_of box (set xs n c) ∷ open_sides box (set xs n c)
turned_open xs n d c e is low up box =
    ap (open_sides box) (last_there xs n d e is)
    ∙ open_turned box (take n xs) d c low up.above up.place up.limit
    ∙ ap (λ ds. box_of box ds ∷ open_sides box ds) (sym (last_set xs n c e))
