-- Picks whose numbers are brought into 64 bits take the same of an array.
use Rattle.std.specs.Prelude.{◌≡◌, ◌≢◌, ℕ, zero, suc, ◌*◌, ◌<◌, ◌≤◌, nat_le, ℤ, pos, negsuc, ◌<ℤ◌, ◌≤ℤ◌, ◌⊎◌, List, [], ◌∷◌, map, length, Result, Ok}
use Rattle.std.specs.List.{All}
use Rattle.std.proofs.Common.{refl, sym, ap, ◌∙◌, arith, inl, inr, mul-suc, mul_comm}
use Rattle.std.proofs.lemmas.Int.{ints}
use Rattle.std.proofs.lemmas.List.{length-map}
use Rattle.std.proofs.lemmas.List.Elements.{All-head, All-tail, All-cons, All-nil}
use Rattle.dcx_shape.specs.declared.shape.Sides.{Sides}
use Rattle.dcx_shape.specs.declared.shape.Sides.TheVariants.{Scalar, Vector, Matrix}
use Rattle.dcx_shape.specs.declared.shape.Shape.{Shape}
use Rattle.dcx_shape.specs.declared.index.Pick.{Pick}
use Rattle.dcx_shape.specs.declared.index.Pick.TheVariants.{At, Range as Along}
use Rattle.dcx_shape.specs.declared.fault.ShapeFault.{ShapeFault}
use Rattle.dcx_shape.specs.Shape.{sides_of}
use Rattle.dcx_shape.specs.Sides.{rank_of, rows_of, cols_of, HasFewEntries}
use Rattle.dcx_shape.specs.Slice.{counted}
use Rattle.dcx_shape.specs.Index.{HasStep, Takes, IsPickFault, row_pick, column_pick, kept_sides}
use Rattle.dcx_shape.proofs.Indices.{row_pick_steps, column_pick_steps}
use Rattle.dcx_atom.specs.declared.array.Array.{Array}
use Rattle.dcx_array.specs.declared.fault.ArrayFault.{ArrayFault}
use Rattle.dcx_array.specs.declared.fault.ArrayFault.TheVariants.{Clash}
use Rattle.dcx_array.specs.Answers.{◌>>=◌, ◌>>◌, unless}
use Rattle.dcx_array.specs.Picks.{Picked, picked, crossed, taken, indexed, picked_array}
use Rattle.dcx_array.proofs.PickedPlaces.{picked_is, picked_fault, decided}
use Rattle.dcx_operators.specs.View.{nearest, nearest_pick}
use Rattle.dcx_operators.proofs.NearestSlices.{nearest_slice-is}

-- ---- one pick
step_kept : (z : ℤ) → z ≢ pos 0 → nearest z ≢ pos 0
step_kept (pos k) ne e = let none : k ≡ 0 = omega (arith, ints, e) in absurd (ne (ap pos none))
step_kept (negsuc k) ne e = cc

step_back : (z : ℤ) → nearest z ≢ pos 0 → z ≢ pos 0
step_back z ne e = absurd (ne (rw e refl))

has_step_kept : (p : Pick) → HasStep p → HasStep (nearest_pick p)
has_step_kept (At z) h = tt
has_step_kept (Along s) h = step_kept s.step h

has_step_back : (p : Pick) → HasStep (nearest_pick p) → HasStep p
has_step_back (At z) h = tt
has_step_back (Along s) h = step_back s.step h

-- a number that counts to a place is in 64 bits
place_kept : (n q : ℕ) (z : ℤ) → n ≤ 20000 → q < n → counted n z ≡ pos q → counted n (nearest z) ≡ pos q
place_kept n q (pos k) few below e = omega (arith, ints)
place_kept n q (negsuc k) few below e = omega (arith, ints)

-- one that counts to none counts to none in 64 bits
outside_kept : (n : ℕ) (z : ℤ) → n ≤ 20000 → (counted n z <ℤ pos 0) ⊎ (pos n ≤ℤ counted n z) → (counted n (nearest z) <ℤ pos 0) ⊎ (pos n ≤ℤ counted n (nearest z))
outside_kept n (pos k) few (inl low) = absurd (omega (arith, ints))
outside_kept n (pos k) few (inr high) = inr (omega (arith, ints))
outside_kept n (negsuc k) few (inl low) = inl (omega (arith, ints))
outside_kept n (negsuc k) few (inr high) = absurd (omega (arith, ints))

takes_kept : (n : ℕ) (p : Pick) (places : List ℕ) → n ≤ 20000 → 0 < n → Takes n p places → Takes n (nearest_pick p) places
takes_kept n (At z) places few some (q, below, is, e) = (q, below, place_kept n q z few below is, e)
takes_kept n (Along s) places few some (is, there) = (nearest_slice-is n s places few some is, there)

fault_kept : (n : ℕ) (p : Pick) (fault : ShapeFault) → n ≤ 20000 → 0 < n → IsPickFault n p fault → IsPickFault n (nearest_pick p) fault
fault_kept n (At z) fault few some (e, out) = (e, outside_kept n z few out)
fault_kept n (Along s) fault few some (e, is) = (e, nearest_slice-is n s [] few some is)

picked_nearest : (n : ℕ) (p : Pick) → n ≤ 20000 → 0 < n → HasStep p → picked n (nearest_pick p) ≡ picked n p
picked_nearest n p few some h = elim (decided n p h) [
  | inl t ↦ picked_is n (nearest_pick p) t.0 (has_step_kept p h) (takes_kept n p t.0 few some t.1) ∙ sym (picked_is n p t.0 h t.1)
  | inr f ↦ picked_fault n (nearest_pick p) f.0 (has_step_kept p h) (fault_kept n p f.0 few some f.1) ∙ sym (picked_fault n p f.0 h f.1)
]

-- ---- the picks of both sides
row_pick_nearest : (from : Sides) (ps : List Pick) → row_pick from (map nearest_pick ps) ≡ nearest_pick (row_pick from ps)
row_pick_nearest Scalar ps = refl
row_pick_nearest (Vector n) ps = refl
row_pick_nearest (Matrix m n) [] = refl
row_pick_nearest (Matrix m n) (p ∷ ps) = refl

column_pick_nearest : (from : Sides) (ps : List Pick) → column_pick from (map nearest_pick ps) ≡ nearest_pick (column_pick from ps)
column_pick_nearest Scalar ps = refl
column_pick_nearest (Vector n) [] = refl
column_pick_nearest (Vector n) (p ∷ ps) = refl
column_pick_nearest (Matrix m n) [] = refl
column_pick_nearest (Matrix m n) (p ∷ []) = refl
column_pick_nearest (Matrix m n) (p ∷ q ∷ ps) = refl

kept_sides_nearest : (p q : Pick) (m n : ℕ) → kept_sides (nearest_pick p) m (nearest_pick q) n ≡ kept_sides p m q n
kept_sides_nearest (At i) (At j) m n = refl
kept_sides_nearest (At i) (Along t) m n = refl
kept_sides_nearest (Along s) (At j) m n = refl
kept_sides_nearest (Along s) (Along t) m n = refl

-- a side of an array is neither empty nor too long
small_side : (m n : ℕ) → 0 < m * n → m * n ≤ 20000 → (0 < m) × (m ≤ 20000)
small_side zero n some most = absurd (omega arith)
small_side (suc m) zero some most = absurd (omega arith)
small_side (suc m) (suc n) some most = (omega arith, omega (arith, mul-suc (suc m) n))

rows_few : (s : Sides) → HasFewEntries s → (0 < rows_of s) × (rows_of s ≤ 20000)
rows_few Scalar h = (omega arith, omega arith)
rows_few (Vector n) h = (omega arith, omega arith)
rows_few (Matrix m n) h = small_side m n h.some h.most

columns_few : (s : Sides) → HasFewEntries s → (0 < cols_of s) × (cols_of s ≤ 20000)
columns_few Scalar h = (omega arith, omega arith)
columns_few (Vector n) h = (omega (arith, h.some), omega (arith, h.most))
columns_few (Matrix m n) h = small_side n m (omega (arith, h.some, mul_comm m n)) (omega (arith, h.most, mul_comm m n))

-- what so many picks take, of which these two are the rows' and the columns'
abbrev taken_by : Sides → ℕ → Pick → Pick → Result Picked ArrayFault
taken_by from count p q = do
  unless Clash (nat_le count (rank_of from))
  rows ← picked (rows_of from) p
  columns ← picked (cols_of from) q
  Ok (record { sides = kept_sides p (length rows) q (length columns); places = (crossed from [] rows columns).places })

taken_by_nearest : (from : Sides) (count : ℕ) (p q : Pick) → HasFewEntries from → HasStep p → HasStep q → taken_by from count (nearest_pick p) (nearest_pick q) ≡ taken_by from count p q
taken_by_nearest from count p q few h k =
    let rows = rows_few from few in
    let columns = columns_few from few in
    ap (λ r. (unless Clash (nat_le count (rank_of from)) >> (r >>= λ xs. picked (cols_of from) (nearest_pick q)
    >>= λ ys. Ok (record { sides = kept_sides (nearest_pick p) (length xs) (nearest_pick q) (length ys); places = (crossed from [] xs ys).places }))))
    (picked_nearest (rows_of from) p rows.1 rows.0 h)
    ∙ ap (λ c. (unless Clash (nat_le count (rank_of from)) >> (picked (rows_of from) p >>= λ xs. c
    >>= λ ys. Ok (record { sides = kept_sides (nearest_pick p) (length xs) (nearest_pick q) (length ys); places = (crossed from [] xs ys).places }))))
    (picked_nearest (cols_of from) q columns.1 columns.0 k)
    ∙ ap (λ (kept : ℕ → ℕ → Sides). (unless Clash (nat_le count (rank_of from)) >> (picked (rows_of from) p >>= λ xs. picked (cols_of from) q
    >>= λ ys. Ok (record { sides = kept (length xs) (length ys); places = (crossed from [] xs ys).places })))) (λ i m n. kept_sides_nearest p q m n i)

taken_nearest : (from : Sides) (ps : List Pick) → HasFewEntries from → All HasStep ps → taken from (map nearest_pick ps) ≡ taken from ps
taken_nearest from ps few h =
    ap (λ c. taken_by from c (row_pick from (map nearest_pick ps)) (column_pick from (map nearest_pick ps))) (length-map ps nearest_pick)
    ∙ ap (λ p. taken_by from (length ps) p (column_pick from (map nearest_pick ps))) (row_pick_nearest from ps)
    ∙ ap (λ q. taken_by from (length ps) (nearest_pick (row_pick from ps)) q) (column_pick_nearest from ps)
    ∙ taken_by_nearest from (length ps) (row_pick from ps) (column_pick from ps) few (row_pick_steps from ps h) (column_pick_steps from ps h)

-- ---- arrays
pub indexed_nearest : (from : Shape) (ps : List Pick) → All HasStep ps → indexed from (map nearest_pick ps) ≡ indexed from ps
indexed_nearest from ps h = rw (taken_nearest (sides_of from) ps from.few h) refl

pub picked_array-nearest : (a : Array) (ps : List Pick) → All HasStep ps → picked_array a (map nearest_pick ps) ≡ picked_array a ps
picked_array-nearest a ps h = rw (taken_nearest (sides_of a.shape) ps a.shape.few h) refl

-- ---- steps
pub steps_back : (ps : List Pick) → All HasStep (map nearest_pick ps) → All HasStep ps
steps_back [] h = All-nil HasStep
steps_back (p ∷ ps) h = All-cons HasStep p ps (has_step_back p (All-head HasStep (nearest_pick p) (map nearest_pick ps) h)) (steps_back ps (All-tail HasStep (nearest_pick p) (map nearest_pick ps) h))
