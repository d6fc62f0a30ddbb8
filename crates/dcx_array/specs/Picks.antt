-- The places that indices pick, of a side and of an array.
use Rattle.std.specs.Prelude.{◌≡◌, ℕ, ◌<◌, nat_lt, nat_le, ℤ, pos, negsuc, int_lt, unsigned_abs, Bool, if◌then◌else◌, List, [], ◌∷◌, map, length, slice_index, Option, Some, None, Result, Ok, Err}
use Rattle.std.specs.Option.{ok_or}
use Rattle.std.specs.List.{All, take_while, flat_map}
use Rattle.std.proofs.lemmas.List.Elements.{All-cons, All-nil, All-head, All-tail}
use native.Mathlib.Decide.{dec_lt, ℕ_discrete}
use Rattle.dcx_shape.specs.declared.shape.Sides.{Sides}
use Rattle.dcx_shape.specs.declared.shape.Shape.{Shape}
use Rattle.dcx_shape.specs.declared.slice.Slice.{Slice}
use Rattle.dcx_shape.specs.declared.index.Pick.{Pick}
use Rattle.dcx_shape.specs.declared.index.Pick.TheVariants.{At, Range as Along}
use Rattle.dcx_shape.specs.Shape.{sides_of}
use Rattle.dcx_shape.specs.Sides.{rank_of, rows_of, cols_of, entries_of}
use Rattle.dcx_shape.specs.Places.{row_place, places_below}
use Rattle.dcx_shape.specs.Slice.{counted, stop_for, slice_place}
use Rattle.dcx_shape.specs.Index.{row_pick, column_pick, kept_sides}
use Rattle.dcx_atom.specs.declared.array.Array.{Array}
use Rattle.dcx_affine.specs.declared.places.Index.{Index}
use Rattle.dcx_array.specs.declared.fault.ArrayFault.{ArrayFault}
use Rattle.dcx_array.specs.declared.fault.ArrayFault.TheVariants.{Clash, Range, Empty}
use Rattle.dcx_array.specs.Answers.{◌>>=◌, ◌>>◌, unless}
use Rattle.dcx_array.specs.Shapes.{allowed_shape}
use Rattle.dcx_array.specs.Arrays.{entry, filled}

-- ---- one side
-- z comes before the stop on the way of the step
abbrev pub is_before : ℤ → ℤ → ℤ → Bool
is_before (pos step) z stop = int_lt z stop
is_before (negsuc step) z stop = int_lt stop z

-- the places of a slice on a side of n entries: start, start + step, .. as long as they come before the stop
abbrev pub slice_places : ℕ → Slice → List ℕ
slice_places n s = map unsigned_abs (take_while (λ z. is_before s.step z (stop_for n s.step s.stop)) (map (slice_place n s) (places_below n)))

-- some places, and else there would be no entry
abbrev pub some_places : List ℕ → Result (List ℕ) ArrayFault
some_places [] = Err Empty
some_places (p ∷ ps) = Ok (p ∷ ps)

-- the place that a whole number counts to, where a side of n entries has it
abbrev pub counted_place : ℕ → ℤ → Result (List ℕ) ArrayFault
counted_place n (pos i) = if nat_lt i n then Ok (i ∷ []) else Err Range
counted_place n (negsuc i) = Err Range

-- the places that a pick takes of a side of n entries
abbrev pub picked : ℕ → Pick → Result (List ℕ) ArrayFault
picked n (At i) = counted_place n (counted n i)
picked n (Along s) = some_places (slice_places n s)

-- ---- both sides
-- the sides of what is picked, and where its entries stand
pub record Picked : Type 0 where
  pub sides : Sides
  pub places : List ℕ

-- the entries in these rows and columns, row by row
abbrev pub crossed : Sides → List Pick → List ℕ → List ℕ → Picked
crossed from picks rows columns = record {
  sides = kept_sides (row_pick from picks) (length rows) (column_pick from picks) (length columns);
  places = flat_map (λ i. map (row_place from i) columns) rows;
}

-- what picks take of an array with these sides: too many of them come before the first that takes nothing
abbrev pub taken : Sides → List Pick → Result Picked ArrayFault
taken from picks = do
  unless Clash (nat_le (length picks) (rank_of from))
  rows ← picked (rows_of from) (row_pick from picks)
  columns ← picked (cols_of from) (column_pick from picks)
  Ok (crossed from picks rows columns)

-- ---- the call of an index
-- whether each place is below n
unfoldable pub dec_below : (n : ℕ) (ps : List ℕ) → Dec (All (λ p. p < n) ps)
dec_below n [] = yes (All-nil (λ p. p < n))
dec_below n (p ∷ ps) = by (dec_lt p n) (dec_below n ps)
  where
    by : Dec (p < n) → Dec (All (λ q. q < n) ps) → Dec (All (λ q. q < n) (p ∷ ps))
    by (yes h) (yes hs) = yes (All-cons (λ q. q < n) p ps h hs)
    by (yes h) (no f) = no (λ all. f (All-tail (λ q. q < n) p ps all))
    by (no f) hs = no (λ all. f (All-head (λ q. q < n) p ps all))

-- the entries at these places, as a call; there is one where each place is there, and there are as many as entries
unfoldable pub index_with : Shape → Shape → List ℕ → Option Index
index_with from to places = by (ℕ_discrete (length places) (entries_of (sides_of to))) (dec_below (entries_of (sides_of from)) places)
  where
    by : Dec (length places ≡ entries_of (sides_of to)) → Dec (All (λ p. p < entries_of (sides_of from)) places) → Option Index
    by (yes count) (yes within) = Some (record { from = from; to = to; places = places; count = count; within = within })
    by (yes count) (no f) = None
    by (no f) within = None

-- the call of the entries that picks take; where they take some, there is one
abbrev pub indexed : Shape → List Pick → Result Index ArrayFault
indexed from picks = do
  p ← taken (sides_of from) picks
  to ← allowed_shape p.sides
  ok_or (index_with from to p.places) Clash

-- ---- plain arrays
-- the entries that picks take
abbrev pub picked_array : Array → List Pick → Result Array ArrayFault
picked_array a picks = do
  p ← taken (sides_of a.shape) picks
  shape ← allowed_shape p.sides
  Ok (filled shape (λ k. entry a (slice_index p.places k)))
