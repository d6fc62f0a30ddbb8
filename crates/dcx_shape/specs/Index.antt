-- Indices as NumPy has them: one pick for each side, from the outer side to the inner one.
use Rattle.std.specs.Prelude.{◌≡◌, ◌≢◌, ◌⊎◌, ⊤, ℕ, ◌+◌, ◌*◌, ◌<◌, ◌≤◌, pos, ◌≤ℤ◌, ◌<ℤ◌, None, List, [], ◌∷◌, length, slice_index, slice_index_or}
use Rattle.dcx_shape.specs.declared.shape.Sides.{Sides}
use Rattle.dcx_shape.specs.declared.shape.Sides.TheVariants.{Scalar, Vector, Matrix}
use Rattle.dcx_shape.specs.declared.slice.Slice.{Slice}
use Rattle.dcx_shape.specs.declared.index.Pick.{Pick}
use Rattle.dcx_shape.specs.declared.index.Pick.TheVariants.{At, Range}
use Rattle.dcx_shape.specs.declared.fault.ShapeFault.{ShapeFault}
use Rattle.dcx_shape.specs.declared.fault.ShapeFault.TheVariants.{Clash, Range as OutOfRange, Empty, Memory}
use Rattle.dcx_shape.specs.Sides.{rank_of, rows_of, cols_of}
use Rattle.dcx_shape.specs.Places.{row_place}
use Rattle.dcx_shape.specs.Slice.{counted, IsSlice}

-- a slice has a step
abbrev pub HasStep : Pick → Type 0
HasStep (At i) = ⊤
HasStep (Range s) = s.step ≢ pos 0

-- the slice that takes a whole side
abbrev pub whole_slice : Slice
whole_slice = record { start = None; stop = None; step = pos 1 }

-- a pick takes these places of a side of n entries, in this order: a whole number the one that it counts to, a slice
-- its own, if there are any
abbrev pub Takes : ℕ → Pick → List ℕ → Type 0
Takes n (At i) places = (p : ℕ) × (p < n) × (counted n i ≡ pos p) × (places ≡ p ∷ [])
Takes n (Range s) places = IsSlice n s places × (places ≢ [])

-- the fault of a pick that takes no place of a side of n entries
abbrev pub IsPickFault : ℕ → Pick → ShapeFault → Type 0
IsPickFault n (At i) fault = (fault ≡ OutOfRange) × (counted n i <ℤ pos 0 ⊎ pos n ≤ℤ counted n i)
IsPickFault n (Range s) fault = (fault ≡ Empty) × IsSlice n s []

-- the pick of the rows: that of the outer side of a matrix; a scalar and a vector are one row that goes away
abbrev pub row_pick : Sides → List Pick → Pick
row_pick Scalar picks = At (pos 0)
row_pick (Vector n) picks = At (pos 0)
row_pick (Matrix m n) picks = slice_index_or picks 0 (Range whole_slice)

-- the pick of the columns: that of the inner side; a side without a pick is taken whole
abbrev pub column_pick : Sides → List Pick → Pick
column_pick Scalar picks = At (pos 0)
column_pick (Vector n) picks = slice_index_or picks 0 (Range whole_slice)
column_pick (Matrix m n) picks = slice_index_or picks 1 (Range whole_slice)

-- the sides of the result: a slice keeps its side, a whole number drops it
abbrev pub kept_sides : Pick → ℕ → Pick → ℕ → Sides
kept_sides (At i) m (At j) n = Scalar
kept_sides (At i) m (Range s) n = Vector n
kept_sides (Range s) m (At j) n = Vector m
kept_sides (Range s) m (Range t) n = Matrix m n

-- the picks are no more than the sides, and take these rows and columns
pub record TakesBoth (from : Sides) (picks : List Pick) (rows columns : List ℕ) : Type 0 where
  pub few : length picks ≤ rank_of from
  pub takes_rows : Takes (rows_of from) (row_pick from picks) rows
  pub takes_columns : Takes (cols_of from) (column_pick from picks) columns

-- the places of the entries in these rows and columns, row by row
pub record IsCrossed (from : Sides) (rows columns : List ℕ) (places : List ℕ) : Type 0 where
  pub count : length places ≡ length rows * length columns
  pub entries : (i j : ℕ) → i < length rows → j < length columns →
      slice_index places (i * length columns + j) ≡ row_place from (slice_index rows i) (slice_index columns j)

-- an index gives these sides and places: those of the rows and columns that the picks take
pub record IsIndex (from : Sides) (picks : List Pick) (to : Sides) (places : List ℕ) : Type 0 where
  pub rows : List ℕ
  pub columns : List ℕ
  pub takes : TakesBoth from picks rows columns
  pub sides : to ≡ kept_sides (row_pick from picks) (length rows) (column_pick from picks) (length columns)
  pub crossed : IsCrossed from rows columns places

-- the picks are no more than the sides, and this is the fault of the first that has one: of the rows' pick, or of the
-- columns' where the rows' takes something
pub record IsFirstFault (from : Sides) (picks : List Pick) (fault : ShapeFault) : Type 0 where
  pub few : length picks ≤ rank_of from
  pub first : IsPickFault (rows_of from) (row_pick from picks) fault
      ⊎ (((rows : List ℕ) × Takes (rows_of from) (row_pick from picks) rows) × IsPickFault (cols_of from) (column_pick from picks) fault)

-- the fault of an index: too many picks, else that of the first pick that has one
abbrev pub IsIndexFault : Sides → List Pick → ShapeFault → Type 0
IsIndexFault from picks Clash = rank_of from < length picks
IsIndexFault from picks OutOfRange = IsFirstFault from picks OutOfRange
IsIndexFault from picks Empty = IsFirstFault from picks Empty
IsIndexFault from picks Memory = ⊥
