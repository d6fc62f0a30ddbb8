-- Reshaping: the same entries in the same order in another shape.
use Rattle.std.specs.Prelude.{◌≡◌, ℕ, Bool, List, length, slice_index}
use Rattle.dcx_shape.specs.declared.shape.Sides.{Sides}
use Rattle.dcx_shape.specs.Sides.{entries_of}
use Rattle.dcx_shape.specs.Places.{HasEntry, row_place, place_of}

-- each entry of the result is the entry of the source that has the same place in the chosen order
pub record IsReshape (by_columns : Bool) (from to : Sides) (places : List ℕ) : Type 0 where
  pub sizes : entries_of from ≡ entries_of to
  pub count : length places ≡ entries_of to
  pub entries : (i j k l : ℕ) → HasEntry from i j → HasEntry to k l →
      place_of by_columns from i j ≡ place_of by_columns to k l →
      slice_index places (row_place to k l) ≡ row_place from i j

-- entry k of the result is entry p of the source
pub record IsSource (by_columns : Bool) (from to : Sides) (k p : ℕ) : Type 0 where
  pub row : ℕ
  pub column : ℕ
  pub to_row : ℕ
  pub to_column : ℕ
  pub entry : HasEntry from row column
  pub to_entry : HasEntry to to_row to_column
  pub same : place_of by_columns from row column ≡ place_of by_columns to to_row to_column
  pub is_to : k ≡ row_place to to_row to_column
  pub is_from : p ≡ row_place from row column
