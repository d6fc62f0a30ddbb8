-- Joining arrays side by side, and one below the other.
use Rattle.std.specs.Prelude.{ℕ, suc, ◌/◌, ◌%◌, nat_eq, nat_le, Bool, ◌&&◌, if◌then◌else◌, List, [], ◌∷◌, ◌++◌, sum_by, slice_index_or, Option, None, pos}
use Rattle.std.specs.List.{list_all}
use Rattle.dcx_math.specs.Rational.{whole}
use Rattle.dcx_shape.specs.declared.shape.Sides.{Sides}
use Rattle.dcx_shape.specs.declared.shape.Sides.TheVariants.{Vector, Matrix}
use Rattle.dcx_shape.specs.Sides.{rank_of, rows_of, cols_of}
use Rattle.dcx_shape.specs.Places.{row_place}
use Rattle.dcx_atom.specs.Arrays.{list_below, sides_at, entry_at}
use Rattle.dcx_atom.specs.Signs.{rises, common_sign}
use Rattle.dcx_atom.specs.Linear.{LinearTerm, LinearMeaning}
use Rattle.dcx_affine.specs.declared.slots.Slot.{Slot}
use Rattle.dcx_affine.specs.declared.slots.Line.{Line}
use Rattle.dcx_affine.specs.declared.slots.Line.TheVariants.{Row, Column}
use Rattle.dcx_affine.specs.Places.{limited}
use Rattle.dcx_affine.specs.Added.{term}

-- how many lines of this kind an array has
abbrev pub lines_of : Line → Sides → ℕ
lines_of Row s = rows_of s
lines_of Column s = cols_of s

-- the lines of the arguments one after another, from argument i on: the argument and the line in it
abbrev pub lined_up : Line → ℕ → List Sides → List Slot
lined_up line i [] = []
lined_up line i (s ∷ rest) = list_below (lines_of line s) (λ e. record { argument = i; place = e }) ++ lined_up line (suc i) rest

-- line c of all
abbrev pub slot_at : Line → List Sides → ℕ → Slot
slot_at line args c = slice_index_or (lined_up line 0 args) c (record { argument = 0; place = 0 })

-- how many lines there are
abbrev pub all_lines : Line → List Sides → ℕ
all_lines line args = sum_by (lines_of line) args

-- ---- side by side
-- scalars and vectors become one vector, and matrices with equally many rows one matrix
abbrev pub is_flat : Sides → Bool
is_flat s = nat_le (rank_of s) 1

abbrev pub has_rows : ℕ → Sides → Bool
has_rows m s = nat_eq (rank_of s) 2 && nat_eq (rows_of s) m

abbrev pub hstack_sides : List Sides → Option Sides
hstack_sides [] = None
hstack_sides (s ∷ rest) =
    if list_all is_flat (s ∷ rest) then limited (Vector (all_lines Column (s ∷ rest)))
    else (if list_all (has_rows (rows_of s)) (s ∷ rest) then limited (Matrix (rows_of s) (all_lines Column (s ∷ rest))) else None)

-- the entry in row k / n and column k % n, where all have n columns: column c of the result is that of an argument
abbrev pub hstack_term : List Sides → ℕ → LinearTerm
hstack_term args k =
    let n = all_lines Column args in
    let x = slot_at Column args (k % n) in
    term x.argument (row_place (sides_at args x.argument) (k / n) x.place) (whole (pos 1))

abbrev pub hstack_meaning : LinearMeaning
hstack_meaning = record {
  shape = hstack_sides;
  trend = λ i. rises;
  sign = common_sign;
  value = λ args a k. (
      let n = all_lines Column args in
      let x = slot_at Column args (k % n) in
      entry_at (sides_at args x.argument) (a x.argument) (k / n) x.place);
  terms = λ args k. hstack_term args k ∷ [];
}

-- ---- one below the other
-- each scalar or vector is a row; all have equally many columns
abbrev pub has_columns : ℕ → Sides → Bool
has_columns n s = nat_eq (cols_of s) n

abbrev pub vstack_sides : List Sides → Option Sides
vstack_sides [] = None
vstack_sides (s ∷ rest) = if list_all (has_columns (cols_of s)) (s ∷ rest) then limited (Matrix (all_lines Row (s ∷ rest)) (cols_of s)) else None

-- the entry in row k / n and column k % n, where each has n columns: row r of the result is that of an argument
abbrev pub vstack_term : List Sides → ℕ → LinearTerm
vstack_term args k =
    let n = cols_of (sides_at args 0) in
    let x = slot_at Row args (k / n) in
    term x.argument (row_place (sides_at args x.argument) x.place (k % n)) (whole (pos 1))

abbrev pub vstack_meaning : LinearMeaning
vstack_meaning = record {
  shape = vstack_sides;
  trend = λ i. rises;
  sign = common_sign;
  value = λ args a k. (
      let n = cols_of (sides_at args 0) in
      let x = slot_at Row args (k / n) in
      entry_at (sides_at args x.argument) (a x.argument) x.place (k % n));
  terms = λ args k. vstack_term args k ∷ [];
}
