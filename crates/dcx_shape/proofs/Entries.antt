-- Entries and their places: each place is that of one entry.
use Rattle.std.proofs.Common.{◌≡◌, ℕ, zero, suc, ◌+◌, ◌*◌, ◌/◌, ◌%◌, ◌<◌, Bool, true, false, refl, sym, arith, mul_comm}
use Rattle.std.proofs.lemmas.Nat.{div-add-mod', div_below, mod_below, mul-add-lt, same_from_place}
use Rattle.dcx_shape.specs.declared.shape.Sides.{Sides}
use Rattle.dcx_shape.specs.declared.shape.Sides.TheVariants.{Scalar, Vector, Matrix}
use Rattle.dcx_shape.specs.Sides.{rows_of, cols_of, entries_of}
use Rattle.dcx_shape.specs.Places.{HasEntry, row_place, column_place, place_of, TurnsPlace}

-- the entries are the rows times the columns
pub entries_are : (s : Sides) → entries_of s ≡ rows_of s * cols_of s
entries_are Scalar = refl
entries_are (Vector n) = omega arith
entries_are (Matrix m n) = refl

-- a factor of a product above 0
pub factor_pos : (k m n : ℕ) → k < m * n → (0 < m) × (0 < n)
factor_pos k zero n h = absurd (omega arith)
factor_pos k (suc m) zero h = absurd (omega arith)
factor_pos k (suc m) (suc n) h = (omega arith, omega arith)

-- the entry at a place along the rows
entry_along : (s : Sides) (k : ℕ) → k < entries_of s → HasEntry s (k / cols_of s) (k % cols_of s) × (k ≡ row_place s (k / cols_of s) (k % cols_of s))
entry_along s k h =
    let below : k < rows_of s * cols_of s = omega (arith, h, entries_are s) in
    let wide : 0 < cols_of s = (factor_pos k (rows_of s) (cols_of s) below).1 in (
      record { row = div_below k (cols_of s) (rows_of s) wide below; column = mod_below k (cols_of s) wide },
      sym (div-add-mod' k (cols_of s)),
    )

-- the entry at a place down the columns
entry_down : (s : Sides) (k : ℕ) → k < entries_of s → HasEntry s (k % rows_of s) (k / rows_of s) × (k ≡ column_place s (k % rows_of s) (k / rows_of s))
entry_down s k h =
    let below : k < cols_of s * rows_of s = omega (arith, h, entries_are s, mul_comm (rows_of s) (cols_of s)) in
    let high : 0 < rows_of s = (factor_pos k (cols_of s) (rows_of s) below).1 in (
      record { row = mod_below k (rows_of s) high; column = div_below k (rows_of s) (cols_of s) high below },
      sym (div-add-mod' k (rows_of s)),
    )

-- a place is below the number of entries
pub place_below : (c : Bool) (s : Sides) (i j : ℕ) → HasEntry s i j → place_of c s i j < entries_of s
place_below false s i j e = omega (arith, entries_are s, mul-add-lt i (cols_of s) j (rows_of s) e.row e.column, mul_comm (rows_of s) (cols_of s))
place_below true s i j e = omega (arith, entries_are s, mul-add-lt j (rows_of s) i (cols_of s) e.column e.row)

-- one entry at one place
pub same_entry : (c : Bool) (s : Sides) (i j k l : ℕ) → HasEntry s i j → HasEntry s k l → place_of c s i j ≡ place_of c s k l → (i ≡ k) × (j ≡ l)
same_entry false s i j k l e f h = same_from_place i j k l (cols_of s) e.column f.column h
same_entry true s i j k l e f h = let t : (j ≡ l) × (i ≡ k) = same_from_place j i l k (rows_of s) e.row f.row h in (t.1, t.0)

-- what the code computes: the place along the rows turned to that down the columns, and the other way round
pub turned_down : (s : Sides) (k rows columns : ℕ) → rows ≡ rows_of s → columns ≡ cols_of s → k < entries_of s → TurnsPlace s k (k % columns * rows + k / columns)
turned_down s k rows columns p q h =
    let e : HasEntry s (k / cols_of s) (k % cols_of s) × (k ≡ row_place s (k / cols_of s) (k % cols_of s)) = entry_along s k h in
    rw (p, q) (record { row = k / cols_of s; column = k % cols_of s; entry = e.0; is_along = e.1; is_down = refl })

pub turned_along : (s : Sides) (k rows columns : ℕ) → rows ≡ rows_of s → columns ≡ cols_of s → k < entries_of s → TurnsPlace s (k % rows * columns + k / rows) k
turned_along s k rows columns p q h =
    let e : HasEntry s (k % rows_of s) (k / rows_of s) × (k ≡ column_place s (k % rows_of s) (k / rows_of s)) = entry_down s k h in
    rw (p, q) (record { row = k % rows_of s; column = k / rows_of s; entry = e.0; is_along = refl; is_down = e.1 })

-- both places of one entry are below the number of entries
pub turned_below : (s : Sides) (along down : ℕ) → TurnsPlace s along down → (along < entries_of s) × (down < entries_of s)
turned_below s along down t = (omega (arith, t.is_along, place_below false s t.row t.column t.entry), omega (arith, t.is_down, place_below true s t.row t.column t.entry))

-- the entry at a place in the one order or the other
pub record Entry (c : Bool) (s : Sides) (k : ℕ) : Type 0 where
  pub row : ℕ
  pub column : ℕ
  pub entry : HasEntry s row column
  pub is_place : k ≡ place_of c s row column

pub entry_at : (c : Bool) (s : Sides) (k : ℕ) → k < entries_of s → Entry c s k
entry_at false s k h =
    let e : HasEntry s (k / cols_of s) (k % cols_of s) × (k ≡ row_place s (k / cols_of s) (k % cols_of s)) = entry_along s k h in
    record { row = k / cols_of s; column = k % cols_of s; entry = e.0; is_place = e.1 }
entry_at true s k h =
    let e : HasEntry s (k % rows_of s) (k / rows_of s) × (k ≡ column_place s (k % rows_of s) (k / rows_of s)) = entry_down s k h in
    record { row = k % rows_of s; column = k / rows_of s; entry = e.0; is_place = e.1 }
