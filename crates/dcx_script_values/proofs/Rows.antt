-- Rows of numbers: as many numbers as their array has entries.
use Rattle.std.specs.Prelude.{◌≡◌, ℕ, ◌*◌, ◌<◌, ◌≤◌, take, nat_eq, Bool, true, false, List, [], ◌∷◌, map, length, None, if◌then◌else◌}
use Rattle.std.specs.List.{list_all, flat_map}
use Rattle.std.proofs.Common.{refl, ap, ◌∙◌, arith, length-append, take_all, sym}
use Rattle.std.proofs.lemmas.Bool.{eqb-true, and_parts}
use Rattle.std.proofs.lemmas.List.{length-map}
use mathlib.Core.Bool.{or-false}
use Rattle.dcx_frac.specs.declared.fraction.Frac.{Frac}
use Rattle.dcx_shape.specs.declared.shape.Sides.TheVariants.{Vector, Matrix}
use Rattle.dcx_shape.specs.Sides.{entries_of, HasFewEntries}
use Rattle.dcx_array.specs.Arrays.{array_with}
use Rattle.dcx_array.proofs.AllowedShapes.{shape_with-none}
use Rattle.dcx_script_values.specs.declared.value.Value as code_value
use Rattle.dcx_script_values.specs.Meant.{meant}
use Rattle.dcx_script_values.proofs.ShapesAsked.{few_sides}
use Rattle.dcx_script_values.specs.Values.{Value, plain, list, items_of}
use Rattle.dcx_script_values.specs.Kinds.{is_number, number_of, is_list, list_items, is_long, are_rows, rows_sides, row_numbers, rows_array}

-- a row has as many numbers as it is long
row_length : (n : ℕ) (v : Value) → is_long n v ≡ true → length (row_numbers v) ≡ n
row_length n (list vs) e =
    let long : nat_eq (length (items_of vs)) n ≡ true = (and_parts (list_all is_number (items_of vs)) (nat_eq (length (items_of vs)) n) e).1 in
    length-map (items_of vs) number_of ∙ eqb-true (length (items_of vs)) n long
row_length n v e = cc

rows_length : (n : ℕ) (vs : List Value) → list_all (is_long n) vs ≡ true → length (flat_map row_numbers vs) ≡ length vs * n
rows_length n [] e = omega arith
rows_length n (v ∷ vs) e =
    let p = and_parts (is_long n v) (list_all (is_long n) vs) e in
    omega (arith, length-append (row_numbers v) (flat_map row_numbers vs), row_length n v p.0, rows_length n vs p.1)

-- a number is a row of one
number_length : (v : Value) → is_number v ≡ true → length (row_numbers v) ≡ 1
number_length (plain a) e = omega arith
number_length v e = cc

numbers_length : (vs : List Value) → list_all is_number vs ≡ true → length (flat_map row_numbers vs) ≡ length vs
numbers_length [] e = refl
numbers_length (v ∷ vs) e =
    let p = and_parts (is_number v) (list_all is_number vs) e in
    omega (arith, length-append (row_numbers v) (flat_map row_numbers vs), number_length v p.0, numbers_length vs p.1)

pub length-rows : (vs : List Value) → are_rows vs ≡ true → length (flat_map row_numbers vs) ≡ entries_of (rows_sides vs)
length-rows [] e = refl
length-rows (list ws ∷ vs) e = rows_length (length (items_of ws)) (list ws ∷ vs) e
length-rows (plain a ∷ vs) e = numbers_length (plain a ∷ vs) (sym (or-false (list_all is_number (plain a ∷ vs))) ∙ e)
length-rows (v ∷ vs) e = cc

-- ---- the array of rows
-- so many rows are no array
pub many_rows : (vs : List Value) → 20000 < length vs → ¬ HasFewEntries (rows_sides vs)
many_rows [] many few = absurd (omega arith)
many_rows (v ∷ vs) many few = by (is_list v) few
  where
    by : (b : Bool) → HasFewEntries (if b then Matrix (length (v ∷ vs)) (length (list_items v)) else Vector (length (v ∷ vs))) → ⊥
    by true f = omega (arith, (few_sides (length (v ∷ vs)) (length (list_items v)) f).0, many)
    by false f = omega (arith, f.most, many)

-- all rows are taken
pub taken_rows : (vs : List code_value.Value) (i : ℕ) (numbers : List Frac) → length vs ≤ i → numbers ≡ flat_map row_numbers (map meant (take i vs)) → numbers ≡ flat_map row_numbers (map meant vs)
taken_rows vs i numbers all e = e ∙ ap (λ us. flat_map row_numbers (map meant us)) (take_all i vs all)

pub rows_array-many : (vs : List Value) → ¬ HasFewEntries (rows_sides vs) → rows_array vs ≡ None
rows_array-many vs many = by (are_rows vs)
  where
    by : (b : Bool) → (if b then array_with (rows_sides vs) (flat_map row_numbers vs) else None) ≡ None
    by true = rw (shape_with-none (rows_sides vs) many) refl
    by false = refl
