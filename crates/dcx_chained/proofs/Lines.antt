-- The rows of a first tableau, entry by entry.
use Rattle.std.proofs.Common.{◌≡◌, ℕ, zero, suc, ◌+◌, ◌<◌, [], ◌∷◌, ◌++◌, length, map, arith, refl, sym, ap, ◌∙◌, subst, ℤ, pos, length-append}
use Rattle.std.proofs.lemmas.List.{ext_get_or}
use Rattle.dcx_tab.specs.declared.rows.ColumnKind.{ColumnKind}
use Rattle.dcx_tab.specs.declared.rows.IntRow.{IntRow}
use Rattle.dcx_tab.specs.declared.rows.CostRow.{CostRow}
use Rattle.std.specs.Prelude.{List, slice_get, Some}
use Rattle.dcx_tab.specs.Rows.{Row, entry, row_at, AllSmall}
use Rattle.dcx_tab.specs.Program.{IsProgram, tableau_row, objective_row, phase_row, first_table}
use Rattle.dcx_tab.proofs.Programs.{length_first, each_row_by, all_small, map_at, has_row}
use Rattle.dcx_links.specs.Matrix.{Matrix, row_of}
use Rattle.dcx_chained.specs.Rows.{rows_of}
use Rattle.dcx_chained.proofs.RowReads.{length-rows_of, row_at-rows_of}

-- a row that has entries and then three more numbers
pub line_read : (f : ℕ → ℤ) (xs : Row) (z w y : ℤ) (n m k : ℕ) → n ≡ length xs → m ≡ n + 1 → k ≡ n + 2 → ((j : ℕ) → j < length xs → f j ≡ entry xs j) → f n ≡ z → f m ≡ w → f k ≡ y
    → (j : ℕ) → j < length xs + 3 → f j ≡ entry (xs ++ z ∷ w ∷ y ∷ []) j
line_read f [] z w y n m k en em ek h a b c zero lt = ap f (sym en) ∙ a
line_read f [] z w y n m k en em ek h a b c (suc zero) lt = let e : 1 ≡ m = omega (arith, en, em) in ap f e ∙ b
line_read f [] z w y n m k en em ek h a b c (suc (suc zero)) lt = let e : 2 ≡ k = omega (arith, en, ek) in ap f e ∙ c
line_read f [] z w y n m k en em ek h a b c (suc (suc (suc j))) lt = absurd (omega (arith, lt))
line_read f (x ∷ xs) z w y n m k en em ek h a b c zero lt = h 0 (omega arith)
line_read f (x ∷ xs) z w y n m k en em ek h a b c (suc j) lt =
    let l = length xs in
    let e0 : suc l ≡ n = sym en in
    let e1 : suc (l + 1) ≡ m = omega (arith, en, em) in
    let e2 : suc (l + 2) ≡ k = omega (arith, en, ek) in
    line_read (λ i. f (suc i)) xs z w y l (l + 1) (l + 2) refl refl refl (λ i i_in. h (suc i) (omega (arith, i_in))) (ap f e0 ∙ a) (ap f e1 ∙ b) (ap f e2 ∙ c) j (omega (arith, lt))

module _ (rows : List IntRow) (kinds : List ColumnKind) (objective phase : CostRow) (form : IsProgram rows kinds objective phase) (m : Matrix) (high : m.height ≡ length rows + 2)
    (put : (k : ℕ) → k < length rows → row_of m k ≡ row_at (map tableau_row rows) k) (at_objective : row_of m (length rows) ≡ objective_row objective)
    (at_phase : row_of m (length rows + 1) ≡ phase_row phase) where
  each : (i : ℕ) → i < length rows + 2 → row_of m i ≡ row_at (first_table rows kinds objective phase).rows i
  each = each_row_by rows kinds objective phase form (λ i row. row_of m i ≡ row) (λ i r lt f e. put i lt ∙ map_row i r lt e) at_objective at_phase
    where
      map_row : (i : ℕ) (r : IntRow) → i < length rows → slice_get rows i ≡ Some r → row_at (map tableau_row rows) i ≡ tableau_row r
      map_row i r lt e = map_at tableau_row rows i r [] e

  -- all rows are those of the first tableau
  pub first_rows : rows_of m ≡ (first_table rows kinds objective phase).rows
  first_rows = ext_get_or [] (rows_of m) (first_table rows kinds objective phase).rows (length-rows_of m ∙ high ∙ sym (length_first rows kinds objective phase form))
      (λ i lt. let l = length-rows_of m in let i_in : i < m.height = omega (arith, lt, l) in row_at-rows_of m i i_in ∙ each i (omega (arith, i_in, high)))

  pub first_small : (i : ℕ) → i < length rows + 2 → AllSmall (row_of m i)
  first_small i lt = subst AllSmall (sym (each i lt)) (all_small rows kinds objective phase form i lt)

-- the rows of a program are as long as the tableau's
pub row_width : (rows : List IntRow) (kinds : List ColumnKind) (objective phase : CostRow) → IsProgram rows kinds objective phase → (k : ℕ) → k < length rows
    → length (row_at (map tableau_row rows) k) ≡ length kinds + 3
row_width rows kinds objective phase form k lt =
    let s = has_row rows k lt in
    let e = ap length (map_at tableau_row rows k s.row [] s.is) in
    let l = length-append s.row.entries (pos 0 ∷ pos 0 ∷ s.row.right ∷ []) in
    let w = (form.each_row k s.row s.is).width in
    omega (arith, e, l, w)
