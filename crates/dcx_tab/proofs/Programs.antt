-- A program's rows, columns and first tableau, place by place.
use Rattle.std.proofs.Common.{◌≡◌, ◌≢◌, ℕ, zero, suc, ◌+◌, ◌-◌, ◌*◌, ◌<◌, ◌≤◌, Bool, true, false, List, [], ◌∷◌, ◌++◌, map, length, get_or, arith, refl, sym, ap, ◌∙◌, subst, ℤ, ◌⊎◌, inl, inr}
use Rattle.std.specs.Prelude.{Some, slice_get, if◌then◌else◌}
use Rattle.std.proofs.lemmas.List.{length-map, length-append, get_or_append_left, get_or-append_right, get_or_at}
use Rattle.std.proofs.lemmas.Bool.{cases_lt, le-ltb}
use Rattle.dcx_tab.specs.declared.rows.ColumnKind.{ColumnKind}
use Rattle.dcx_tab.specs.declared.rows.ColumnKind.TheVariants.{Unknown, Slack, Artificial}
use Rattle.dcx_tab.specs.declared.rows.IntRow.{IntRow}
use Rattle.dcx_tab.specs.declared.rows.CostRow.{CostRow}
use Rattle.dcx_tab.specs.Rows.{Row, row_at, basic_at, AllSmall}
use Rattle.dcx_tab.specs.Table.{Table}
use Rattle.dcx_tab.specs.Program.{IsProgram, IsProgramRow, kind_at, first_basic_of, first_basic_at, is_plain, plain_count, tableau_row, objective_row, phase_row, first_table}
use Rattle.dcx_tab.specs.Cells.{row_of, table_rows, joined}
use Rattle.dcx_tab.proofs.CellLaws.{row_at-table}
use Rattle.dcx_tab.proofs.Joined.{length-joined, table_rows-joined}
use Rattle.dcx_math.proofs.Pigeons.{pigeons}

-- ---- a row that there is
pub record HasRow (rows : List IntRow) (i : ℕ) : Type 0 where
  pub row : IntRow
  pub is : slice_get rows i ≡ Some row

pub has_row : (rows : List IntRow) (i : ℕ) → i < length rows → HasRow rows i
has_row [] i h = absurd (omega arith)
has_row (r ∷ rows) zero h = record { row = r; is = refl }
has_row (r ∷ rows) (suc i) h = let s = has_row rows i (omega arith) in record { row = s.row; is = s.is }

pub map_at : {A : Type 0} (f : IntRow → A) (rows : List IntRow) (i : ℕ) (r : IntRow) (d : A) → slice_get rows i ≡ Some r → get_or (map f rows) i d ≡ f r
map_at f [] i r d e = cc
map_at f (s ∷ rows) zero r d e = let h : s ≡ r = cc in ap f h
map_at f (s ∷ rows) (suc i) r d e = map_at f rows i r d e

-- ---- the kind of a column
pub record IsArtificial (kinds : List ColumnKind) (j : ℕ) : Type 0 where
  pub row : ℕ
  pub is : kind_at kinds j ≡ Artificial row

artificial_by : (kinds : List ColumnKind) (j : ℕ) (k : ColumnKind) → kind_at kinds j ≡ k → is_plain k ≡ false → IsArtificial kinds j
artificial_by kinds j (Unknown u n) e h = cc
artificial_by kinds j (Slack r) e h = cc
artificial_by kinds j (Artificial r) e h = record { row = r; is = e }

pub plain_count_le : (kinds : List ColumnKind) → plain_count kinds ≤ length kinds
plain_count_le [] = omega arith
plain_count_le (k ∷ kinds) = by (is_plain k) (plain_count kinds) (length kinds) (plain_count_le kinds)
  where
    by : (b : Bool) (n m : ℕ) → n ≤ m → (if b then suc n else 0) ≤ suc m
    by true n m h = omega arith
    by false n m h = omega arith

module _ (rows : List IntRow) (kinds : List ColumnKind) (objective phase : CostRow) (form : IsProgram rows kinds objective phase) where
  pub from_plain : (j : ℕ) → plain_count kinds ≤ j → j < length kinds → IsArtificial kinds j
  from_plain j h l = artificial_by kinds j (kind_at kinds j) refl (form.ordered j l ∙ le-ltb j (plain_count kinds) h)

  artificial_row : (i : ℕ) → i < length kinds - plain_count kinds → IsArtificial kinds (plain_count kinds + i)
  artificial_row i h = from_plain (plain_count kinds + i) (omega arith) (omega arith)

  -- each artificial column has a row of its own
  own_row : (i : ℕ) → (i < length kinds - plain_count kinds) ⊎ (length kinds - plain_count kinds ≤ i) → ℕ
  own_row i (inl h) = (artificial_row i h).row
  own_row i (inr h) = 0

  own_row_low : (i : ℕ) → i < length kinds - plain_count kinds → (c : (i < length kinds - plain_count kinds) ⊎ (length kinds - plain_count kinds ≤ i)) → own_row i c < length rows
  unfolding own_row
  own_row_low i h (inl l) = form.artificial (plain_count kinds + i) (artificial_row i l).row (artificial_row i l).is
  own_row_low i h (inr l) = absurd (omega arith)

  apart_by : (i j k l : ℕ) → first_basic_at rows k ≡ i → first_basic_at rows l ≡ j → k ≡ l → i ≡ j
  apart_by i j k l p q e = sym p ∙ ap (first_basic_at rows) e ∙ q

  own_row_apart : (i j : ℕ) → i < j → (c : (i < length kinds - plain_count kinds) ⊎ (length kinds - plain_count kinds ≤ i)) (e : (j < length kinds - plain_count kinds)
      ⊎ (length kinds - plain_count kinds ≤ j)) → j < length kinds - plain_count kinds → own_row i c ≢ own_row j e
  unfolding own_row
  own_row_apart i j h (inl l) (inl m) q same =
      let p = form.starting (plain_count kinds + i) (artificial_row i l).row (artificial_row i l).is in
      let r = form.starting (plain_count kinds + j) (artificial_row j m).row (artificial_row j m).is in
      let s = apart_by (plain_count kinds + i) (plain_count kinds + j) (artificial_row i l).row (artificial_row j m).row p r same in
      absurd (omega (arith, s, h))
  own_row_apart i j h (inl l) (inr m) q same = absurd (omega arith)
  own_row_apart i j h (inr l) e q same = absurd (omega arith)

  few_artificials : length kinds - plain_count kinds ≤ length rows
  few_artificials =
      pigeons (length rows) (length kinds - plain_count kinds) (λ i. own_row i (cases_lt i (length kinds - plain_count kinds)))
      (λ i h. own_row_low i h (cases_lt i (length kinds - plain_count kinds)))
      (λ i j h l. own_row_apart i j h (cases_lt i (length kinds - plain_count kinds)) (cases_lt j (length kinds - plain_count kinds)) l)

  pub few_in_all : length kinds ≤ 3000
  few_in_all = let a = few_artificials in let b = form.few_rows in let c = form.few_columns in omega (arith, a, b, c)

  -- ---- the first tableau, row by row
  abbrev pub first : Table
  first = first_table rows kinds objective phase

  pub length_first : length (first_table rows kinds objective phase).rows ≡ length rows + 2
  length_first = let a = length-append (map tableau_row rows) (objective_row objective ∷ phase_row phase ∷ []) in omega (arith, a, length-map rows tableau_row)

  pub length_basis : length (first_table rows kinds objective phase).basis ≡ length rows + 2
  length_basis = let a = length-append (map first_basic_of rows) (length kinds ∷ (length kinds + 1) ∷ []) in omega (arith, a, length-map rows first_basic_of)

  pub at_row : (i : ℕ) (r : IntRow) → i < length rows → slice_get rows i ≡ Some r → row_at (first_table rows kinds objective phase).rows i ≡ tableau_row r
  at_row i r h e =
      get_or_append_left (map tableau_row rows) (objective_row objective ∷ phase_row phase ∷ []) [] i (omega (arith, length-map rows tableau_row)) ∙ map_at tableau_row rows i r [] e

  pub at_objective : row_at (first_table rows kinds objective phase).rows (length rows) ≡ objective_row objective
  at_objective = get_or_at (map tableau_row rows) (objective_row objective) (phase_row phase ∷ []) [] (length rows) (length-map rows tableau_row)

  pub at_phase : row_at (first_table rows kinds objective phase).rows (length rows + 1) ≡ phase_row phase
  at_phase =
      get_or-append_right (map tableau_row rows) (objective_row objective ∷ phase_row phase ∷ []) (length rows) (length rows + 1) [] (length-map rows tableau_row) (omega arith)
      ∙ ap (row_at (objective_row objective ∷ phase_row phase ∷ [])) (one (length rows))
    where
      one : (n : ℕ) → n + 1 - n ≡ 1
      one n = omega arith

  pub basic_row : (i : ℕ) → i < length rows → basic_at (first_table rows kinds objective phase).basis i ≡ first_basic_at rows i
  basic_row i h = get_or_append_left (map first_basic_of rows) (length kinds ∷ (length kinds + 1) ∷ []) 0 i (omega (arith, length-map rows first_basic_of))

  pub basic_objective : basic_at (first_table rows kinds objective phase).basis (length rows) ≡ length kinds
  basic_objective = get_or_at (map first_basic_of rows) (length kinds) ((length kinds + 1) ∷ []) 0 (length rows) (length-map rows first_basic_of)

  pub basic_phase : basic_at (first_table rows kinds objective phase).basis (length rows + 1) ≡ length kinds + 1
  basic_phase =
      get_or-append_right (map first_basic_of rows) (length kinds ∷ (length kinds + 1) ∷ []) (length rows) (length rows + 1) 0 (length-map rows first_basic_of) (omega arith)
      ∙ ap (basic_at (length kinds ∷ (length kinds + 1) ∷ [])) (one (length rows))
    where
      one : (n : ℕ) → n + 1 - n ≡ 1
      one n = omega arith

  -- a fact of each row of the tableau
  pub each_row_by : (P : ℕ → Row → Type 0) → ((i : ℕ) (r : IntRow) → i < length rows → IsProgramRow kinds i r → slice_get rows i ≡ Some r → P i (tableau_row r))
      → P (length rows) (objective_row objective) → P (length rows + 1) (phase_row phase)
      → (i : ℕ) → i < length rows + 2 → P i (row_at (first_table rows kinds objective phase).rows i)
  each_row_by P f o w i h = by i h (cases_lt i (length rows)) (cases_lt i (length rows + 1))
    where
      by : (i : ℕ) → i < length rows + 2 → (i < length rows) ⊎ (length rows ≤ i) → (i < length rows + 1) ⊎ (length rows + 1 ≤ i) → P i (row_at (first_table rows kinds objective phase).rows i)
      by i h (inl l) m = let s = has_row rows i l in subst (P i) (sym (at_row i s.row l s.is)) (f i s.row l (form.each_row i s.row s.is) s.is)
      by i h (inr l) (inl m) = let e : length rows ≡ i = omega arith in subst (λ k. P k (row_at (first_table rows kinds objective phase).rows k)) e (subst (P (length rows)) (sym at_objective) o)
      by i h (inr l) (inr m) = let e : length rows + 1 ≡ i = omega arith in subst (λ k. P k (row_at (first_table rows kinds objective phase).rows k)) e (subst (P (length rows + 1)) (sym at_phase) w)

  three_more : (entries : List ℤ) (a b c : ℤ) → length entries ≡ length kinds → length (entries ++ a ∷ b ∷ c ∷ []) ≡ length kinds + 3
  three_more entries a b c e = let l = length-append entries (a ∷ b ∷ c ∷ []) in omega (arith, l, e)

  pub widths : (i : ℕ) → i < length rows + 2 → length (row_at (first_table rows kinds objective phase).rows i) ≡ length kinds + 3
  widths = each_row_by (λ i row. length row ≡ length kinds + 3) (λ i r h f e. three_more r.entries _ _ _ f.width) (three_more objective.entries _ _ _ form.cost.width)
      (three_more phase.entries _ _ _ form.sum.width)

  pub all_small : (i : ℕ) → i < length rows + 2 → AllSmall (row_at (first_table rows kinds objective phase).rows i)
  all_small = each_row_by (λ i row. AllSmall row) (λ i r h f e. f.small) form.cost.small form.sum.small

  -- ---- its cells
  module _ (cells : List ℤ) (all : cells ≡ joined (first_table rows kinds objective phase).rows) where
    pub cells_length : length cells ≡ (length rows + 2) * (length kinds + 3)
    cells_length =
        ap length all ∙ length-joined (length kinds + 3) (first_table rows kinds objective phase).rows (λ i h. widths i (omega (arith, length_first)))
        ∙ ap (λ n. n * (length kinds + 3)) length_first

    pub cells_rows : table_rows (length kinds + 3) (length rows + 2) cells ≡ (first_table rows kinds objective phase).rows
    cells_rows =
        ap (table_rows (length kinds + 3) (length rows + 2)) all
        ∙ ap (λ n. table_rows (length kinds + 3) n (joined (first_table rows kinds objective phase).rows)) (sym length_first)
        ∙ table_rows-joined (length kinds + 3) (first_table rows kinds objective phase).rows (λ i h. widths i (omega (arith, length_first)))

    pub cells_small : (i : ℕ) → i < length rows + 2 → AllSmall (row_of (length kinds + 3) cells i)
    cells_small i h =
        subst AllSmall (ap (λ rs. row_at rs i) (sym cells_rows) ∙ row_at-table (length kinds + 3) (length rows + 2) cells i h) (all_small i h)

pub same_table : (t u : Table) → t.rows ≡ u.rows → t.basis ≡ u.basis → t.columns ≡ u.columns → t.plain ≡ u.plain → t ≡ u
same_table t u er eb ec ep = λ i. record { rows = er i; basis = eb i; columns = ec i; plain = ep i }
