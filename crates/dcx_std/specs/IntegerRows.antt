-- The rows of a scaled program as they are made of whole rows, and the first operation of them all that passes.
use Rattle.std.specs.Prelude.{◌≡◌, ⊤, ◌≤◌, ◌⊎◌, ℕ, suc, ◌-◌, Bool, nat_le, List, [], ◌∷◌, ◌++◌, map, filter, if◌then◌else◌}
use Rattle.std.specs.Prelude.{length, replicate, Option, Some, None, Result, Ok, Err, ℤ, pos, int_lt, slice_get}
use Rattle.std.specs.List.{All, range_with_len}
use Rattle.dcx_math.specs.Rational.{whole}
use Rattle.dcx_frac.specs.declared.fraction.Frac.{Frac}
use Rattle.dcx_frac.specs.declared.fraction.Passes.{Passes}
use Rattle.dcx_frac.specs.Frac.{num_of}
use Rattle.dcx_frac.specs.Results.{sum_of}
use Rattle.dcx_atom.specs.Formed.{frac_at, and_then, sum_in_order}
use Rattle.dcx_std.specs.GivenRows.{GivenRows}
use Rattle.dcx_linear.specs.declared.stop.CoefStop.{CoefStop}
use Rattle.dcx_linear.specs.declared.stop.CoefStop.TheVariants as coef
use Rattle.dcx_answer.specs.declared.site.Site.{Site}
use Rattle.dcx_answer.specs.declared.site.Site.TheVariants as sites
use Rattle.dcx_tab.specs.declared.rows.ColumnKind.{ColumnKind}
use Rattle.dcx_tab.specs.declared.rows.IntRow.{IntRow}
use Rattle.dcx_tab.specs.declared.rows.CostRow.{CostRow}
use Rattle.dcx_tab.specs.declared.program.Program.{Program}
use Rattle.dcx_tab.specs.Rows.{entry}
use Rattle.dcx_tab.specs.Program.{plain_count}
use Rattle.dcx_std.specs.declared.program.WholeProgram.{WholeProgram}
use Rattle.dcx_std.specs.declared.whole.WholeRow.{WholeRow}
use Rattle.dcx_std.specs.declared.start.Start.{Start}
use Rattle.dcx_std.specs.WholeRows.{row_made, cost_made, numerators, IsSparseForm}
use Rattle.dcx_std.specs.declared.stop.RowStop.{RowStop}
use Rattle.dcx_std.specs.declared.stop.RowStop.TheVariants as stops
use Rattle.dcx_linear.specs.Size.{capped}
use Rattle.dcx_std.specs.Size.{column_count}
use Rattle.dcx_std.specs.Columns.{turned, number_in, cost_in, start_column, columns_of}

-- ---- rows
-- how a whole row over n unknowns starts: it is negated where its right side is below 0
abbrev pub start_of : ℕ → WholeRow → Start
start_of n w = record { kind = w.kind; negated = int_lt (entry w.numbers n) (pos 0) }

-- row i of a program with these columns, made of a whole row over n unknowns
pub record IsMadeOf (columns : List ColumnKind) (n i : ℕ) (w : WholeRow) (r : IntRow) : Type 0 where
  pub entries : r.entries ≡ map (number_in i (start_of n w).negated w.numbers) columns
  pub right : r.right ≡ turned (start_of n w).negated (entry w.numbers n)
  pub basic : slice_get columns r.basic ≡ Some (start_column i (start_of n w))
  pub factor : r.factor ≡ w.factor
  pub negated : r.negated ≡ (start_of n w).negated

-- each row is made of the whole row, the first of which has the number i
abbrev pub AreMadeOf : List ColumnKind → ℕ → ℕ → List WholeRow → List IntRow → Type 0
AreMadeOf columns n i [] [] = ⊤
AreMadeOf columns n i [] (r ∷ rs) = ⊥
AreMadeOf columns n i (w ∷ ws) [] = ⊥
AreMadeOf columns n i (w ∷ ws) (r ∷ rs) = IsMadeOf columns n i w r × AreMadeOf columns n (suc i) ws rs

-- ---- the objective row: behind the unknowns' numbers stand the right side and the entry of z
pub record IsCostOf (columns : List ColumnKind) (n : ℕ) (w : WholeRow) (c : CostRow) : Type 0 where
  pub entries : c.entries ≡ map (cost_in w.numbers) columns
  pub right : c.right ≡ entry w.numbers n
  pub lead : c.lead ≡ entry w.numbers (suc n)

-- ---- the phase 1 row
-- the row starts with an artificial, whose columns are those from `plain` on
abbrev pub starts_artificial : ℕ → IntRow → Bool
starts_artificial plain r = nat_le plain r.basic

-- the number at a column, and behind the columns the right side
abbrev pub number_at : ℕ → IntRow → ℤ
number_at j r = entry (r.entries ++ r.right ∷ []) j

-- the number that row r adds to x where it starts with an artificial
abbrev pub added_number : ℕ → ℕ → Frac → IntRow → Result Frac Passes
added_number plain j x r = if starts_artificial plain r then sum_of x (frac_at (whole (number_at j r))) else Ok x

-- the sum at a column, from 0 over the rows that start with an artificial
abbrev pub column_sum : ℕ → List IntRow → ℕ → Result Frac Passes
column_sum plain rows j = sum_in_order (map (λ r. whole (number_at j r)) (filter (starts_artificial plain) rows))

-- the phase 1 row with these sums at the columns that aren't artificial, and this one at the right side
abbrev pub phase_of : ℕ → ℕ → List ℤ → Frac → CostRow
phase_of plain width zs x = record { entries = zs ++ replicate (width - plain) (pos 0); lead = pos 1; right = num_of x }

-- the row of the sum w of the artificials: column by column, and last the right side
abbrev pub phase_made : ℕ → ℕ → List IntRow → Result CostRow Passes
phase_made plain width rows =
    and_then (numerators (map (column_sum plain rows) (range_with_len 0 plain))) (λ zs. and_then (column_sum plain rows width) (λ x. Ok (phase_of plain width zs x)))

-- ---- the first operation that passes
-- of rows that are made one after the other, the first of which has the number i: where the first that passes stands
abbrev pub passing_from : {A : Type 0} → ℕ → List (Result A Passes) → Option Site
passing_from i [] = None
passing_from i (Ok x ∷ rs) = passing_from (suc i) rs
passing_from i (Err passes ∷ rs) = Some (sites.Row i passes)

-- the rows and the objective row, as they are made in turn
abbrev pub rows_made : GivenRows → List (Result WholeRow Passes)
rows_made rows = map (row_made (length rows.kinds)) rows.rows ++ cost_made (length rows.kinds) rows.objective ∷ []

-- the rows are made, and have these integer rows
pub record HasIntegerRows (rows : GivenRows) (columns : List ColumnKind) (ints : List IntRow) : Type 0 where
  pub made : List WholeRow
  pub are : map (row_made (length rows.kinds)) rows.rows ≡ map Ok made
  pub has_columns : columns ≡ columns_of rows.kinds (map (start_of (length rows.kinds)) made)
  pub ints_are : AreMadeOf columns (length rows.kinds) 0 made ints

-- the phase 1 row, whose number follows that of the objective row, passes
pub record PassesInPhase (rows : GivenRows) (site : Site) : Type 0 where
  pub before : passing_from 0 (rows_made rows) ≡ None
  pub columns : List ColumnKind
  pub ints : List IntRow
  pub integer : HasIntegerRows rows columns ints
  pub passes : Passes
  pub here : phase_made (plain_count columns) (length columns) ints ≡ Err passes
  pub at : site ≡ sites.Row (suc (length rows.rows)) passes

-- the first operation that passes stands there
abbrev pub IsFirstPassing : GivenRows → Site → Type 0
IsFirstPassing rows site = (passing_from 0 (rows_made rows) ≡ Some site) ⊎ PassesInPhase rows site

-- ---- what is answered
-- the stop at the row with this number
abbrev pub stop_at : ℕ → CoefStop → RowStop
stop_at row (coef.Passes passes) = stops.Wide (sites.Row row passes)
stop_at row coef.Memory = stops.Memory

-- the result, with its stop at the row with this number
abbrev pub result_at : {T : Type 0} → ℕ → Result T CoefStop → Result T RowStop
result_at row (Ok x) = Ok x
result_at row (Err stop) = Err (stop_at row stop)

-- the stop stands where the first operation passes
abbrev pub StopsAt : RowStop → Option Site → Type 0
StopsAt (stops.Wide site) first = first ≡ Some site
StopsAt (stops.TooLarge r c) first = ⊥
StopsAt stops.Memory first = ⊤

-- the program has at most 600 rows, and at most 2,400 columns without the artificials
abbrev pub IsFitting : GivenRows → Type 0
IsFitting rows = (length rows.rows ≤ 600) × (column_count rows.kinds rows.rows ≤ 2400)

-- why the rows have no scaled program: too many rows or columns, before anything else; or else the first operation
-- that passes; or want of memory
abbrev pub IsStopOf : GivenRows → RowStop → Type 0
IsStopOf rows (stops.TooLarge r c) = (¬ (IsFitting rows)) × (r ≡ capped (length rows.rows)) × (c ≡ capped (column_count rows.kinds rows.rows))
IsStopOf rows (stops.Wide site) = IsFitting rows × IsFirstPassing rows site
IsStopOf rows stops.Memory = IsFitting rows

-- the rows and the objective row are made, and their forms list their unknowns rising
pub record AreWhole (rows : GivenRows) (w : WholeProgram) : Type 0 where
  pub sparse : All (λ r. IsSparseForm r.form) rows.rows
  pub sparse_cost : IsSparseForm rows.objective
  pub are : map (row_made (length rows.kinds)) rows.rows ≡ map Ok w.rows.items
  pub cost : cost_made (length rows.kinds) rows.objective ≡ Ok w.cost

-- no operation passes, and the program is made of the whole rows
pub record IsMade (rows : GivenRows) (q : Program) : Type 0 where
  pub fits : IsFitting rows
  pub sparse : All (λ r. IsSparseForm r.form) rows.rows
  pub sparse_cost : IsSparseForm rows.objective
  pub passes : passing_from 0 (rows_made rows) ≡ None
  pub integer : HasIntegerRows rows q.columns q.rows
  pub cost : WholeRow
  pub cost_is : cost_made (length rows.kinds) rows.objective ≡ Ok cost
  pub objective : IsCostOf q.columns (length rows.kinds) cost q.objective
  pub phase : phase_made (plain_count q.columns) (length q.columns) q.rows ≡ Ok q.phase
