-- The numbers that are read at the tableau of the last basis.
use Rattle.std.specs.Prelude.{◌≡◌, ℕ, ◌+◌, ◌<◌, List, [], map, length, pos}
use Rattle.dcx_math.specs.Rational.{ℚ, whole, neg_ℚ, ◌/ℚ◌}
use Rattle.dcx_math.specs.Sums.{rat_at}
use Rattle.dcx_frac.specs.Frac.{value}
use Rattle.dcx_tab.specs.declared.rows.ColumnKind.{ColumnKind}
use Rattle.dcx_tab.specs.declared.rows.ColumnKind.TheVariants.{Slack, Artificial}
use Rattle.dcx_tab.specs.declared.rows.IntRow.{IntRow}
use Rattle.dcx_tab.specs.Rows.{basic_at}
use Rattle.dcx_tab.specs.Table.{Table, entry_at}
use Rattle.dcx_tab.specs.Program.{kind_at, is_negated}
use Rattle.dcx_lp_answer.specs.declared.answer.LpStatus.{LpStatus}
use Rattle.dcx_lp_answer.specs.declared.answer.LpStatus.TheVariants as status
use Rattle.dcx_lp_answer.specs.declared.answer.LpAnswer.{LpAnswer}
use Rattle.dcx_simplex.specs.declared.run.LpEnd.{LpEnd}
use Rattle.dcx_simplex.specs.declared.run.LpEnd.TheVariants as lp
use Rattle.dcx_lp_answer.specs.Notes.{numbers, reduced_cost_of, factor_of, was_negated, row_factor}
use Rattle.dcx_simplex.specs.Run.{right_at}
use Rattle.dcx_simplex.specs.Basis.{IsBasic, lead_at}
use Rattle.dcx_simplex.specs.Whole.{objective_row, phase_row}

-- ---- at a tableau
-- a basic column's number is its row's right side over its entry, every other column's is 0
pub record IsColumnNumber (t : Table) (j : ℕ) (x : ℚ) : Type 0 where
  pub basic : (i : ℕ) → i + 2 < length t.rows → basic_at t.basis i ≡ j → x ≡ whole (right_at t i) /ℚ whole (entry_at t i j)
  pub other : ¬ (IsBasic t j) → x ≡ whole (pos 0)

-- the change of column j for one unit of column c, where c enters
pub record IsColumnChange (t : Table) (c j : ℕ) (x : ℚ) : Type 0 where
  pub own : j ≡ c → x ≡ whole (pos 1)
  pub basic : (i : ℕ) → i + 2 < length t.rows → basic_at t.basis i ≡ j → x ≡ neg_ℚ (whole (entry_at t i c) /ℚ whole (entry_at t i j))
  pub other : ¬ (IsBasic t j) → ¬ (j ≡ c) → x ≡ whole (pos 0)

-- the cost that a row of costs shows
abbrev pub cost_at : Table → ℕ → ℚ
cost_at t cost = whole (right_at t cost) /ℚ whole (lead_at t cost)

abbrev pub reduced_cost_at : Table → ℕ → ℕ → ℚ
reduced_cost_at t cost j = neg_ℚ (whole (entry_at t cost j) /ℚ whole (lead_at t cost))

-- column j is the slack of row i, or the artificial of a row that has no slack
pub record IsOwnColumn (kinds : List ColumnKind) (i j : ℕ) : Type 0 where
  pub kind : ¬ (kind_at kinds j ≡ Slack i) → kind_at kinds j ≡ Artificial i
  pub first : (k : ℕ) → kind_at kinds k ≡ Slack i → kind_at kinds j ≡ Slack i

-- the row of costs that is read
abbrev pub read_row : LpStatus → Table → ℕ
read_row status.Optimal t = objective_row t
read_row status.Infeasible t = phase_row t
read_row status.Unbounded t = objective_row t

-- the numbers of an end of this status
pub record IsReading (rows : List IntRow) (kinds : List ColumnKind) (t : Table) (s : LpStatus) (a : LpAnswer) : Type 0 where
  pub status : a.status ≡ s
  pub columns : length a.columns ≡ length kinds
  pub column : (j : ℕ) → j < length kinds → IsColumnNumber t j (rat_at (numbers a.columns) j)
  pub number : value a.number ≡ cost_at t (read_row s t)
  pub notes : length a.rows ≡ length rows
  pub reduced_costs : (i j : ℕ) → i < length rows → IsOwnColumn kinds i j → rat_at (map reduced_cost_of a.rows) i ≡ reduced_cost_at t (read_row s t) j
  pub factors : map factor_of a.rows ≡ map row_factor rows
  pub negated : map was_negated a.rows ≡ map is_negated rows

-- the ray of column c
pub record IsRayReading (kinds : List ColumnKind) (t : Table) (c : ℕ) (a : LpAnswer) : Type 0 where
  pub ray : length a.ray ≡ length kinds
  pub change : (j : ℕ) → j < length kinds → IsColumnChange t c j (rat_at (numbers a.ray) j)
  pub slope : value a.slope ≡ whole (entry_at t (objective_row t) c) /ℚ whole (lead_at t (objective_row t))

-- there is no ray
pub record HasNoRay (a : LpAnswer) : Type 0 where
  pub ray : a.ray ≡ []
  pub slope : value a.slope ≡ whole (pos 0)

-- the answer has the numbers of this end
abbrev pub IsRead : List IntRow → List ColumnKind → Table → LpEnd → LpAnswer → Type 0
IsRead rows kinds t (lp.Optimal n) a = IsReading rows kinds t status.Optimal a × HasNoRay a
IsRead rows kinds t (lp.Infeasible n) a = IsReading rows kinds t status.Infeasible a × HasNoRay a
IsRead rows kinds t (lp.Unbounded n c) a = IsReading rows kinds t status.Unbounded a × IsRayReading kinds t c a
IsRead rows kinds t (lp.Wide n r c) a = ⊥
IsRead rows kinds t (lp.PivotLimit n) a = ⊥
