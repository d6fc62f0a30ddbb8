-- What the scaled program of rows has to do with them, over exact fractions.
use Rattle.std.specs.Prelude.{◌≡◌, ℕ, ◌<◌, Bool, List, map, length, Some, slice_get}
use Rattle.dcx_math.specs.Rational.{whole, ◌*ℚ◌, neg_ℚ}
use Rattle.dcx_frac.specs.declared.fraction.Frac.{Frac}
use Rattle.dcx_frac.specs.Frac.{value}
use Rattle.dcx_linear.specs.declared.form.Form.{Form}
use Rattle.dcx_linear.specs.declared.row.Row.{Row}
use Rattle.dcx_tab.specs.declared.rows.ColumnKind.{ColumnKind}
use Rattle.dcx_tab.specs.declared.rows.ColumnKind.TheVariants.{Unknown}
use Rattle.dcx_tab.specs.declared.rows.IntRow.{IntRow}
use Rattle.dcx_tab.specs.declared.rows.CostRow.{CostRow}
use Rattle.dcx_tab.specs.declared.program.Program.{Program}
use Rattle.dcx_tab.specs.Rows.{entry}
use Rattle.dcx_tab.specs.Program.{kind_at}
use Rattle.dcx_lp_answer.specs.Right.{turned_if}
use Rattle.dcx_std.specs.declared.start.Start.{Start}
use Rattle.dcx_std.specs.GivenRows.{GivenRows}
use Rattle.dcx_std.specs.WholeRows.{coefficient_at, IsSparseForm}
use Rattle.dcx_std.specs.Columns.{columns_of}

-- the row of fractions, its constant taken to the right, times the factor, and turned where it was negated, which is
-- where its right side was below 0
pub record IsScaledRow (columns : List ColumnKind) (row : Row Frac) (r : IntRow) : Type 0 where
  pub sparse : IsSparseForm row.form
  pub unknown : (j u : ℕ) (minus : Bool) → j < length columns → kind_at columns j ≡ Unknown u minus
      → whole (entry r.entries j) ≡ turned_if r.negated (value r.factor *ℚ turned_if minus (value (coefficient_at row.form.terms u)))
  pub right : whole r.right ≡ turned_if r.negated (value r.factor *ℚ neg_ℚ (value row.form.constant))

-- the row z - cost = constant, times the positive entry of z
pub record IsScaledCost (columns : List ColumnKind) (cost : Form Frac) (c : CostRow) : Type 0 where
  pub sparse : IsSparseForm cost
  pub unknown : (j u : ℕ) (minus : Bool) → j < length columns → kind_at columns j ≡ Unknown u minus
      → whole (entry c.entries j) ≡ neg_ℚ (whole c.lead *ℚ turned_if minus (value (coefficient_at cost.terms u)))
  pub right : whole c.right ≡ whole c.lead *ℚ value cost.constant

-- the program q has the columns and the rows of these rows, each times its factor
pub record IsScaledProgram (rows : GivenRows) (q : Program) : Type 0 where
  pub starts : List Start
  pub columns : q.columns ≡ columns_of rows.kinds starts
  pub kinds : map (λ s. s.kind) starts ≡ map (λ r. r.kind) rows.rows
  pub count : length q.rows ≡ length rows.rows
  pub each_row : (i : ℕ) (row : Row Frac) (r : IntRow) → slice_get rows.rows i ≡ Some row → slice_get q.rows i ≡ Some r → IsScaledRow q.columns row r
  pub cost : IsScaledCost q.columns rows.objective q.objective
