-- Rows as a linear program, and the unknowns that the columns of their scaled program stand for.
use Rattle.std.specs.Prelude.{ℕ, ◌≤◌, nat_eq, if◌then◌else◌, List, map, length, pos}
use Rattle.dcx_math.specs.Rational.{ℚ, whole, ◌+ℚ◌, ◌*ℚ◌}
use Rattle.dcx_math.specs.Sums.{rat_at, rat_sum_by, rat_sum_below}
use Rattle.dcx_frac.specs.declared.fraction.Frac.{Frac}
use Rattle.dcx_frac.specs.Frac.{value}
use Rattle.dcx_linear.specs.declared.form.Form.{Form}
use Rattle.dcx_linear.specs.declared.row.Row.{Row}
use Rattle.dcx_linear.specs.FormTerms.{Unknowns}
use Rattle.dcx_linear.specs.Rows.{RowAt, LinearProgram}
use Rattle.dcx_linear.specs.Widths.{form_width, rows_width}
use Rattle.dcx_tab.specs.declared.rows.ColumnKind.{ColumnKind}
use Rattle.dcx_tab.specs.declared.rows.ColumnKind.TheVariants.{Unknown, Slack, Artificial}
use Rattle.dcx_tab.specs.Program.{kind_at}
use Rattle.dcx_lp_answer.specs.Right.{turned_if}
use Rattle.dcx_std.specs.GivenRows.{GivenRows}

-- ---- rows as a linear program
-- the number of a form at unknowns
abbrev pub form_number : Form Frac → Unknowns → ℚ
form_number f x = value f.constant +ℚ rat_sum_by (λ t. value t.coefficient *ℚ x t.unknown) f.terms

abbrev pub row_at : Row Frac → RowAt
row_at r = record { kind = r.kind; number = form_number r.form }

-- the rows as a linear program
abbrev pub linear_program : GivenRows → LinearProgram
linear_program rows = record { kinds = rows.kinds; rows = map row_at rows.rows; objective = form_number rows.objective }

-- ---- the unknowns that columns stand for
-- what a column with this number adds to an unknown: the number, turned in the minus column
abbrev pub column_part : ℕ → ColumnKind → ℚ → ℚ
column_part u (Unknown v minus) z = if nat_eq v u then turned_if minus z else whole (pos 0)
column_part u (Slack r) z = whole (pos 0)
column_part u (Artificial r) z = whole (pos 0)

-- an unknown at numbers of the columns: a free one is the difference of its two columns
abbrev pub unknowns_at : List ColumnKind → List ℚ → Unknowns
unknowns_at columns zs u = rat_sum_below (length columns) (λ j. column_part u (kind_at columns j) (rat_at zs j))

-- the rows and what is to be small name unknowns of known kinds only
pub record HasKinds (rows : GivenRows) : Type 0 where
  pub rows_known : rows_width rows.rows ≤ length rows.kinds
  pub objective_known : form_width rows.objective ≤ length rows.kinds
