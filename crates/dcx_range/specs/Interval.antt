-- The values of a parameter at which the last basis stays feasible.
use Rattle.std.specs.Prelude.{◌≡◌, ⊤, ℕ, ◌<◌, ◌≤◌, nat_eq, if◌then◌else◌, List, length, Some, slice_get, pos}
use Rattle.dcx_math.specs.Rational.{ℚ, whole, ◌*ℚ◌, neg_ℚ, ◌≤ℚ◌}
use Rattle.dcx_math.specs.Sums.{rat_at}
use Rattle.dcx_frac.specs.Frac.{value}
use Rattle.dcx_call.specs.declared.attribute.Attribute.{Attribute}
use Rattle.dcx_call.specs.declared.attribute.Attribute.TheVariants.{Free, Nonneg, Nonpos, Symmetric, Diag}
use Rattle.dcx_linear.specs.declared.param_form.ParamForm.{ParamForm}
use Rattle.dcx_linear.specs.declared.row.Row.{Row}
use Rattle.dcx_linear.specs.Parameters.{Parameters}
use Rattle.dcx_linear.specs.ParamForms.{form_value}
use Rattle.dcx_tab.specs.declared.rows.IntRow.{IntRow}
use Rattle.dcx_tab.specs.declared.program.Program.{Program}
use Rattle.dcx_tab.specs.Program.{plain_count}
use Rattle.dcx_tab.specs.Table.{Table}
use Rattle.dcx_lp_answer.specs.Right.{turned_if, row_at_columns}
use Rattle.dcx_simplex.specs.Basis.{IsBasic}

-- ---- settings
-- the numbers of the parameters with another value of the one at position k
abbrev pub with_value : ℕ → ℚ → Parameters → Parameters
with_value k v s j e = if nat_eq j k then v else s j e

-- ---- the basis
-- a scaled program has a row for each of these rows; its columns at these numbers have the right sides that the rows have at a setting:
-- the row's constant taken to the right, times the factor, and turned where the integer row was negated
pub record SolvesAt (q : Program) (rows : List (Row ParamForm)) (s : Parameters) (zs : List ℚ) : Type 0 where
  pub count : length zs ≡ length q.columns
  pub each_row : (i : ℕ) (row : Row ParamForm) (int : IntRow) → slice_get rows i ≡ Some row → slice_get q.rows i ≡ Some int
      → row_at_columns q i zs ≡ turned_if int.negated (value int.factor *ℚ neg_ℚ (form_value row.form.constant s))

-- the basic columns of the tableau t at a setting, where every column outside the basis is 0: none is negative, and every artificial is 0
pub record StaysFeasible (q : Program) (t : Table) (rows : List (Row ParamForm)) (s : Parameters) : Type 0 where
  pub columns : List ℚ
  pub solves : SolvesAt q rows s columns
  pub outside : (j : ℕ) → j < length q.columns → ¬ (IsBasic t j) → rat_at columns j ≡ whole (pos 0)
  pub nonnegative : (j : ℕ) → j < length q.columns → whole (pos 0) ≤ℚ rat_at columns j
  pub artificial : (j : ℕ) → plain_count q.columns ≤ j → j < length q.columns → rat_at columns j ≡ whole (pos 0)

-- ---- the interval
-- the value is as the parameter's attribute says
abbrev pub HasSign : Attribute → ℚ → Type 0
HasSign Free v = ⊤
HasSign Nonneg v = whole (pos 0) ≤ℚ v
HasSign Nonpos v = v ≤ℚ whole (pos 0)
HasSign Symmetric v = ⊤
HasSign Diag v = ⊤

-- the values within the parameter's sign at which the last basis stays feasible, where the other parameters stay
pub record IsInInterval (q : Program) (t : Table) (rows : List (Row ParamForm)) (s : Parameters) (k : ℕ) (attribute : Attribute) (v : ℚ) : Type 0 where
  pub sign : HasSign attribute v
  pub feasible : StaysFeasible q t rows (with_value k v s)
