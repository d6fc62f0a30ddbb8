-- How many rows and columns the scaled program of rows has.
use Rattle.std.specs.Prelude.{ℕ, ◌+◌, sum_by, List}
use Rattle.dcx_frac.specs.declared.fraction.Frac.{Frac}
use Rattle.dcx_linear.specs.declared.row.Row.{Row}
use Rattle.dcx_linear.specs.declared.row.RowKind.{RowKind}
use Rattle.dcx_linear.specs.declared.row.RowKind.TheVariants.{AtMost, Equal}
use Rattle.dcx_linear.specs.declared.row.UnknownKind.{UnknownKind}
use Rattle.dcx_linear.specs.Size.{columns_for}

-- the slacks of a row: one where it is an inequality
abbrev pub slacks_for : RowKind → ℕ
slacks_for AtMost = 1
slacks_for Equal = 0

-- the columns of the unknowns, and the slacks
abbrev pub column_count : List UnknownKind → List (Row Frac) → ℕ
column_count kinds rows = sum_by columns_for kinds + sum_by (λ r. slacks_for r.kind) rows
