-- The parts of a program of rows with fractions.
use Rattle.std.specs.Prelude.{List}
use Rattle.dcx_frac.specs.declared.fraction.Frac.{Frac}
use Rattle.dcx_linear.specs.declared.form.Form.{Form}
use Rattle.dcx_linear.specs.declared.row.Row.{Row}
use Rattle.dcx_linear.specs.declared.row.UnknownKind.{UnknownKind}

-- the kinds of the unknowns, the rows, and what is to be small
pub record GivenRows : Type 0 where
  pub kinds : List UnknownKind
  pub rows : List (Row Frac)
  pub objective : Form Frac

abbrev pub given : List UnknownKind → List (Row Frac) → Form Frac → GivenRows
given kinds rows objective = record { kinds = kinds; rows = rows; objective = objective }
