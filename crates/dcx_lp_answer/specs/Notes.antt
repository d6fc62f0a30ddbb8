-- The numbers of fractions, and what is kept of rows.
use Rattle.std.specs.Prelude.{Bool, List, map}
use Rattle.dcx_math.specs.Rational.{ℚ}
use Rattle.dcx_frac.specs.declared.fraction.Frac.{Frac}
use Rattle.dcx_frac.specs.Frac.{value}
use Rattle.dcx_tab.specs.declared.rows.IntRow.{IntRow}
use Rattle.dcx_lp_answer.specs.declared.answer.RowNote.{RowNote}

-- the numbers of fractions
abbrev pub numbers : List Frac → List ℚ
numbers fs = map value fs

abbrev pub reduced_cost_of : RowNote → ℚ
reduced_cost_of n = value n.reduced_cost

abbrev pub factor_of : RowNote → ℚ
factor_of n = value n.factor

abbrev pub was_negated : RowNote → Bool
was_negated n = n.negated

abbrev pub row_factor : IntRow → ℚ
row_factor r = value r.factor
