-- The sum so far leads by the rows that are left to the sum at the column.
use Rattle.std.proofs.Common.{◌≡◌, map, drop}
use Rattle.std.specs.Prelude.{filter}
use Rattle.dcx_math.specs.Rational.{whole}
use Rattle.dcx_atom.specs.Formed.{frac_at, sum_from}
use Rattle.dcx_std.specs.IntegerRows.{number_at, starts_artificial, column_sum}
use Rattle.dcx_std.proofs.phase.sum_at.Given as goal

abbrev pub invariant-rows : goal.invariant-rows
invariant-rows l = sum_from l.sum (map frac_at (map (λ r. whole (number_at l.column r)) (filter (starts_artificial l.plain) (drop l.row-index l.rows)))) ≡ column_sum l.plain l.rows l.column
