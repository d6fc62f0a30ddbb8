-- The sums so far, followed by those at the columns that are left, are all.
use Rattle.std.proofs.Common.{◌≡◌, ◌-◌, map}
use Rattle.std.specs.List.{range_with_len}
use Rattle.dcx_linear.proofs.Formed.{after}
use Rattle.dcx_std.specs.WholeRows.{numerators}
use Rattle.dcx_std.specs.IntegerRows.{column_sum}
use Rattle.dcx_std.proofs.phase.sums.Given as goal

abbrev pub invariant-columns : goal.invariant-columns
invariant-columns l =
    after l.sums.items (numerators (map (column_sum l.plain l.rows) (range_with_len l.column (l.plain - l.column)))) ≡ numerators (map (column_sum l.plain l.rows) (range_with_len 0 l.plain))
