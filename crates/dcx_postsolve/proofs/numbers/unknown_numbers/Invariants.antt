-- The numbers so far, with those of the unknowns that are left, are all numbers; the columns that are left are there.
use Rattle.std.proofs.Common.{◌≡◌, ◌+◌, ◌≤◌, ◌++◌, map, length, drop}
use Rattle.std.specs.Prelude.{sum_by}
use Rattle.dcx_frac.specs.Frac.{value}
use Rattle.dcx_linear.specs.Size.{columns_for}
use Rattle.dcx_postsolve.specs.Numbers.{numbers_from, unknown_numbers, AreOneSidedFrom}
use Rattle.dcx_postsolve.proofs.numbers.unknown_numbers.Given as goal

abbrev pub invariant-kinds : goal.invariant-kinds
invariant-kinds l = record {
  numbers : map value l.numbers.items ++ numbers_from (map value l.columns) l.next (drop l.kind-index l.kinds) ≡ unknown_numbers l.kinds (map value l.columns);
  there : l.next + sum_by columns_for (drop l.kind-index l.kinds) ≤ length l.columns;
  one_sided : AreOneSidedFrom (map value l.columns) l.next (drop l.kind-index l.kinds);
}
