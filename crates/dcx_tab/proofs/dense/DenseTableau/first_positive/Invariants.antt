-- No number so far is positive.
use Rattle.std.proofs.Common.{ℕ, ◌<◌, ◌≤ℤ◌, pos}
use Rattle.dcx_tab.specs.Table.{entry_at}
use Rattle.dcx_tab.specs.Views.{table_of}
use Rattle.dcx_tab.proofs.dense.DenseTableau.first_positive.Given as goal

abbrev pub invariant-columns : goal.invariant-columns
invariant-columns l = (k : ℕ) → k < l.c → entry_at (table_of l.self) l.row k ≤ℤ pos 0
