-- The numbers so far are divided, and the others are as before.
use Rattle.std.proofs.Common.{◌≡◌, ◌≢◌, ℕ, ◌<◌, ◌≤◌, ◌-◌, length, unsigned_abs}
use Rattle.dcx_math.specs.Divisors.{divided}
use Rattle.dcx_links.specs.Lines.{IsNext}
use Rattle.dcx_links.specs.Cells.{InRow, IsSound, number_in}
use Rattle.dcx_links.proofs.rewrite.divide_row.Given as goal

abbrev pub invariant-cells : goal.invariant-cells
invariant-cells l = record {
  sound : IsSound l.store;
  rows : length l.store.row_heads.items ≡ length l.initial.store.row_heads.items;
  columns : length l.store.column_heads.items ≡ length l.initial.store.column_heads.items;
  next : IsNext (InRow l.store.cells.items) l.row l.from l.link;
  done : (c : ℕ) → c < l.from → number_in l.store l.row c ≡ divided (unsigned_abs l.by) (number_in l.initial.store l.row c);
  left : (c : ℕ) → l.from ≤ c → number_in l.store l.row c ≡ number_in l.initial.store l.row c;
  same : (r c : ℕ) → r ≢ l.row → number_in l.store r c ≡ number_in l.initial.store r c;
}

abbrev pub decreases-cells : goal.decreases-cells
decreases-cells l = length l.store.column_heads.items - l.from
