-- The multiples of the entries so far are taken, and the link that the walk has come to comes from before the columns of the others.
use Rattle.std.proofs.Common.{◌≡◌, ◌≢◌, ℕ, ◌<◌, ◌≤◌, length, ◌-ℤ◌, ◌*ℤ◌, vec_capacity}
use Rattle.dcx_links.specs.Lines.{none, IsFrom, link_of}
use Rattle.dcx_links.specs.Cells.{head_at, InRow, next_in_row_at, bound_in_row, IsSound, number_in}
use Rattle.dcx_links.specs.Entries.{column_at, value_at}
use Rattle.dcx_links.proofs.multiple.lessen_by.Given as goal

abbrev pub invariant-entries : goal.invariant-entries
invariant-entries l = record {
  sound : IsSound l.store;
  rows : length l.store.row_heads.items ≡ length l.initial.store.row_heads.items;
  columns : length l.store.column_heads.items ≡ length l.initial.store.column_heads.items;
  near : length l.near ≡ length l.initial.near;
  from : IsFrom (InRow l.store.cells.items) l.row l.spot.from (bound_in_row l.store.cells.items l.spot.from);
  link : l.spot.link ≡ link_of (head_at l.store.row_heads.items) (next_in_row_at l.store.cells.items) l.row l.spot.from;
  ready : l.store.free ≡ none → vec_capacity l.store.cells ≤ length l.store.cells.items;
  before : (k : ℕ) → l.k ≤ k → k < l.count → bound_in_row l.store.cells.items l.spot.from ≤ column_at l.entries k;
  there : (k : ℕ) → k < l.k → number_in l.store l.row (column_at l.entries k) ≡ number_in l.initial.store l.row (column_at l.entries k) -ℤ l.by *ℤ value_at l.entries k;
  same : (r c : ℕ) → (r ≡ l.row → (k : ℕ) → k < l.k → c ≢ column_at l.entries k) → number_in l.store r c ≡ number_in l.initial.store r c;
}
