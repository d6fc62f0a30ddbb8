-- What a link says of the numbers of its line.
use Rattle.std.proofs.Common.{◌≡◌, ◌≢◌, ℕ, ◌+◌, ◌<◌, length, Some, refl, ◌∙◌, arith}
use Rattle.dcx_links.specs.declared.store.Store.{Store}
use Rattle.dcx_links.specs.Lines.{none, IsNext, Leads}
use Rattle.dcx_links.specs.Cells.{cell_at, IsAt, InRow, InColumn, IsSound, number_in}
use Rattle.dcx_links.specs.Views.{row_in, column_in}
use Rattle.dcx_links.specs.Walks.{IsOver, ComesNext}
use Rattle.dcx_links.proofs.Lines.{nothing_from, leads_on}
use Rattle.dcx_links.proofs.Listed.{length-listed}
use Rattle.dcx_links.proofs.Matrices.{number-row_in, number-column_in}
use Rattle.dcx_links.proofs.Numbers.{at_within, number_is, number_none}
use Rattle.dcx_links.proofs.Stores.{at_real, walk_here, walk_number, walk_beyond, walk_zeros, walk_ends}

module _ (s : Store) (sound : IsSound s) (row b link : ℕ) (next : IsNext (InRow s.cells.items) row b link) where
  pub row_over : link ≡ none → IsOver (record { numbers = row_in s row; from = b })
  row_over e = record { zeros = λ k le lt. number-row_in s sound row k ∙ walk_ends s.cells.items s.row_heads.items s.column_heads.items s.free sound row b link next e k le }

  pub row_comes : link ≢ none → ComesNext (record { numbers = row_in s row; from = b }) (record { at = (cell_at s.cells.items link).column; value = (cell_at s.cells.items link).value })
  row_comes d =
      let here = walk_here s.cells.items s.row_heads.items s.column_heads.items s.free sound row b link next d in
      record {
        beyond = walk_beyond s.cells.items s.row_heads.items s.column_heads.items s.free sound row b link next d;
        within = let z = sound.column_within link row (cell_at s.cells.items link).column here in let e = length-listed (length s.column_heads.items) (λ k. number_in s row k) in omega (arith, z, e);
        here = number-row_in s sound row (cell_at s.cells.items link).column ∙ walk_number s.cells.items s.row_heads.items s.column_heads.items s.free sound row b link next d;
        some = here.number;
        zeros = λ k le lt. number-row_in s sound row k ∙ walk_zeros s.cells.items s.row_heads.items s.column_heads.items s.free sound row b link next d k le lt;
      }

module _ (s : Store) (sound : IsSound s) (column b link : ℕ) (next : IsNext (InColumn s.cells.items) column b link) where
  real : (i m q : ℕ) → InColumn s.cells.items i m q → i < none
  real i m q at = at_real s.cells.items s.row_heads.items s.column_heads.items s.free sound i q m at

  leads : link ≢ none → Leads (InColumn s.cells.items) column b link
  leads d = leads_on (InColumn s.cells.items) column b b link next (omega arith) real d

  pub column_link_within : link ≢ none → link < length s.cells.items
  column_link_within d = at_within s.cells.items link (leads d).here.number

  here_at : link ≢ none → IsAt s.cells.items link (cell_at s.cells.items link).row column
  here_at d = let h = (leads d).here in record { number = h.number; in_row = refl; in_column = h.in_column }

  pub column_next : link ≢ none → IsNext (InColumn s.cells.items) column ((cell_at s.cells.items link).row + 1) (cell_at s.cells.items link).next_in_column
  column_next d = sound.columns_linked.linked column (Some link) ((cell_at s.cells.items link).row + 1) ((cell_at s.cells.items link).row, here_at d, refl)

  pub column_over : link ≡ none → IsOver (record { numbers = column_in s column; from = b })
  column_over e = record {
    zeros = λ k le lt. number-column_in s sound column k ∙ number_none s.cells.items k column (λ i at. let z = nothing_from (InColumn s.cells.items) column b b link next
        (omega arith) real e i k at in omega (arith, z, le));
  }

  pub column_comes : link ≢ none → ComesNext (record { numbers = column_in s column; from = b }) (record { at = (cell_at s.cells.items link).row; value = (cell_at s.cells.items link).value })
  column_comes d =
      let here = here_at d in
      let h = leads d in
      record {
        beyond = let e = h.here.in_row in let z = h.beyond in omega (arith, z, e);
        within = let z = sound.row_within link (cell_at s.cells.items link).row column here in let e = length-listed (length s.row_heads.items) (λ k. number_in s k column) in omega (arith, z, e);
        here = number-column_in s sound column (cell_at s.cells.items link).row ∙ number_is s.cells.items sound.one_cell link (cell_at s.cells.items link).row column here;
        some = here.number;
        zeros = λ k le lt. number-column_in s sound column k ∙ number_none s.cells.items k column (λ i at. let z = h.first i k at le in let e = h.here.in_row in omega (arith, z, e, lt));
      }
