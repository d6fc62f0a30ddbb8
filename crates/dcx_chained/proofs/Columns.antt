-- What a walk along a column says of the rows.
use Rattle.std.proofs.Common.{◌≡◌, ◌≢◌, ℕ, ◌<◌, ◌≤◌, length, pos, sym, ap, ◌∙◌, arith}
use Rattle.dcx_tab.specs.Rows.{entry}
use Rattle.dcx_links.specs.declared.walk.Entry.{Entry}
use Rattle.dcx_links.specs.Matrix.{Matrix, number, row_of, column_of}
use Rattle.dcx_links.specs.Walks.{Walk, ComesNext, IsOver}
use Rattle.dcx_chained.proofs.RowReads.{length-column_of, entry-column_of, entry-row_of}

module _ (m : Matrix) (column : ℕ) (w : Walk) (e : Entry) (is : w.numbers ≡ column_of m column) (in_column : column < m.width) (next : ComesNext w e) where
  pub met_below : e.at < m.height
  met_below = let b = next.within in let l = length-column_of m column in let q = ap length is in omega (arith, b, l, q)

  row_reads : (i : ℕ) → i < m.height → entry (row_of m i) column ≡ number w.numbers i
  row_reads i lt = entry-row_of m i column in_column ∙ sym (entry-column_of m i column lt) ∙ sym (ap (λ ns. number ns i) is)

  -- the row has a number other than 0 in the column
  pub met_there : entry (row_of m e.at) column ≢ pos 0
  met_there z = next.some (sym next.here ∙ sym (row_reads e.at met_below) ∙ z)

  -- it is what the walk came to
  pub met_is : entry (row_of m e.at) column ≡ e.value
  met_is = row_reads e.at met_below ∙ next.here

  -- and the rows before it have none
  pub none_met : (i : ℕ) → w.from ≤ i → i < e.at → entry (row_of m i) column ≡ pos 0
  none_met i le lt = row_reads i (let b = met_below in omega (arith, b, lt)) ∙ next.zeros i le lt

-- where nothing is left of a walk, the rows that it hasn't passed have none
pub none_over : (m : Matrix) (column : ℕ) (w : Walk) → w.numbers ≡ column_of m column → column < m.width → IsOver w → (i : ℕ) → w.from ≤ i → i < m.height → entry (row_of m i) column ≡ pos 0
none_over m column w is in_column over i le lt =
    let l = length-column_of m column in
    let q = ap length is in
    entry-row_of m i column in_column ∙ sym (entry-column_of m i column lt) ∙ sym (ap (λ ns. number ns i) is) ∙ over.zeros i le (omega (arith, l, q, lt))
