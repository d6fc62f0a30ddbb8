-- What is found at a spot.
use Rattle.std.proofs.Common.{◌≡◌, ◌≢◌, ℕ, ◌+◌, ◌<◌, ◌≤◌, List, length, get_or, Option, Some, refl, sym, ◌∙◌, arith, pos}
use Rattle.std.proofs.lemmas.Option.{slice_get_read, get_or_from_slice_get}
use Rattle.dcx_links.specs.declared.store.Cell.{Cell}
use Rattle.dcx_links.specs.Lines.{none, IsNext, Leads, IsSpot, AreApart}
use Rattle.dcx_links.specs.Cells.{cell_at, IsAt, InRow, InColumn, IsStore, cell_number, blank}
use Rattle.dcx_links.proofs.Lines.{nothing_from, leads_on}
use Rattle.dcx_links.proofs.Numbers.{at_within, number_is, number_none}

pub cell_read : (cells : List Cell) (i : ℕ) (x : Cell) → i < length cells → x ≡ get_or cells i x → x ≡ cell_at cells i
cell_read cells i x lt e = sym (get_or_from_slice_get cells i x blank (slice_get_read cells (length cells) i x refl lt e))

-- a spot of a row, or of a column
module _ (At : ℕ → ℕ → ℕ → Type 0) (real : (i m q : ℕ) → At i m q → i < none) (l c : ℕ) (s : Option ℕ) (b link : ℕ) (spot : IsSpot At l c s b link) where
  spot_leads : link ≢ none → Leads At l b link
  spot_leads d = leads_on At l b c link spot.next spot.within real d

  spot_none : link ≡ none → (i : ℕ) → ¬ At i l c
  spot_none e i at = let z = nothing_from At l b c link spot.next spot.within real e i c at in let y = spot.within in omega (arith, z, y)

  spot_other : (d : link ≢ none) → (spot_leads d).position ≢ c → (i : ℕ) → ¬ At i l c
  spot_other d e i at =
      let h = spot_leads d in
      let z = h.first i c at spot.within in
      let y = spot.gap link h.position h.here h.beyond in
      e (omega (arith, z, y))

module _ (cells : List Cell) (rh ch : List ℕ) (free : ℕ) (store : IsStore cells rh ch free) where
  pub at_real : (i m q : ℕ) → IsAt cells i m q → i < none
  at_real i m q at = let z = at_within cells i at.number in let y = store.few in omega (arith, z, y)

  pub row_apart : AreApart (InRow cells)
  row_apart = record {
    one_line = λ i l m q p h k. sym h.in_row ∙ k.in_row;
    one_position = λ i l m q p h k. sym h.in_column ∙ k.in_column;
    one_cell = λ i j l q h k. store.one_cell i j l q h k;
    real = λ i l q h. at_real i l q h;
  }

  pub column_apart : AreApart (InColumn cells)
  column_apart = record {
    one_line = λ i l m q p h k. sym h.in_column ∙ k.in_column;
    one_position = λ i l m q p h k. sym h.in_row ∙ k.in_row;
    one_cell = λ i j l q h k. store.one_cell i j q l h k;
    real = λ i l q h. at_real i q l h;
  }

  module _ (row column : ℕ) (s : Option ℕ) (b link : ℕ) (spot : IsSpot (InRow cells) row column s b link) where
    pub empty_none : link ≡ none → (i : ℕ) → ¬ IsAt cells i row column
    empty_none e = spot_none (InRow cells) at_real row column s b link spot e

    leads : link ≢ none → Leads (InRow cells) row b link
    leads d = spot_leads (InRow cells) at_real row column s b link spot d

    pub link_within : link ≢ none → link < length cells
    link_within d = at_within cells link (leads d).here.number

    pub found : link ≢ none → (cell_at cells link).column ≡ column → IsAt cells link row column
    found d e = let h = (leads d).here in record { number = h.number; in_row = h.in_row; in_column = e }

    pub empty_other : link ≢ none → (cell_at cells link).column ≢ column → (i : ℕ) → ¬ IsAt cells i row column
    unfolding leads spot_leads
    empty_other d e = spot_other (InRow cells) at_real row column s b link spot d (λ q. e ((leads d).here.in_column ∙ q))

    pub number_found : link ≢ none → (cell_at cells link).column ≡ column → (cell_at cells link).value ≡ cell_number cells row column
    number_found d e = sym (number_is cells store.one_cell link row column (found d e))

  module _ (row column : ℕ) (s : Option ℕ) (b link : ℕ) (spot : IsSpot (InColumn cells) column row s b link) where
    real_below : (i m q : ℕ) → InColumn cells i m q → i < none
    real_below i m q at = at_real i q m at

    pub empty_none_below : link ≡ none → (i : ℕ) → ¬ IsAt cells i row column
    empty_none_below e = spot_none (InColumn cells) real_below column row s b link spot e

    leads_below : link ≢ none → Leads (InColumn cells) column b link
    leads_below d = spot_leads (InColumn cells) real_below column row s b link spot d

    pub link_within_below : link ≢ none → link < length cells
    link_within_below d = at_within cells link (leads_below d).here.number

    pub empty_other_below : link ≢ none → (cell_at cells link).row ≢ row → (i : ℕ) → ¬ IsAt cells i row column
    unfolding leads_below spot_leads
    empty_other_below d e = spot_other (InColumn cells) real_below column row s b link spot d (λ q. e ((leads_below d).here.in_row ∙ q))

    pub number_found_below : link ≢ none → (cell_at cells link).row ≡ row → (cell_at cells link).value ≡ cell_number cells row column
    number_found_below d e = let h = (leads_below d).here in sym (number_is cells store.one_cell link row column (record { number = h.number; in_row = e; in_column = h.in_column }))

  -- a walk along a row
  module _ (row b link : ℕ) (next : IsNext (InRow cells) row b link) where
    pub walk_leads : link ≢ none → Leads (InRow cells) row b link
    walk_leads d = leads_on (InRow cells) row b b link next (omega arith) at_real d

    pub walk_within : link ≢ none → link < length cells
    walk_within d = at_within cells link (walk_leads d).here.number

    pub walk_here : link ≢ none → IsAt cells link row (cell_at cells link).column
    walk_here d = let h = (walk_leads d).here in record { number = h.number; in_row = h.in_row; in_column = refl }

    pub walk_number : link ≢ none → cell_number cells row (cell_at cells link).column ≡ (cell_at cells link).value
    walk_number d = number_is cells store.one_cell link row (cell_at cells link).column (walk_here d)

    pub walk_beyond : link ≢ none → b ≤ (cell_at cells link).column
    walk_beyond d = let h = walk_leads d in let e = h.here.in_column in let z = h.beyond in omega (arith, z, e)

    pub walk_next : link ≢ none → IsNext (InRow cells) row ((cell_at cells link).column + 1) (cell_at cells link).next_in_row
    walk_next d = store.rows_linked.linked row (Some link) ((cell_at cells link).column + 1) ((cell_at cells link).column, walk_here d, refl)

    pub walk_zeros : link ≢ none → (c : ℕ) → b ≤ c → c < (cell_at cells link).column → cell_number cells row c ≡ pos 0
    walk_zeros d c le lt = number_none cells row c (λ i at. let h = walk_leads d in let z = h.first i c at le in let e = h.here.in_column in omega (arith, z, e, lt))

    pub walk_ends : link ≡ none → (c : ℕ) → b ≤ c → cell_number cells row c ≡ pos 0
    walk_ends e c le = number_none cells row c (λ i at. let z = nothing_from (InRow cells) row b b link next (omega arith) at_real e i c at in omega (arith, z, le))
