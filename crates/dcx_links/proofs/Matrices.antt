-- The matrix that the cells hold has their numbers.
use Rattle.std.proofs.Common.{◌≡◌, ℕ, ◌≤◌, inl, inr, [], length, sym, ap, ◌∙◌, arith, pos}
use Rattle.std.proofs.lemmas.Bool.{cases_lt}
use Rattle.std.proofs.lemmas.List.{get_or_past}
use Rattle.dcx_links.specs.declared.store.Store.{Store}
use Rattle.dcx_links.specs.Cells.{number_in, IsSound}
use Rattle.dcx_links.specs.Matrix.{listed, number, number_at, row_of, column_of}
use Rattle.dcx_links.specs.Views.{row_in, column_in, matrix_of}
use Rattle.dcx_links.proofs.Listed.{length-listed, get_or-listed, listed_same}
use Rattle.dcx_links.proofs.Numbers.{number_none}

module _ (s : Store) (sound : IsSound s) where
  pub number-row_in : (r c : ℕ) → number (row_in s r) c ≡ number_in s r c
  number-row_in r c = elim (cases_lt c (length s.column_heads.items)) [
    | inl lt ↦ get_or-listed (length s.column_heads.items) (λ k. number_in s r k) c (pos 0) lt
    | inr past ↦
        let l : length (row_in s r) ≤ c = let e = length-listed (length s.column_heads.items) (λ k. number_in s r k) in omega (arith, e, past) in
        get_or_past (row_in s r) c (pos 0) l ∙ sym (number_none s.cells.items r c (λ i at. let z = sound.column_within i r c at in omega (arith, z, past)))
  ]

  pub number-column_in : (c r : ℕ) → number (column_in s c) r ≡ number_in s r c
  number-column_in c r = elim (cases_lt r (length s.row_heads.items)) [
    | inl lt ↦ get_or-listed (length s.row_heads.items) (λ k. number_in s k c) r (pos 0) lt
    | inr past ↦
        let l : length (column_in s c) ≤ r = let e = length-listed (length s.row_heads.items) (λ k. number_in s k c) in omega (arith, e, past) in
        get_or_past (column_in s c) r (pos 0) l ∙ sym (number_none s.cells.items r c (λ i at. let z = sound.row_within i r c at in omega (arith, z, past)))
  ]

  pub number_at-matrix_of : (r c : ℕ) → number_at (matrix_of s) r c ≡ number_in s r c
  number_at-matrix_of r c = elim (cases_lt r (length s.row_heads.items)) [
    | inl lt ↦ ap (λ line. number line c) (get_or-listed (length s.row_heads.items) (λ k. row_in s k) r [] lt) ∙ number-row_in r c
    | inr past ↦
        let l : length (listed (length s.row_heads.items) (λ k. row_in s k)) ≤ r = let e = length-listed (length s.row_heads.items) (λ k. row_in s k) in omega (arith, e, past) in
        ap (λ line. number line c) (get_or_past (listed (length s.row_heads.items) (λ k. row_in s k)) r [] l)
        ∙ sym (number_none s.cells.items r c (λ i at. let z = sound.row_within i r c at in omega (arith, z, past)))
  ]

  pub row_of-matrix_of : (r : ℕ) → row_in s r ≡ row_of (matrix_of s) r
  row_of-matrix_of r = listed_same (length s.column_heads.items) (λ c. number_in s r c) (λ c. number_at (matrix_of s) r c) (λ c lt. sym (number_at-matrix_of r c))

  pub column_of-matrix_of : (c : ℕ) → column_in s c ≡ column_of (matrix_of s) c
  column_of-matrix_of c = listed_same (length s.row_heads.items) (λ r. number_in s r c) (λ r. number_at (matrix_of s) r c) (λ r lt. sym (number_at-matrix_of r c))
