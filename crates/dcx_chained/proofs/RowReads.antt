-- The rows of a matrix, entry by entry.
use Rattle.std.proofs.Common.{◌≡◌, ℕ, ◌<◌, inl, inr, [], length, sym, ap, ◌∙◌, arith, pos}
use Rattle.std.proofs.lemmas.Bool.{cases_lt}
use Rattle.std.proofs.lemmas.List.{ext_get_or, get_or_past}
use Rattle.dcx_tab.specs.Rows.{Row, entry, row_at}
use Rattle.dcx_links.specs.Matrix.{Matrix, listed, number_at, row_of, column_of}
use Rattle.dcx_links.proofs.Listed.{length-listed, get_or-listed, listed_same}
use Rattle.dcx_chained.specs.Rows.{rows_of}

pub length-row_of : (m : Matrix) (i : ℕ) → length (row_of m i) ≡ m.width
length-row_of m i = length-listed m.width (λ j. number_at m i j)

pub entry-row_of : (m : Matrix) (i j : ℕ) → j < m.width → entry (row_of m i) j ≡ number_at m i j
entry-row_of m i j lt = get_or-listed m.width (λ k. number_at m i k) j (pos 0) lt

-- a row of a matrix of zeros
pub zeros-row_of : (m : Matrix) (i : ℕ) → ((j : ℕ) → number_at m i j ≡ pos 0) → (j : ℕ) → entry (row_of m i) j ≡ pos 0
zeros-row_of m i zeros j = elim (cases_lt j m.width) [
  | inl lt ↦ entry-row_of m i j lt ∙ zeros j
  | inr past ↦ get_or_past (row_of m i) j (pos 0) (let l = length-row_of m i in omega (arith, l, past))
]

pub length-column_of : (m : Matrix) (j : ℕ) → length (column_of m j) ≡ m.height
length-column_of m j = length-listed m.height (λ i. number_at m i j)

pub entry-column_of : (m : Matrix) (i j : ℕ) → i < m.height → entry (column_of m j) i ≡ number_at m i j
entry-column_of m i j lt = get_or-listed m.height (λ k. number_at m k j) i (pos 0) lt

pub length-rows_of : (m : Matrix) → length (rows_of m) ≡ m.height
length-rows_of m = length-listed m.height (λ i. row_of m i)

pub row_at-rows_of : (m : Matrix) (i : ℕ) → i < m.height → row_at (rows_of m) i ≡ row_of m i
row_at-rows_of m i lt = get_or-listed m.height (λ k. row_of m k) i [] lt

-- a row with the entries of another list
pub row_is : (m : Matrix) (i : ℕ) (xs : Row) → length xs ≡ m.width → ((j : ℕ) → j < m.width → number_at m i j ≡ entry xs j) → row_of m i ≡ xs
row_is m i xs e h = ext_get_or (pos 0) (row_of m i) xs (length-row_of m i ∙ sym e) (λ j lt. let l = length-row_of m i in let j_in : j < m.width = omega
    (arith, lt, l) in entry-row_of m i j j_in ∙ h j j_in)

-- a row that stays
pub row_same : (m n : Matrix) (i : ℕ) → n.width ≡ m.width → ((j : ℕ) → number_at n i j ≡ number_at m i j) → row_of n i ≡ row_of m i
row_same m n i e h = listed_same n.width (λ j. number_at n i j) (λ j. number_at m i j) (λ j lt. h j) ∙ ap (λ w. listed w (λ j. number_at m i j)) e

-- the number in one of two equal rows
pub number_of_row : (m n : Matrix) (i k j : ℕ) → j < m.width → j < n.width → row_of m i ≡ row_of n k → number_at m i j ≡ number_at n k j
number_of_row m n i k j a b e = sym (entry-row_of m i j a) ∙ ap (λ (r : Row). entry r j) e ∙ entry-row_of n k j b
