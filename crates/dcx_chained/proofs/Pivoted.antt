-- The rows after a pivot, and where it is wide.
use Rattle.std.proofs.Common.{◌≡◌, ◌≢◌, ℕ, ◌<◌, [], length, map, set, pos, arith, sym, ap, ◌∙◌, subst, inl, inr}
use Rattle.std.proofs.lemmas.Bool.{cases_eq}
use Rattle.std.proofs.lemmas.List.{length-map, length-set, get_or-set_same, get_or-set_other, get_or-map, ext_get_or}
use Rattle.dcx_tab.specs.Rows.{Row, row_at, entry}
use Rattle.dcx_tab.specs.Pivot.{turned, eliminated, pivoted, IsFormedAt, IsRowFormed, IsFirstWideAt, IsFirstWide, AllFormedAt, AllFormed}
use Rattle.dcx_tab.proofs.Wide.{first_is}
use Rattle.dcx_links.specs.Matrix.{Matrix, row_of}
use Rattle.dcx_chained.specs.Rows.{rows_of}
use Rattle.dcx_chained.proofs.RowReads.{length-row_of, length-rows_of, row_at-rows_of}

module _ (m n : Matrix) (r c : ℕ) (by : Row) (in_r : r < m.height) (same : n.height ≡ m.height) (is : by ≡ turned c (row_of m r))
    (others : (i : ℕ) → i < m.height → i ≢ r → row_of n i ≡ eliminated c by (row_of m i)) (at_r : row_of n r ≡ by) where
  length_all : length (set (map (eliminated c by) (rows_of m)) r by) ≡ m.height
  length_all = length-set (map (eliminated c by) (rows_of m)) r by ∙ length-map (rows_of m) (eliminated c by) ∙ length-rows_of m

  each : (i : ℕ) → i < m.height → row_of n i ≡ row_at (set (map (eliminated c by) (rows_of m)) r by) i
  each i lt = elim (cases_eq i r) [
    | inl e ↦
        let l = length-map (rows_of m) (eliminated c by) in
        let k = length-rows_of m in
        ap (row_of n) e ∙ at_r ∙ sym (ap (row_at (set (map (eliminated c by) (rows_of m)) r by)) e ∙ get_or-set_same (map (eliminated c by) (rows_of m)) r by [] (omega (arith, l, k, in_r)))
    | inr d ↦
        let k = length-rows_of m in
        others i lt d ∙ sym (get_or-set_other (map (eliminated c by) (rows_of m)) r i by [] d ∙ get_or-map (eliminated c by) (rows_of m) i [] [] (omega (arith, k, lt))
        ∙ ap (eliminated c by) (row_at-rows_of m i lt))
  ]

  pub rows_pivoted : rows_of n ≡ pivoted r c (rows_of m)
  rows_pivoted =
      let a : rows_of n ≡ set (map (eliminated c by) (rows_of m)) r by = ext_get_or [] (rows_of n) (set (map (eliminated c by) (rows_of m)) r by) (length-rows_of n ∙ same ∙ sym length_all)
      (λ i lt. let l = length-rows_of n in let i_in : i < n.height = omega (arith, lt, l) in row_at-rows_of n i i_in ∙ each i (omega (arith, i_in, same))) in
      a ∙ ap (λ (b : Row). set (map (eliminated c b) (rows_of m)) r b) (is ∙ ap (turned c) (sym (row_at-rows_of m r in_r)))

module _ (m : Matrix) (r c : ℕ) where
  pub all_formed : r < m.height → AllFormedAt (turned c (row_of m r)) r c (rows_of m) → AllFormed r c (rows_of m)
  all_formed in_r h = subst (λ b. AllFormedAt b r c (rows_of m)) (ap (turned c) (sym (row_at-rows_of m r in_r))) h

  pub first_wide_of : (i j : ℕ) → r < m.height → IsFirstWideAt (turned c (row_of m r)) r c (rows_of m) i j → IsFirstWide r c (rows_of m) i j
  first_wide_of i j in_r h = subst (λ b. IsFirstWideAt b r c (rows_of m) i j) (ap (turned c) (sym (row_at-rows_of m r in_r))) h

  -- each row by itself
  pub all_rows_formed : (by : Row) → ((i : ℕ) → i < m.height → i ≢ r → IsRowFormed c by (row_of m i)) → AllFormedAt by r c (rows_of m)
  all_rows_formed by h i lt d = let l = length-rows_of m in let i_in : i < m.height = omega (arith, lt, l) in subst (IsRowFormed c by) (sym (row_at-rows_of m i i_in)) (h i i_in d)

  pub rows_formed : (by : Row) → AllFormedAt by r c (rows_of m) → (i : ℕ) → i < m.height → i ≢ r → IsRowFormed c by (row_of m i)
  rows_formed by h i lt d = let l = length-rows_of m in subst (IsRowFormed c by) (row_at-rows_of m i lt) (h i (omega (arith, lt, l)) d)

  pub first_wide_at : (by : Row) (i j : ℕ) → i < m.height → i ≢ r → entry (row_of m i) c ≢ pos 0 → j < m.width → ¬ (IsFormedAt c by (row_of m i) j)
      → ((l : ℕ) → l < j → IsFormedAt c by (row_of m i) l) → ((k : ℕ) → k < i → k ≢ r → IsRowFormed c by (row_of m k)) → IsFirstWideAt by r c (rows_of m) i j
  first_wide_at by i j in_i other met in_j great first above =
      let e = sym (row_at-rows_of m i in_i) in
      let l = length-rows_of m in
      let w = length-row_of m i in
      first_is by r c (rows_of m) i j
      (λ k lt. subst (λ x. IsFormedAt c by x k) e (first k lt))
      (λ k lt d. subst (IsRowFormed c by) (sym (row_at-rows_of m k (omega (arith, lt, in_i)))) (above k lt d))
      (record {
        row = omega (arith, l, in_i);
        other = other;
        some = subst (λ x. entry x c ≢ pos 0) e met;
        column = subst (λ x. j < length x) e (omega (arith, w, in_j));
        great = subst (λ x. ¬ (IsFormedAt c by x j)) e great;
      })
