-- Where as many columns are listed as there are rows, and all of them are basic, no other column is.
use Rattle.std.proofs.Common.{◌≡◌, ◌≢◌, ℕ, suc, ◌+◌, ◌<◌, ◌≤◌, List, length, get_or, arith, refl, sym, ap, ◌∙◌, ◌⊎◌, inl, inr}
use Rattle.std.proofs.lemmas.Bool.{cases_lt}
use Rattle.dcx_tab.specs.Rows.{basic_at}
use Rattle.dcx_tab.specs.Table.{Table}
use Rattle.dcx_math.proofs.Pigeons.{pigeons}
use Rattle.dcx_warm.specs.Install.{IsColumnList, AllBasic}

module _ (columns : List ℕ) (t : Table) (list : IsColumnList t.plain columns) (count : length columns + 2 ≡ length t.rows) (all : AllBasic columns t) where
  -- the row of the listed column k, and row i past the end
  abbrev pub row_by : (i k : ℕ) → (k < length columns) ⊎ (length columns ≤ k) → ℕ
  row_by i k (inl h) = (all (get_or columns k 0) (k, h, refl)).0
  row_by i k (inr h) = i

  below_by : (i : ℕ) → i + 2 < length t.rows → (k : ℕ) (d : (k < length columns) ⊎ (length columns ≤ k)) → row_by i k d < length columns
  below_by i l k (inl h) = let b = (all (get_or columns k 0) (k, h, refl)).1 in omega (arith, b, count)
  below_by i l k (inr h) = omega (arith, l, count)

  apart_by : (i : ℕ) → t.plain ≤ basic_at t.basis i → (k j : ℕ) → k < j → j < suc (length columns)
      → (d : (k < length columns) ⊎ (length columns ≤ k)) (e : (j < length columns) ⊎ (length columns ≤ j)) → row_by i k d ≢ row_by i j e
  apart_by i high k j l m (inl h) (inl g) same =
      let x = (all (get_or columns k 0) (k, h, refl)).2 in
      let y = (all (get_or columns j 0) (j, g, refl)).2 in
      let q = list.apart k j h g (sym x ∙ ap (basic_at t.basis) same ∙ y) in
      absurd (omega (arith, l, q))
  apart_by i high k j l m (inl h) (inr g) same =
      let x = (all (get_or columns k 0) (k, h, refl)).2 in
      let low = list.below (basic_at t.basis i) (k, h, sym x ∙ ap (basic_at t.basis) same) in
      absurd (omega (arith, low, high))
  apart_by i high k j l m (inr h) e same = absurd (omega (arith, h, l, m))

  high_none : (i : ℕ) → i + 2 < length t.rows → t.plain ≤ basic_at t.basis i → ⊥
  high_none i l high =
      let n = length columns in
      let p = pigeons n (suc n) (λ k. row_by i k (cases_lt k n)) (λ k h. below_by i l k (cases_lt k n)) (λ k j h g. apart_by i high k j h g (cases_lt k n) (cases_lt j n)) in
      absurd (omega (arith, p))

  plain_or : (i : ℕ) → i + 2 < length t.rows → (basic_at t.basis i < t.plain) ⊎ (t.plain ≤ basic_at t.basis i) → basic_at t.basis i < t.plain
  plain_or i l (inl h) = h
  plain_or i l (inr h) = absurd (high_none i l h)

  pub all_plain : (i : ℕ) → i + 2 < length t.rows → basic_at t.basis i < t.plain
  all_plain i l = plain_or i l (cases_lt (basic_at t.basis i) t.plain)
