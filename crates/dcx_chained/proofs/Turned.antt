-- A row that is negated where its entry at a column is negative.
use Rattle.std.proofs.Common.{◌≡◌, ℕ, ◌<◌, ◌^◌, ℤ, pos, negsuc, ◌*ℤ◌, ◌≤ℤ◌, unsigned_abs, arith, refl, sym, ap, ◌∙◌}
use Rattle.std.proofs.lemmas.Int.{ints}
use Rattle.dcx_math.specs.IntegerSums.{int_scaled}
use Rattle.dcx_math.proofs.IntegerLaws.{unsigned_abs-*ℤ}
use Rattle.dcx_math.proofs.IntegerVectors.{length-int_scaled}
use Rattle.dcx_tab.specs.Rows.{Row, entry}
use Rattle.dcx_tab.specs.Pivot.{turned, turned_by}
use Rattle.dcx_tab.proofs.RowLaws.{entry-scaled}
use Rattle.dcx_links.specs.Matrix.{Matrix, number_at, row_of}
use Rattle.dcx_chained.proofs.RowReads.{length-row_of, entry-row_of, row_is}

pub turned_positive : (c : ℕ) (row : Row) → pos 0 ≤ℤ entry row c → row ≡ turned c row
turned_positive c row h = by (entry row c) h
  where
    by : (z : ℤ) → pos 0 ≤ℤ z → row ≡ turned_by z row
    by (pos n) h = refl
    by (negsuc n) h = absurd (omega (arith, ints))

pub small_negative : (z : ℤ) → unsigned_abs z < 2 ^ 127 → unsigned_abs (negsuc 0 *ℤ z) < 2 ^ 127
small_negative z small = let a = unsigned_abs-*ℤ (negsuc 0) z in omega (arith, a, small)

-- a row whose numbers are negated
pub negated_row : (m n : Matrix) (r : ℕ) → n.width ≡ m.width → ((k : ℕ) → number_at n r k ≡ negsuc 0 *ℤ number_at m r k) → row_of n r ≡ int_scaled (negsuc 0) (row_of m r)
negated_row m n r wide there = row_is n r (int_scaled (negsuc 0) (row_of m r)) (length-int_scaled (negsuc 0) (row_of m r) ∙ length-row_of m r ∙ sym wide)
    (λ j lt. there j ∙ ap (λ z. negsuc 0 *ℤ z) (sym (entry-row_of m r j (omega (arith, lt, wide)))) ∙ sym (entry-scaled (negsuc 0) (row_of m r) j))
