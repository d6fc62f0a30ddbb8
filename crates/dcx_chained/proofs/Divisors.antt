-- The common divisor of a row's numbers.
use Rattle.std.proofs.Common.{◌≡◌, ℕ, ◌+◌, ◌<◌, List, [], ◌∷◌, length, map, ℤ, unsigned_abs, arith, inl, inr, suc, sym, ap, ◌∙◌, subst}
use Rattle.std.proofs.lemmas.Bool.{cases_eq, cases_lt}
use Rattle.std.proofs.lemmas.List.{length-map}
use native.Mathlib.Nat.{dvd-zero, eq-one_of_dvd-one}
use Prim.Native.Nat.{◌∣◌}
use Rattle.dcx_math.specs.Divisors.{gcd, gcd_of, divided}
use Rattle.dcx_math.proofs.Divisors.{gcd-dvd_left, gcd-dvd_right, dvd-gcd, dvd_trans, dvd_antisymm}
use Rattle.dcx_tab.specs.Rows.{Row, entry}
use Rattle.dcx_tab.proofs.LineSteps.{entry-divided}
use Rattle.dcx_tab.proofs.RowLaws.{gcd_of-dvd_entry}
use Rattle.dcx_links.specs.declared.walk.Entry.{Entry}
use Rattle.dcx_links.specs.Walks.{IsOver, ComesNext}
use Rattle.dcx_links.specs.Matrix.{Matrix, number_at, row_of}
use Rattle.dcx_chained.proofs.RowReads.{length-row_of, entry-row_of, row_is}

dvd_all : (d : ℕ) (xs : List ℤ) → ((j : ℕ) → j < length xs → d ∣ unsigned_abs (entry xs j)) → d ∣ gcd_of xs
dvd_all d [] h = dvd-zero d
dvd_all d (x ∷ xs) h = dvd-gcd (unsigned_abs x) (gcd_of xs) d (h 0 (omega arith)) (dvd_all d xs (λ j lt. h (suc j) (omega arith)))

-- d is the greatest common divisor of the numbers before a place
pub record DividesBefore (row : Row) (from d : ℕ) : Type 0 where
  pub divides : (j : ℕ) → j < from → d ∣ unsigned_abs (entry row j)
  pub greatest : (g : ℕ) → ((j : ℕ) → j < from → g ∣ unsigned_abs (entry row j)) → g ∣ d

pub divides_first : (row : Row) → DividesBefore row 0 0
divides_first row = record { divides = λ j lt. absurd (omega arith); greatest = λ g h. dvd-zero g }

module _ (row : Row) (from d : ℕ) (before : DividesBefore row from d) where
  pub divides_next : (e : Entry) → ComesNext (record { numbers = row; from = from }) e → DividesBefore row (e.at + 1) (gcd (unsigned_abs e.value) d)
  divides_next e next =
      let g = gcd (unsigned_abs e.value) d in
      record {
        divides = λ j lt. elim (cases_lt j from) [
          | inl passed ↦ dvd_trans _ (gcd-dvd_right (unsigned_abs e.value) d) (before.divides j passed)
          | inr le ↦ elim (cases_eq j e.at) [
            | inl here ↦ subst (λ z. g ∣ unsigned_abs z) (sym (ap (entry row) here ∙ next.here)) (gcd-dvd_left (unsigned_abs e.value) d)
            | inr other ↦ subst (λ z. g ∣ unsigned_abs z) (sym (next.zeros j le (omega (arith, lt, other)))) (dvd-zero g)
          ]
        ];
        greatest = λ h common. dvd-gcd (unsigned_abs e.value) d h (subst (λ z. h ∣ unsigned_abs z) next.here (common e.at (omega arith)))
            (before.greatest h (λ j lt. common j (let b = next.beyond in omega (arith, lt, b))));
      }

  pub divides_over : IsOver (record { numbers = row; from = from }) → d ≡ gcd_of row
  divides_over over = dvd_antisymm
      (dvd_all d row
      (λ j lt. elim (cases_lt j from) [
        | inl passed ↦ before.divides j passed
        | inr le ↦ subst (λ z. d ∣ unsigned_abs z) (sym (over.zeros j le lt)) (dvd-zero d)
      ]))
      (before.greatest (gcd_of row) (λ j lt. gcd_of-dvd_entry row j))

  pub divides_one : d ≡ 1 → 1 ≡ gcd_of row
  divides_one e = sym (eq-one_of_dvd-one (subst (λ n. gcd_of row ∣ n) e (before.greatest (gcd_of row) (λ j lt. gcd_of-dvd_entry row j))))

-- a row whose numbers are divided
pub divided_row : (m n : Matrix) (i d : ℕ) → n.width ≡ m.width → ((k : ℕ) → number_at n i k ≡ divided d (number_at m i k)) → row_of n i ≡ map (divided d) (row_of m i)
divided_row m n i d wide there = row_is n i (map (divided d) (row_of m i)) (length-map (row_of m i) (divided d) ∙ length-row_of m i ∙ sym wide)
    (λ j lt. let j_in : j < m.width = omega (arith, lt, wide) in
    let l = length-row_of m i in
    there j ∙ ap (divided d) (sym (entry-row_of m i j j_in)) ∙ entry-divided d (row_of m i) j (omega (arith, j_in, l)))
