-- Sizes of rows, and what a pivot makes of them.
use Rattle.std.proofs.Common.{◌≡◌, ℕ, ◌+◌, ◌*◌, ◌<◌, ◌≤◌, ◌^◌, length, map, ℤ, pos, negsuc, ◌-ℤ◌, ◌*ℤ◌, unsigned_abs, arith, ap, ◌∙◌, inl, inr, mul-le-mul_left}
use Rattle.std.proofs.lemmas.Bool.{cases_eq, cases_lt}
use Rattle.std.proofs.lemmas.List.{length-map, get_or_past}
use native.Mathlib.Nat.{div-le_self}
use Rattle.dcx_math.specs.Divisors.{gcd_of, divided}
use Rattle.dcx_math.proofs.Divisors.{unsigned_abs-divided}
use Rattle.dcx_math.proofs.IntegerLaws.{unsigned_abs-*ℤ}
use Rattle.dcx_math.proofs.Primitive.{primitive_part}
use Rattle.dcx_tab.specs.Rows.{Row, entry}
use Rattle.dcx_tab.specs.Pivot.{turned, turned_by}
use Rattle.dcx_tab.proofs.LineSteps.{entry-divided}
use Rattle.dcx_tab.proofs.RowLaws.{entry-scaled}
use Rattle.dcx_links.specs.declared.walk.Entry.{Entry}
use Rattle.dcx_links.specs.Walks.{IsOver, ComesNext}
use Rattle.dcx_links.specs.Matrix.{Matrix, number_at, row_of}
use Rattle.dcx_chained.specs.NewRow.{mixed_at}
use Rattle.dcx_chained.specs.Narrow.{IsNarrow, IsWithin, IsSized, Bounds}
use Rattle.dcx_chained.proofs.NarrowRows.{abs-less}
use Rattle.dcx_chained.proofs.RowReads.{length-row_of, entry-row_of}

-- ---- a walk along a row
-- one more number
pub within_step : (row : Row) (from : ℕ) (e : Entry) (size more : ℕ) → ComesNext (record { numbers = row; from = from }) e
    → ((j : ℕ) → j < from → unsigned_abs (entry row j) ≤ size) → size ≤ more → unsigned_abs e.value ≤ more
    → (j : ℕ) → j < e.at + 1 → unsigned_abs (entry row j) ≤ more
within_step row from e size more next before le here j lt = elim (cases_lt j from) [
  | inl passed ↦ let b = before j passed in omega (arith, b, le)
  | inr beyond ↦ elim (cases_eq j e.at) [
    | inl q ↦ let a = ap unsigned_abs (ap (entry row) q ∙ next.here) in omega (arith, a, here)
    | inr d ↦ let z = ap unsigned_abs (next.zeros j beyond (omega (arith, lt, d))) in omega (arith, z)
  ]
]

-- nothing is left
pub within_over : (row : Row) (from size : ℕ) → IsOver (record { numbers = row; from = from }) → ((j : ℕ) → j < from → unsigned_abs (entry row j) ≤ size) → IsWithin size row
within_over row from size over before = λ j. elim (cases_lt j from) [
  | inl passed ↦ before j passed
  | inr le ↦ elim (cases_lt j (length row)) [
    | inl lt ↦ let z = ap unsigned_abs (over.zeros j le lt) in omega (arith, z)
    | inr past ↦ let z = ap unsigned_abs (get_or_past row j (pos 0) past) in omega (arith, z)
  ]
]

-- ---- sized rows
pub narrow-sized : (size : ℕ) (row : Row) → IsSized size row → IsNarrow row
narrow-sized size row s = λ j. let a = s.narrow in let b = s.within j in omega (arith, a, b)

pub sized_where : (size : ℕ) (row : Row) (n : ℕ) → n < 2 ^ 62 → size ≡ n → IsWithin n row → IsSized size row
sized_where size row n narrow e within = record { narrow = omega (arith, e, narrow); within = λ j. let h = within j in omega (arith, e, h) }

within_by_sign : (z : ℤ) (size : ℕ) (row : Row) → IsWithin size row → IsWithin size (turned_by z row)
within_by_sign (pos n) size row h = h
within_by_sign (negsuc n) size row h = λ j. let e = ap unsigned_abs (entry-scaled (negsuc 0) row j) in let f = unsigned_abs-*ℤ (negsuc 0) (entry row j) in let k = h j in omega arith

pub sized-turned : (c size : ℕ) (row : Row) → IsSized size row → IsSized size (turned c row)
sized-turned c size row s = record { narrow = s.narrow; within = within_by_sign (entry row c) size row s.within }

-- ---- what factors make of sizes
pub multiple_within : (by x : ℤ) (magnitude size : ℕ) → magnitude ≡ unsigned_abs by → unsigned_abs x ≤ size → unsigned_abs (by *ℤ x) ≤ magnitude * size
multiple_within by x magnitude size is within =
    let e = unsigned_abs-*ℤ by x in
    let q : magnitude * unsigned_abs x ≡ unsigned_abs by * unsigned_abs x = ap (λ n. n * unsigned_abs x) is in
    let l : magnitude * unsigned_abs x ≤ magnitude * size = mul-le-mul_left magnitude within in
    omega (arith, e, q, l)

pub bounds_sum : (u v : ℤ) (n k a b : ℕ) → ((x : ℤ) → unsigned_abs x ≤ n → unsigned_abs (u *ℤ x) ≤ a) → ((y : ℤ) → unsigned_abs y ≤ k → unsigned_abs (v *ℤ y) ≤ b) → Bounds u n v k (a + b)
bounds_sum u v n k a b p q = λ x y x_in y_in. let l = abs-less (u *ℤ x) (v *ℤ y) in let i = p x x_in in let j = q y y_in in omega (arith, l, i, j)

-- ---- a cleared row
less-divided : (n : ℕ) (xs : Row) (j : ℕ) → unsigned_abs (entry (map (divided n) xs) j) ≤ unsigned_abs (entry xs j)
less-divided n xs j = elim (cases_lt j (length xs)) [
  | inl lt ↦
      let q = ap unsigned_abs (entry-divided n xs j lt) in
      let e = unsigned_abs-divided n (entry xs j) in
      let l = div-le_self (unsigned_abs (entry xs j)) n in
      omega (arith, q, e, l)
  | inr past ↦
      let m = length-map xs (divided n) in
      let z = ap unsigned_abs (get_or_past (map (divided n) xs) j (pos 0) (omega (arith, past, m))) in
      omega (arith, z)
]

less-primitive : (xs : Row) (j : ℕ) → unsigned_abs (entry (primitive_part xs) j) ≤ unsigned_abs (entry xs j)
less-primitive xs j = less-divided (gcd_of xs) xs j

-- no number of the primitive part of a mixed row is greater than the mixed one
module _ (m a n : Matrix) (i r : ℕ) (u v : ℤ) (wide : a.width ≡ m.width) (is : row_of n i ≡ primitive_part (row_of a i))
    (mixed : (j : ℕ) → j < m.width → number_at a i j ≡ mixed_at u (row_of m i) v (row_of m r) j) where
  mixed_bound : (j : ℕ) → unsigned_abs (entry (row_of a i) j) ≤ unsigned_abs (u *ℤ entry (row_of m i) j -ℤ v *ℤ entry (row_of m r) j)
  mixed_bound j = elim (cases_lt j m.width) [
    | inl lt ↦
        let q : unsigned_abs (entry (row_of a i) j) ≡ unsigned_abs (u *ℤ entry (row_of m i) j -ℤ v *ℤ entry (row_of m r) j) = ap unsigned_abs
        (entry-row_of a i j (omega (arith, lt, wide)) ∙ mixed j lt) in
        omega (arith, q)
    | inr past ↦
        let l = length-row_of a i in
        let z = ap unsigned_abs (get_or_past (row_of a i) j (pos 0) (omega (arith, past, wide, l))) in
        omega (arith, z)
  ]

  pub mixed_bounds : (j : ℕ) → unsigned_abs (entry (row_of n i) j) ≤ unsigned_abs (u *ℤ entry (row_of m i) j -ℤ v *ℤ entry (row_of m r) j)
  mixed_bounds j =
      let e : unsigned_abs (entry (row_of n i) j) ≡ unsigned_abs (entry (primitive_part (row_of a i)) j) = ap (λ (x : Row). unsigned_abs (entry x j)) is in
      let p = less-primitive (row_of a i) j in
      let b = mixed_bound j in
      omega (arith, e, p, b)
