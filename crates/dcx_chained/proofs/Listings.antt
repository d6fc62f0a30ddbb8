-- A row that is multiplied, and from which a multiple of another row's numbers, in a list, is taken.
use Rattle.std.proofs.Common.{◌≡◌, ◌≢◌, ℕ, zero, suc, ◌+◌, ◌<◌, ◌≤◌, ◌⊎◌, ◌^◌, List, length, set, ℤ, pos, ◌-ℤ◌, ◌*ℤ◌, unsigned_abs, arith, inl, inr, sym, ap, ◌∙◌, subst}
use Rattle.std.proofs.lemmas.Bool.{cases_eq, cases_lt}
use Rattle.std.proofs.lemmas.Int.{ints}
use Rattle.std.proofs.lemmas.List.{get_or-set_same, get_or-set_other}
use Rattle.dcx_math.specs.Integers.{*ℤ-zero}
use Rattle.dcx_tab.specs.Rows.{Row, entry}
use Rattle.dcx_tab.specs.Pivot.{turned, cleared, IsFormed}
use Rattle.dcx_tab.proofs.Pivots.{turns}
use Rattle.dcx_links.specs.declared.walk.Entry.{Entry}
use Rattle.dcx_links.specs.Walks.{IsOver, ComesNext}
use Rattle.dcx_links.specs.Matrix.{Matrix, number_at, row_of}
use Rattle.dcx_links.specs.Entries.{column_at, value_at}
use Rattle.dcx_chained.specs.NewRow.{AreListed, Clears, mixed_at}
use Rattle.dcx_chained.proofs.RowReads.{length-row_of, entry-row_of, row_is}
use Rattle.dcx_chained.proofs.Cleared.{length-cleared}

abbrev blank : Entry
blank = record { at = 0; value = pos 0 }

-- ---- the numbers of a row in a list
pub listed_start : (row : Row) (es : List Entry) → AreListed row 0 es 0
listed_start row es = record {
  within = λ k lt. absurd (omega arith);
  rising = λ j k less lt. absurd (omega arith);
  value = λ k lt. absurd (omega arith);
  zeros = λ j lt. absurd (omega arith);
}

-- one more entry
module _ (row : Row) (from : ℕ) (es : List Entry) (count : ℕ) (listed : AreListed row from es count) (e : Entry) (next : ComesNext (record { numbers = row; from = from }) e)
    (x : Entry) (is_at : x.at ≡ e.at)
    (is_value : x.value ≡ e.value) (room : count < length es) where
  same_at : column_at (set es count x) count ≡ e.at
  same_at = ap (λ (y : Entry). y.at) (get_or-set_same es count x blank room) ∙ is_at

  same_value : value_at (set es count x) count ≡ entry row (column_at (set es count x) count)
  same_value = ap (λ (y : Entry). y.value) (get_or-set_same es count x blank room) ∙ is_value ∙ sym next.here ∙ ap (entry row) (sym same_at)

  other : (k : ℕ) → k ≢ count → column_at (set es count x) k ≡ column_at es k
  other k d = ap (λ (y : Entry). y.at) (get_or-set_other es count k x blank d)

  other_value : (k : ℕ) → k ≢ count → value_at (set es count x) k ≡ value_at es k
  other_value k d = ap (λ (y : Entry). y.value) (get_or-set_other es count k x blank d)

  step_within : (k : ℕ) → k < count + 1 → column_at (set es count x) k < e.at + 1
  step_within k lt = elim (cases_eq k count) [
    | inl q ↦ let a = ap (λ n. column_at (set es count x) n) q ∙ same_at in omega (arith, a)
    | inr d ↦ let a = other k d in let b = listed.within k (omega (arith, lt, d)) in let z = next.beyond in omega (arith, a, b, z)
  ]

  step_rising : (j k : ℕ) → j < k → k < count + 1 → column_at (set es count x) j < column_at (set es count x) k
  step_rising j k less lt =
      let a = other j (λ q. absurd (omega (arith, q, less, lt))) in
      elim (cases_eq k count) [
        | inl q ↦ let b = ap (λ n. column_at (set es count x) n) q ∙ same_at in let w = listed.within j (omega (arith, less, lt)) in let z = next.beyond in omega (arith, a, b, w, z)
        | inr d ↦ let b = other k d in let w = listed.rising j k less (omega (arith, lt, d)) in omega (arith, a, b, w)
      ]

  step_value : (k : ℕ) → k < count + 1 → value_at (set es count x) k ≡ entry row (column_at (set es count x) k)
  step_value k lt = elim (cases_eq k count) [
    | inl q ↦ subst (λ n. value_at (set es count x) n ≡ entry row (column_at (set es count x) n)) (sym q) same_value
    | inr d ↦ other_value k d ∙ listed.value k (omega (arith, lt, d)) ∙ ap (entry row) (sym (other k d))
  ]

  step_zeros : (j : ℕ) → j < e.at + 1 → ((k : ℕ) × (k < count + 1) × (column_at (set es count x) k ≡ j)) ⊎ (entry row j ≡ pos 0)
  step_zeros j lt = elim (cases_lt j from) [
    | inl before ↦ elim (listed.zeros j before) [
      | inl (k, k_in, q) ↦ inl (k, omega (arith, k_in), other k (λ y. absurd (omega (arith, y, k_in))) ∙ q)
      | inr z ↦ inr z
    ]
    | inr le ↦ elim (cases_eq j e.at) [
      | inl q ↦ inl (count, omega arith, same_at ∙ sym q)
      | inr d ↦ inr (next.zeros j le (omega (arith, lt, d)))
    ]
  ]

  pub listed_step : AreListed row (e.at + 1) (set es count x) (count + 1)
  listed_step = record { within = step_within; rising = step_rising; value = step_value; zeros = step_zeros }

-- nothing is left
pub listed_over : (row : Row) (from n : ℕ) (es : List Entry) (count : ℕ) → AreListed row from es count → from ≤ n → n ≡ length row → IsOver (record { numbers = row; from = from })
    → AreListed row n es count
listed_over row from n es count listed le long over = record {
  within = λ k lt. let w = listed.within k lt in omega (arith, w, le);
  rising = listed.rising;
  value = listed.value;
  zeros = λ j lt. elim (cases_lt j from) [
    | inl before ↦ listed.zeros j before
    | inr beyond ↦ inr (over.zeros j beyond (omega (arith, lt, long)))
  ];
}

-- the entry of a column, if there is one
find : (es : List Entry) (count j : ℕ) → ((k : ℕ) × (k < count) × (column_at es k ≡ j)) ⊎ ((k : ℕ) → k < count → j ≢ column_at es k)
find es zero j = inr (λ k lt. absurd (omega arith))
find es (suc count) j = elim (cases_eq (column_at es count) j) [
  | inl e ↦ inl (count, omega arith, e)
  | inr d ↦ elim (find es count j) [
    | inl (k, lt, e) ↦ inl (k, omega (arith, lt), e)
    | inr none ↦ inr (λ k lt e. elim (cases_eq k count) [
      | inl q ↦ d (sym (e ∙ ap (column_at es) q))
      | inr less ↦ none k (omega (arith, lt, less)) e
    ])
  ]
]

-- ---- a row less a multiple of another
less_nothing : (x v : ℤ) → x -ℤ v *ℤ pos 0 ≡ x
less_nothing x v = let n = *ℤ-zero v in omega (arith, ints, n)

module _ (m mid n : Matrix) (i r : ℕ) (u v : ℤ) (es : List Entry) (count : ℕ) (listed : AreListed (row_of m r) m.width es count)
    (scaled : (k : ℕ) → number_at mid i k ≡ u *ℤ number_at m i k)
    (there : (k : ℕ) → k < count → number_at n i (column_at es k) ≡ number_at mid i (column_at es k) -ℤ v *ℤ value_at es k)
    (same : (j : ℕ) → ((k : ℕ) → k < count → j ≢ column_at es k) → number_at n i j ≡ number_at mid i j) where
  scaled_entry : (j : ℕ) → j < m.width → number_at mid i j ≡ u *ℤ entry (row_of m i) j
  scaled_entry j lt = scaled j ∙ ap (λ z. u *ℤ z) (sym (entry-row_of m i j lt))

  listed_entry : (k : ℕ) → k < count → number_at n i (column_at es k) ≡ mixed_at u (row_of m i) v (row_of m r) (column_at es k)
  listed_entry k lt =
      there k lt ∙ ap (λ z. z -ℤ v *ℤ value_at es k) (scaled_entry (column_at es k) (listed.within k lt))
      ∙ ap (λ z. u *ℤ entry (row_of m i) (column_at es k) -ℤ v *ℤ z) (listed.value k lt)

  pub mixed_entry : (j : ℕ) → j < m.width → number_at n i j ≡ mixed_at u (row_of m i) v (row_of m r) j
  mixed_entry j lt = elim (find es count j) [
    | inl (k, k_in, q) ↦ subst (λ x. number_at n i x ≡ mixed_at u (row_of m i) v (row_of m r) x) q (listed_entry k k_in)
    | inr none ↦ elim (listed.zeros j lt) [
      | inl (k, k_in, q) ↦ absurd (none k k_in (sym q))
      | inr z ↦ same j none ∙ scaled_entry j lt ∙ sym (ap (λ y. u *ℤ entry (row_of m i) j -ℤ v *ℤ y) z ∙ less_nothing (u *ℤ entry (row_of m i) j) v)
    ]
  ]

-- what the entries of the multiplied row and of the list form
module _ (m mid : Matrix) (i r : ℕ) (u v : ℤ) (es : List Entry) (count : ℕ) (listed : AreListed (row_of m r) m.width es count)
    (scaled : (k : ℕ) → number_at mid i k ≡ u *ℤ number_at m i k)
    (formed : (k : ℕ) → k < m.width → IsFormed u (entry (row_of m i) k) v (entry (row_of m r) k)) where
  pub small_product : (k : ℕ) → k < count → unsigned_abs (v *ℤ value_at es k) < 2 ^ 127
  small_product k lt = subst (λ z. unsigned_abs (v *ℤ z) < 2 ^ 127) (sym (listed.value k lt)) (formed (column_at es k) (listed.within k lt)).right

  pub small_rest : (k : ℕ) → k < count → unsigned_abs (number_at mid i (column_at es k) -ℤ v *ℤ value_at es k) < 2 ^ 127
  small_rest k lt =
      let e : number_at mid i (column_at es k) ≡ u *ℤ entry (row_of m i) (column_at es k) = scaled (column_at es k) ∙ ap (λ z. u *ℤ z) (sym (entry-row_of m i (column_at es k) (listed.within k lt))) in
      subst (λ x. unsigned_abs (x -ℤ v *ℤ value_at es k) < 2 ^ 127) (sym e)
      (subst (λ z. unsigned_abs (u *ℤ entry (row_of m i) (column_at es k) -ℤ v *ℤ z) < 2 ^ 127) (sym (listed.value k lt)) (formed (column_at es k) (listed.within k lt)).difference)

-- the row is the cleared one, undivided
pub cleared_row : (m a : Matrix) (i r c : ℕ) (u v : ℤ) → a.width ≡ m.width → entry (row_of m r) c ≢ pos 0 → Clears c (row_of m r) (row_of m i) u v
    → ((j : ℕ) → j < m.width → number_at a i j ≡ mixed_at u (row_of m i) v (row_of m r) j) → row_of a i ≡ cleared c (turned c (row_of m r)) (row_of m i)
cleared_row m a i r c u v wide some clears mixed =
    let by = turned c (row_of m r) in
    let alike : length (row_of m i) ≡ length by = length-row_of m i ∙ sym ((turns c (row_of m r) some).width ∙ length-row_of m r) in
    row_is a i (cleared c by (row_of m i)) (length-cleared c by (row_of m i) alike ∙ length-row_of m i ∙ sym wide) (λ j lt. mixed j (omega (arith, lt, wide)) ∙ clears.mixed j)
