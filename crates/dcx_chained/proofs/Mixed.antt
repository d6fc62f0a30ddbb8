-- What two rows form in the columns that a walk along both has passed.
use Rattle.std.proofs.Common.{◌≡◌, ℕ, ◌+◌, ◌<◌, ℤ, pos, ◌-ℤ◌, ◌*ℤ◌, unsigned_abs, arith, length, inl, inr, sym, ap, ◌∙◌, subst}
use Rattle.std.proofs.lemmas.Bool.{cases_eq, cases_lt}
use Rattle.std.proofs.lemmas.Int.{ints}
use Rattle.dcx_math.specs.Integers.{*ℤ-zero}
use Rattle.dcx_tab.specs.Rows.{Row, entry}
use Rattle.dcx_tab.specs.Pivot.{IsFormed}
use Rattle.dcx_links.specs.declared.pair.Pair.{Pair}
use Rattle.dcx_links.specs.Walks.{DoubleWalk, PairComesNext, AreOver}

-- a walk along these two rows
pub walk_of : (w : DoubleWalk) (row pivot : Row) → w.first ≡ row → w.second ≡ pivot → w ≡ record { first = row; second = pivot; from = w.from }
walk_of w row pivot a b = λ i. record { first = a i; second = b i; from = w.from }

pub next_of : (w : DoubleWalk) (row pivot : Row) (p : Pair) → w.first ≡ row → w.second ≡ pivot → PairComesNext w p → PairComesNext (record { first = row; second = pivot; from = w.from }) p
next_of w row pivot p a b next = subst (λ (x : DoubleWalk). PairComesNext x p) (walk_of w row pivot a b) next

pub over_of : (w : DoubleWalk) (row pivot : Row) → w.first ≡ row → w.second ≡ pivot → AreOver w → AreOver (record { first = row; second = pivot; from = w.from })
over_of w row pivot a b over = subst (λ (x : DoubleWalk). AreOver x) (walk_of w row pivot a b) over

formed_zero : (u x v y : ℤ) → x ≡ pos 0 → y ≡ pos 0 → IsFormed u x v y
formed_zero u x v y a b =
    let l : u *ℤ x ≡ pos 0 = ap (λ z. u *ℤ z) a ∙ *ℤ-zero u in
    let r : v *ℤ y ≡ pos 0 = ap (λ z. v *ℤ z) b ∙ *ℤ-zero v in
    let d : u *ℤ x -ℤ v *ℤ y ≡ pos 0 = omega (arith, ints, l, r) in
    let al = ap unsigned_abs l in
    let ar = ap unsigned_abs r in
    let ad = ap unsigned_abs d in
    record { left = omega (arith, al); right = omega (arith, ar); difference = omega (arith, ad) }

module _ (u : ℤ) (row : Row) (v : ℤ) (pivot : Row) where
  abbrev FormedAt : ℕ → Type 0
  FormedAt k = IsFormed u (entry row k) v (entry pivot k)

  pub formed_before : (from : ℕ) (p : Pair) → PairComesNext (record { first = row; second = pivot; from = from }) p
      → ((k : ℕ) → k < from → IsFormed u (entry row k) v (entry pivot k)) → (k : ℕ) → k < p.at → IsFormed u (entry row k) v (entry pivot k)
  formed_before from p next formed k lt = elim (cases_lt k from) [
    | inl before ↦ formed k before
    | inr le ↦ formed_zero u (entry row k) v (entry pivot k) (next.first_zeros k le lt) (next.second_zeros k le lt)
  ]

  pub formed_there : (from : ℕ) (p : Pair) → PairComesNext (record { first = row; second = pivot; from = from }) p → IsFormed u p.first v p.second → IsFormed u (entry row p.at) v (entry pivot p.at)
  formed_there from p next f = subst (λ x. IsFormed u x v (entry pivot p.at)) (sym next.first) (subst (λ y. IsFormed u p.first v y) (sym next.second) f)

  pub formed_here : (from : ℕ) (p : Pair) → PairComesNext (record { first = row; second = pivot; from = from }) p → IsFormed u (entry row p.at) v (entry pivot p.at) → IsFormed u p.first v p.second
  formed_here from p next f = subst (λ x. IsFormed u x v p.second) next.first (subst (λ y. IsFormed u (entry row p.at) v y) next.second f)

  pub formed_step : (from : ℕ) (p : Pair) → PairComesNext (record { first = row; second = pivot; from = from }) p
      → ((k : ℕ) → k < from → IsFormed u (entry row k) v (entry pivot k)) → IsFormed u p.first v p.second
      → (k : ℕ) → k < p.at + 1 → IsFormed u (entry row k) v (entry pivot k)
  formed_step from p next formed f k lt = elim (cases_eq k p.at) [
    | inl e ↦ subst (λ n. FormedAt n) (sym e) (formed_there from p next f)
    | inr d ↦ formed_before from p next formed k (omega (arith, lt, d))
  ]

  pub formed_over : (from n : ℕ) → AreOver (record { first = row; second = pivot; from = from }) → n ≡ length row → n ≡ length pivot → ((k : ℕ) → k < from → IsFormed u (entry row k) v (entry pivot k))
      → (k : ℕ) → k < n → IsFormed u (entry row k) v (entry pivot k)
  formed_over from n over row_long pivot_long formed k lt = elim (cases_lt k from) [
    | inl before ↦ formed k before
    | inr le ↦ formed_zero u (entry row k) v (entry pivot k) (over.first.zeros k le (omega (arith, lt, row_long))) (over.second.zeros k le (omega (arith, lt, pivot_long)))
  ]
