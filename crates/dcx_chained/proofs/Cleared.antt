-- Rows that are cleared.
use Rattle.std.proofs.Common.{◌≡◌, ◌≢◌, ℕ, zero, suc, ◌<◌, ◌⊎◌, length, Bool, true, false, cond, nat_eq, ℤ, pos, negsuc, ◌<ℤ◌, unsigned_abs, arith, refl, sym, ap, ◌∙◌, subst, inl, inr}
use Rattle.std.proofs.lemmas.Bool.{cases_lt}
use Rattle.std.proofs.lemmas.Bool.Decides.{nat_tests}
use Rattle.std.proofs.lemmas.Int.{ints}
use Rattle.std.proofs.lemmas.List.{get_or_past}
use Rattle.dcx_math.specs.Divisors.{gcd_of, divided}
use Rattle.dcx_math.proofs.Divisors.{divided_is, divided-zero, gcd-dvd_left, gcd-dvd_right}
use Rattle.dcx_math.proofs.Primitive.{primitive_part}
use Rattle.dcx_tab.specs.Rows.{Row, entry, AllSmall}
use Rattle.dcx_tab.specs.Pivot.{shared, cleared, eliminated, IsRowFormed}
use Rattle.dcx_tab.proofs.Elimination.{crossed}
use Rattle.dcx_tab.proofs.LineSteps.{eliminated_some, entry-divided, shared-pos, small-less, small-primitive}
use Rattle.dcx_tab.proofs.RowLaws.{entry-less, length-mixed}

cond_true : (b : Bool) (x y : Row) → b ≡ true → cond b x y ≡ x
cond_true b x y e = rw e refl

-- a row that has 0 there already
pub eliminated_none : (c : ℕ) (by row : Row) → entry row c ≡ pos 0 → eliminated c by row ≡ row
eliminated_none c by row e =
    let z : unsigned_abs (entry row c) ≡ 0 = ap unsigned_abs e in
    let t : nat_eq (unsigned_abs (entry row c)) 0 ≡ true = grind (arith, nat_tests) in
    cond_true (nat_eq (unsigned_abs (entry row c)) 0) row (primitive_part (cleared c by row)) t

pub length-cleared : (c : ℕ) (by row : Row) → length row ≡ length by → length (cleared c by row) ≡ length row
length-cleared c by row same = length-mixed _ _ row by same

pub entry-eliminated : (c : ℕ) (by row : Row) → length row ≡ length by → entry row c ≢ pos 0 → (j : ℕ) → j < length row → entry (eliminated c by row) j
    ≡ divided (gcd_of (cleared c by row)) (entry (cleared c by row) j)
entry-eliminated c by row same met j lt =
    let l = length-cleared c by row same in
    ap (λ (r : Row). entry r j) (eliminated_some c by row met) ∙ sym (entry-divided (gcd_of (cleared c by row)) (cleared c by row) j (omega (arith, lt, l)))

cleared_there : (c : ℕ) (by row : Row) → pos 0 <ℤ entry by c → entry (cleared c by row) c ≡ pos 0
cleared_there c by row positive =
    let g = shared c by row in
    let p = entry by c in
    let a = entry row c in
    let g_pos : pos 0 <ℤ pos g = let q = shared-pos p a positive in omega (arith, ints, q) in
    let e = crossed (pos g) (divided g p) (divided g a) p a g_pos (divided_is g p (gcd-dvd_left (unsigned_abs p) (unsigned_abs a)))
    (divided_is g a (gcd-dvd_right (unsigned_abs p) (unsigned_abs a))) in
    entry-less (divided g p) row (divided g a) by c ∙ omega (arith, ints, e)

-- a cleared row has 0 at the column
pub eliminated_there : (c : ℕ) (by row : Row) → length row ≡ length by → pos 0 <ℤ entry by c → entry row c ≢ pos 0 → entry (eliminated c by row) c ≡ pos 0
eliminated_there c by row same positive met =
    let lt : c < length row = elim (cases_lt c (length row)) [ inl h ↦ h | inr past ↦ absurd (met (get_or_past row c (pos 0) past)) ] in
    entry-eliminated c by row same met c lt ∙ ap (divided (gcd_of (cleared c by row))) (cleared_there c by row positive) ∙ divided-zero (gcd_of (cleared c by row))

small_by_cond : (b : Bool) (x y : Row) → (b ≡ true → AllSmall x) → (b ≡ false → AllSmall y) → AllSmall (cond b x y)
small_by_cond true x y p q = p refl
small_by_cond false x y p q = q refl

-- a cleared row is small where nothing in it passes
pub small-eliminated : (c : ℕ) (by row : Row) → length row ≡ length by → AllSmall row → IsRowFormed c by row → AllSmall (eliminated c by row)
small-eliminated c by row same small formed =
    small_by_cond (nat_eq (unsigned_abs (entry row c)) 0) row (primitive_part (cleared c by row)) (λ _. small)
    (λ none. let met : entry row c ≢ pos 0 = λ e. let z : unsigned_abs (entry row c) ≡ 0 = ap unsigned_abs e in absurd (grind (arith, nat_tests)) in
    small-primitive (cleared c by row) (small-less (divided (shared c by row) (entry by c)) row (divided (shared c by row) (entry row c)) by same (λ k lt. formed met k lt)))

zero_or : (z : ℤ) → (z ≡ pos 0) ⊎ (z ≢ pos 0)
zero_or (pos zero) = inl refl
zero_or (pos (suc n)) = inr (λ e. cc)
zero_or (negsuc n) = inr (λ e. cc)

-- ---- a row that is as it was, or cleared
module _ (c : ℕ) (by row now : Row) (either : (now ≡ row) ⊎ (now ≡ eliminated c by row)) where
  -- it is as it was where it has a number at the column
  pub was_row : length row ≡ length by → pos 0 <ℤ entry by c → entry now c ≢ pos 0 → now ≡ row
  was_row same positive met = elim either [
    | inl e ↦ e
    | inr e ↦ elim (zero_or (entry row c)) [
      | inl z ↦ e ∙ eliminated_none c by row z
      | inr d ↦ absurd (met (ap (λ (r : Row). entry r c) e ∙ eliminated_there c by row same positive d))
    ]
  ]

  -- it is cleared where it has none
  pub done_row : entry now c ≡ pos 0 → now ≡ eliminated c by row
  done_row z = elim either [
    | inl e ↦ e ∙ sym (eliminated_none c by row (sym (ap (λ (r : Row). entry r c) e) ∙ z))
    | inr e ↦ e
  ]

  pub small_row : length row ≡ length by → AllSmall row → IsRowFormed c by row → AllSmall now
  small_row same small formed = elim either [
    | inl e ↦ subst AllSmall (sym e) small
    | inr e ↦ subst AllSmall (sym e) (small-eliminated c by row same small formed)
  ]
