-- Entries of a tableau as the code reads them, which are numbers of 128 bits.
use Rattle.std.proofs.Common.{◌≡◌, ℕ, ◌+◌, ◌*◌, ◌<◌, true, false, length, ℤ, pos, ◌<ℤ◌, ◌≤ℤ◌, unsigned_abs, arith, refl, ap, ap₂, ◌∙◌, subst, Ordering}
use Rattle.std.specs.Bool.{IsTrue}
use Rattle.std.specs.Prelude.{◌↔◌}
use Rattle.std.specs.Ordering.{MatchOrdering, nat_cmp}
use Rattle.std.proofs.lemmas.Bool.{false≢true}
use Rattle.std.proofs.lemmas.Cmp.{ranked}
use Rattle.std.proofs.lemmas.Int.{ints, to_z-of_z}
use lib.Signed.{lt_z, le_z}
use mir.Syntax.{w128}
use mir.Val.{SFits, to_z, of_z}
use Rattle.dcx_tab.specs.Table.{Table}
use Rattle.dcx_simplex.specs.Whole.{objective_row}
use Rattle.dcx_warm.specs.Dual.{magnitude_at}

-- ---- signs
pub high_by : (z e : ℤ) → SFits w128 z → z ≡ e → lt_z (pos 0) (to_z w128 (of_z w128 z)) ≡ true → pos 0 <ℤ e
high_by z e f same h = let g = simp to_z-of_z at h in subst (λ x. pos 0 <ℤ x) same (grind (arith, ints))

pub low_by : (z e : ℤ) → SFits w128 z → z ≡ e → lt_z (pos 0) (to_z w128 (of_z w128 z)) ≡ false → e ≤ℤ pos 0
low_by z e f same h = let g = simp to_z-of_z at h in subst (λ x. x ≤ℤ pos 0) same (grind (arith, ints))

pub negative_by : (z e : ℤ) → SFits w128 z → z ≡ e → le_z (pos 0) (to_z w128 (of_z w128 z)) ≡ false → e <ℤ pos 0
negative_by z e f same h = let g = simp to_z-of_z at h in subst (λ x. x <ℤ pos 0) same (grind (arith, ints))

pub not_negative_by : (z e : ℤ) → SFits w128 z → z ≡ e → le_z (pos 0) (to_z w128 (of_z w128 z)) ≡ true → pos 0 ≤ℤ e
not_negative_by z e f same h = let g = simp to_z-of_z at h in subst (λ x. pos 0 ≤ℤ x) same (grind (arith, ints))

pub never_both : (e : ℤ) → pos 0 <ℤ e → e ≤ℤ pos 0 → ⊥
never_both e h k = absurd (omega (arith, ints, h, k))

pub never_below : (e : ℤ) → pos 0 ≤ℤ e → e <ℤ pos 0 → ⊥
never_below e h k = absurd (omega (arith, ints, h, k))

-- ---- answers
pub refuted : (P : Type 0) → ¬ P → IsTrue false ↔ P
refuted P none = (λ e. absurd (false≢true e), λ p. absurd (none p))

pub shown : (P : Type 0) → P → IsTrue true ↔ P
shown P p = (λ e. p, λ q. refl)

-- ---- the row of costs and ratios in it
pub cost_row : (t : Table) (n : ℕ) → n + 2 ≡ length t.rows → n ≡ objective_row t
cost_row t n h = omega (arith, h)

pub magnitude_by : (z e : ℤ) (n : ℕ) → SFits w128 z → z ≡ e → n ≡ unsigned_abs (to_z w128 (of_z w128 z)) → n ≡ unsigned_abs e
magnitude_by z e n f same h = h ∙ ap unsigned_abs (to_z-of_z w128 z f ∙ same)

pub compared : (t : Table) (row c k o : ℕ) (a b d e : ℕ) (r : Ordering) → o + 2 ≡ length t.rows → a ≡ magnitude_at t o c → b ≡ magnitude_at t row c → d ≡ magnitude_at t o k → e ≡ magnitude_at t row k
    → r ≡ nat_cmp (a * e) (d * b)
    → MatchOrdering r (magnitude_at t (objective_row t) c * magnitude_at t row k < magnitude_at t (objective_row t) k * magnitude_at t row c)
    (magnitude_at t (objective_row t) c * magnitude_at t row k ≡ magnitude_at t (objective_row t) k * magnitude_at t row c)
    (magnitude_at t (objective_row t) k * magnitude_at t row c < magnitude_at t (objective_row t) c * magnitude_at t row k)
compared t row c k o a b d e r rows ha hb hd he h =
    let same = cost_row t o rows in
    ranked _ _ r
    (h ∙ ap₂ nat_cmp (ap₂ (λ x y. x * y) (ha ∙ ap (λ i. magnitude_at t i c) same) he) (ap₂ (λ x y. x * y) (hd ∙ ap (λ i. magnitude_at t i k) same) hb))
