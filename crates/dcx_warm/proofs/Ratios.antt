-- Ratios of magnitudes are in order.
use Rattle.std.proofs.Common.{ℕ, ◌+◌, ◌*◌, ◌<◌, ◌≤◌, ℤ, pos, negsuc, ◌*ℤ◌, ◌<ℤ◌, ◌≤ℤ◌, neg_ℤ, unsigned_abs, arith, refl, ◌⊎◌, inl, inr, Option, Some, None}
use borrow.Author.Count.{below_more}
use Rattle.std.proofs.lemmas.Int.{ints}
use Rattle.std.proofs.lemmas.Bool.{cases_lt}
use Rattle.std.proofs.lemmas.Nat.{mul-le}
use Rattle.std.proofs.Math.Nat.{mul_right_comm}
use Rattle.dcx_math.specs.Integers.{*ℤ-neg_ℤ_left}
use Rattle.dcx_math.proofs.IntegerLaws.{*ℤ-nonpositive, unsigned_abs-*ℤ, unsigned_abs-of_nonnegative}
use Rattle.dcx_tab.specs.Table.{Table, entry_at}
use Rattle.dcx_simplex.specs.Whole.{objective_row}
use Rattle.dcx_warm.specs.Dual.{MayEnter, ComesFirst, IsBestColumn, magnitude_at}

pub some_negative : (z : ℤ) → z <ℤ pos 0 → 0 < unsigned_abs z
some_negative (pos n) h = absurd (omega (arith, ints, h))
some_negative (negsuc n) h = omega arith

times_lt : (a b k : ℕ) → 0 < k → a < b → a * k < b * k
times_lt a b k p h = let m = mul-le (a + 1) k b k (omega (arith, h)) (omega arith) in omega (arith, m, p)

times_le : (a b k : ℕ) → a ≤ b → a * k ≤ b * k
times_le a b k h = mul-le a k b k h (omega arith)

-- a/d < b/e and b/e at most c/f: a/d < c/f
strict_by : (a d b e c f : ℕ) → 0 < e → 0 < f → a * e < b * d → b * f ≤ c * e → (a * f < c * d) ⊎ (c * d ≤ a * f) → a * f < c * d
strict_by a d b e c f pe pf h k (inl l) = l
strict_by a d b e c f pe pf h k (inr l) =
    let x = times_lt (a * e) (b * d) f pf h in
    let y = times_le (b * f) (c * e) d k in
    let z = times_le (c * d) (a * f) e l in
    let p = mul_right_comm a e f in
    let q = mul_right_comm b d f in
    let r = mul_right_comm c e d in
    absurd (omega (arith, x, y, z, p, q, r))

pub strict : (a d b e c f : ℕ) → 0 < e → 0 < f → a * e < b * d → b * f ≤ c * e → a * f < c * d
strict a d b e c f pe pf h k = strict_by a d b e c f pe pf h k (cases_lt (a * f) (c * d))

pub weak : (t : Table) (r c k : ℕ) → ComesFirst t r c k → magnitude_at t (objective_row t) c * magnitude_at t r k ≤ magnitude_at t (objective_row t) k * magnitude_at t r c
weak t r c k (inl h) = omega (arith, h)
weak t r c k (inr h) = let e = h.0 in omega (arith, e)

-- the later of two columns comes first only where its ratio is less
pub less : (t : Table) (r c k : ℕ) → k < c → ComesFirst t r c k → magnitude_at t (objective_row t) c * magnitude_at t r k < magnitude_at t (objective_row t) k * magnitude_at t r c
less t r c k l (inl h) = h
less t r c k l (inr h) = let e = h.1 in absurd (omega (arith, e, l))

pub first_trans : (t : Table) (r c k j : ℕ) → k < c → MayEnter t r k → MayEnter t r j → ComesFirst t r c k → ComesFirst t r k j → ComesFirst t r c j
first_trans t r c k j l x y h i =
    inl (strict _ _ _ _ _ _ (some_negative (entry_at t r k) x.negative) (some_negative (entry_at t r j) y.negative) (less t r c k l h) (weak t r k j i))

pub first_self : (t : Table) (r c : ℕ) → ComesFirst t r c c
first_self t r c = inr (refl, omega arith)

-- a column that may not enter leaves the best as it is
pub best_kept : (t : Table) (r i : ℕ) (best : Option ℕ) → ¬ (MayEnter t r i) → IsBestColumn t r i best → IsBestColumn t r (i + 1) best
best_kept t r i None none h = below_more (λ k. ¬ (MayEnter t r k)) i h none
best_kept t r i (Some k) none h = (omega (arith, h.0), h.1, below_more (λ j. MayEnter t r j → ComesFirst t r k j) i h.2 (λ m. absurd (none m)))

-- ---- signed products
low_low : (a b : ℤ) → a ≤ℤ pos 0 → b ≤ℤ pos 0 → pos 0 ≤ℤ (a *ℤ b)
low_low a b h k =
    let n : pos 0 ≤ℤ neg_ℤ a = omega (arith, ints, h) in
    let m = *ℤ-nonpositive (neg_ℤ a) b n k in
    let e = *ℤ-neg_ℤ_left a b in
    omega (arith, ints, m, e)

lift_le : (a b : ℕ) → a ≤ b → pos a ≤ℤ pos b
lift_le a b h = omega (arith, ints, h)

pub signed_le : (a b c d : ℤ) → a ≤ℤ pos 0 → b ≤ℤ pos 0 → c ≤ℤ pos 0 → d ≤ℤ pos 0 → unsigned_abs a * unsigned_abs b ≤ unsigned_abs c * unsigned_abs d → (a *ℤ b) ≤ℤ (c *ℤ d)
signed_le a b c d ha hb hc hd h =
    let x = unsigned_abs-*ℤ a b in
    let y = unsigned_abs-*ℤ c d in
    let l : unsigned_abs (a *ℤ b) ≤ unsigned_abs (c *ℤ d) = omega (arith, x, y, h) in
    let m = lift_le _ _ l in
    let p = unsigned_abs-of_nonnegative (a *ℤ b) (low_low a b ha hb) in
    let q = unsigned_abs-of_nonnegative (c *ℤ d) (low_low c d hc hd) in
    omega (arith, ints, m, p, q)
