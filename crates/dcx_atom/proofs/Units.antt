-- Fillings of one unknown alone, and what is left at them.
use Rattle.std.proofs.Common.{◌≡◌, ◌≢◌, ℕ, [], ◌∷◌, refl, subst, pos, negsuc}
use Rattle.std.proofs.Common.{◌<◌}
use native.Mathlib.Decide.{ℕ_discrete}
use Rattle.dcx_math.specs.Rational.{ℚ, whole, neg_ℚ, ◌+ℚ◌, ◌*ℚ◌, ◌≤ℚ◌}
use Rattle.dcx_math.specs.Sums.{IsNonnegative, rat_sum_below}
use Rattle.dcx_math.proofs.Ring.{ring, reads}
use Rattle.dcx_math.proofs.Orders.{≤ℚ_refl, <ℚ-≤ℚ, ≤ℚ_antisym, linear}
use Rattle.dcx_math.proofs.Products.{whole-suc_positive}
use Rattle.dcx_math.proofs.Sums.{rat_sum_below-one}
use Rattle.dcx_atom.specs.declared.flags.Bend.{Bend}
use Rattle.dcx_atom.specs.declared.flags.Bend.TheVariants.{Convex, Concave}
use Rattle.dcx_atom.specs.Bounding.{outward}
use Rattle.dcx_atom.specs.Rows.{Filling}
use Rattle.dcx_atom.proofs.BoundRows.{taken}

-- x where the numbers are the same, and 0 else
picked : {i k : ℕ} → Dec (i ≡ k) → ℚ → ℚ
picked (yes e) x = x
picked (no d) x = whole (pos 0)

-- unknown k is x, and each other one 0
pub only_at : ℕ → ℚ → Filling
only_at k x i = picked (ℕ_discrete i k) x

pub at_itself : (k : ℕ) (x : ℚ) → only_at k x k ≡ x
unfolding only_at picked
at_itself k x = by (ℕ_discrete k k)
  where
    by : (d : Dec (k ≡ k)) → picked d x ≡ x
    by (yes e) = refl
    by (no d) = absurd (d refl)

pub at_other : (k : ℕ) (x : ℚ) (i : ℕ) → i ≢ k → only_at k x i ≡ whole (pos 0)
unfolding only_at picked
at_other k x i n = by (ℕ_discrete i k)
  where
    by : (d : Dec (i ≡ k)) → picked d x ≡ whole (pos 0)
    by (yes e) = absurd (n e)
    by (no d) = refl

pub one_nonnegative : IsNonnegative (whole (pos 1))
one_nonnegative = <ℚ-≤ℚ (whole-suc_positive 0)

-- where x is at least 0, each is
pub only_nonnegative : (k : ℕ) (x : ℚ) → IsNonnegative x → (i : ℕ) → IsNonnegative (only_at k x i)
unfolding only_at picked
only_nonnegative k x h i = by (ℕ_discrete i k)
  where
    by : (d : Dec (i ≡ k)) → IsNonnegative (picked d x)
    by (yes e) = h
    by (no d) = ≤ℚ_refl (whole (pos 0))

pub minus_nonpositive : whole (negsuc 0) ≤ℚ whole (pos 0)
minus_nonpositive = linear [] one_nonnegative (search reads depth 30) tt

-- where x is at most 0, each is
pub only_nonpositive : (k : ℕ) (x : ℚ) → x ≤ℚ whole (pos 0) → (i : ℕ) → only_at k x i ≤ℚ whole (pos 0)
unfolding only_at picked
only_nonpositive k x h i = by (ℕ_discrete i k)
  where
    by : (d : Dec (i ≡ k)) → picked d x ≤ℚ whole (pos 0)
    by (yes e) = h
    by (no d) = ≤ℚ_refl (whole (pos 0))

-- of a sum that is at least 0, the only term that isn't 0 is
pub one_left : (n k : ℕ) (f : ℕ → ℚ) → k < n → ((i : ℕ) → i < n → i ≢ k → f i ≡ whole (pos 0)) → IsNonnegative (rat_sum_below n f) → IsNonnegative (f k)
one_left n k f b none h = subst IsNonnegative (rat_sum_below-one n k f b none) h

-- ---- c times an unknown alone, and what rows whose weights sum to s take away
abbrev pub left_over : Bend → ℚ → ℚ → ℚ → ℚ
left_over bend c s t = c *ℚ (whole (pos 1) *ℚ t +ℚ whole (pos 0)) +ℚ taken bend s t

pub nothing_over : (bend : Bend) (c s : ℚ) → left_over bend c s (whole (pos 0)) ≡ whole (pos 0)
nothing_over Convex c s = ring (c ∷ s ∷ []) (search reads depth 30) tt
nothing_over Concave c s = ring (c ∷ s ∷ []) (search reads depth 30) tt

-- where it is at least 0 at 1, the weights are at most c
pub at_most_of : (c s : ℚ) → IsNonnegative (left_over Convex c s (whole (pos 1))) → s ≤ℚ c
at_most_of c s h = linear (c ∷ s ∷ []) h (search reads depth 30) tt

at_least_of : (c s : ℚ) → IsNonnegative (left_over Convex c s (whole (negsuc 0))) → c ≤ℚ s
at_least_of c s h = linear (c ∷ s ∷ []) h (search reads depth 30) tt

turned_least : (c s : ℚ) → IsNonnegative (left_over Concave c s (whole (pos 1))) → neg_ℚ c ≤ℚ s
turned_least c s h = linear (c ∷ s ∷ []) h (search reads depth 30) tt

turned_most : (c s : ℚ) → IsNonnegative (left_over Concave c s (whole (negsuc 0))) → s ≤ℚ neg_ℚ c
turned_most c s h = linear (c ∷ s ∷ []) h (search reads depth 30) tt

-- where it is at 1 and at -1, they are c as the call counts it
pub level_of : (bend : Bend) (c s : ℚ) → IsNonnegative (left_over bend c s (whole (pos 1))) → IsNonnegative (left_over bend c s (whole (negsuc 0))) → s ≡ outward bend c
level_of Convex c s h k = ≤ℚ_antisym (at_most_of c s h) (at_least_of c s k)
level_of Concave c s h k = ≤ℚ_antisym (turned_most c s k) (turned_least c s h)
