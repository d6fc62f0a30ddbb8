-- Choices of k of n entries, and that the k largest have the greatest sum of all choices, and the k smallest the least.
use Rattle.std.specs.Prelude.{◌≡◌, ℕ, zero, suc, ◌≤◌, Bool, if◌then◌else◌, pos}
use Rattle.dcx_math.specs.Rational.{ℚ, whole, ◌≤ℚ◌}
use Rattle.dcx_math.specs.Sums.{rat_sum, rat_sum_below}
use Rattle.dcx_atom.specs.declared.flags.Bend.TheVariants.{Convex, Concave}
use Rattle.dcx_fold.specs.Largest.{chosen}

-- whether each entry is picked
abbrev pub Choice : Type 0
Choice = ℕ → Bool

-- how many of the first n entries are picked
abbrev pub count_picked : ℕ → Choice → ℕ
count_picked zero picks = 0
count_picked (suc n) picks = if picks 0 then suc (count_picked n (λ i. picks (suc i))) else count_picked n (λ i. picks (suc i))

-- the sum of those that are picked
abbrev pub sum_picked : ℕ → Choice → (ℕ → ℚ) → ℚ
sum_picked n picks x = rat_sum_below n (λ i. if picks i then x i else whole (pos 0))

-- no choice of k of n entries has a greater sum than the k largest, or a smaller one than the k smallest, and one choice has that sum
pub record HoldsForChoices : Type 0 where
  pub greatest : (k n : ℕ) (x : ℕ → ℚ) (picks : Choice) → count_picked n picks ≡ k → sum_picked n picks x ≤ℚ rat_sum (chosen Convex k n x)
  pub largest : (k n : ℕ) (x : ℕ → ℚ) → k ≤ n → (picks : Choice) × (count_picked n picks ≡ k) × (sum_picked n picks x ≡ rat_sum (chosen Convex k n x))
  pub least : (k n : ℕ) (x : ℕ → ℚ) (picks : Choice) → count_picked n picks ≡ k → rat_sum (chosen Concave k n x) ≤ℚ sum_picked n picks x
  pub smallest : (k n : ℕ) (x : ℕ → ℚ) → k ≤ n → (picks : Choice) × (count_picked n picks ≡ k) × (sum_picked n picks x ≡ rat_sum (chosen Concave k n x))
