-- At one setting no two kinds of answer hold together, and two optimal answers have one value.
use Rattle.std.proofs.Common.{◌≡◌, ℕ, suc, ◌<◌, List, [], ◌∷◌, Some, slice_get, refl, ap, ◌∙◌, pos}
use mathlib.Core.Logic.{∥∥₁_elim}
use Rattle.dcx_math.specs.Rational.{ℚ, whole, ◌+ℚ◌, ◌-ℚ◌, ◌*ℚ◌, ◌≤ℚ◌}
use Rattle.dcx_math.proofs.Ring.{reads}
use Rattle.dcx_math.proofs.Orders.{≤ℚ_refl, ≤ℚ_trans, ≤ℚ_antisym, ≤ℚ-from_≡, linear, +ℚ-≤ℚ, +ℚ-nonpositive, *ℚ-zero, <ℚ-not}
use Rattle.dcx_math.proofs.Products.{falls_below, zero-<ℚ-one, *ℚ-nonpositive}
use Rattle.dcx_math.proofs.Sums.{rat_sum_below-monotone, rat_sum_below-zero}
use Rattle.dcx_atom.specs.Signs.{shifted}
use Rattle.dcx_convex.specs.Nodes.{Point, Setting}
use Rattle.dcx_convex.specs.Problems.{Relation, AtMost, Equal, Constraint, Problem, objective_at, gap_at, Holds, IsFeasible}
use Rattle.dcx_convex.specs.Answers.{Multipliers, MayMultiply, weighed, penalty, IsOptimal, IsInfeasible, IsUnbounded}
use Rattle.dcx_convex.specs.Laws.{AnswersAgree}

-- a multiplier times what holds is at most 0
one_nonpositive : (relation : Relation) (m gap : ℚ) → MayMultiply relation m → Holds relation gap → m *ℚ gap ≤ℚ whole (pos 0)
one_nonpositive AtMost m gap h k = *ℚ-nonpositive h k
one_nonpositive Equal m gap h k = ≤ℚ-from_≡ (ap (λ u. m *ℚ u) k ∙ *ℚ-zero m)

pub weighed_nonpositive : (gap : Constraint → ℕ → ℚ) (constraints : List Constraint) (m : Multipliers) →
    ((k : ℕ) (c : Constraint) → slice_get constraints k ≡ Some c → (j : ℕ) → j < c.size → MayMultiply c.relation (m k j)) →
    ((k : ℕ) (c : Constraint) → slice_get constraints k ≡ Some c → (j : ℕ) → j < c.size → Holds c.relation (gap c j)) → weighed gap constraints m ≤ℚ whole (pos 0)
weighed_nonpositive gap [] m h k = ≤ℚ_refl _
weighed_nonpositive gap (c ∷ constraints) m h k =
    +ℚ-nonpositive
    (≤ℚ_trans (rat_sum_below-monotone c.size (λ j. m 0 j *ℚ gap c j) (λ _. whole (pos 0))
    (λ j b. one_nonpositive c.relation (m 0 j) (gap c j) (h 0 c refl j b) (k 0 c refl j b))) (≤ℚ-from_≡ (rat_sum_below-zero c.size)))
    (weighed_nonpositive gap constraints (λ n. m (suc n)) (λ n. h (suc n)) (λ n. k (suc n)))

-- a bound holds without a summand that is at most 0
pub without : (v a b : ℚ) → v ≤ℚ a +ℚ b → b ≤ℚ whole (pos 0) → v ≤ℚ a
without v a b h k = linear (v ∷ a ∷ b ∷ []) (+ℚ-≤ℚ h k) (search reads depth 30) tt

pub less_by_one : (v : ℚ) → v ≤ℚ v -ℚ whole (pos 1) → whole (pos 1) ≤ℚ whole (pos 0)
less_by_one v h = linear (v ∷ []) h (search reads depth 30) tt

module _ (p : Problem) (s : Setting) where
  -- no feasible point has a smaller objective than the value
  pub none_below : (v : ℚ) (x y : Point) (m : Multipliers) → IsOptimal p s v x m → IsFeasible p s y → v ≤ℚ objective_at p s y
  none_below v x y m h f = without v (objective_at p s y) (penalty p s y m) (h.bound y f.domain) (weighed_nonpositive (gap_at p s y) p.constraints m h.multipliers f.holds)

  -- an infeasible problem has no feasible point
  pub none_feasible : (m : Multipliers) (g : ℚ) (y : Point) → IsInfeasible p s m g → IsFeasible p s y → ⊥
  none_feasible m g y h f = <ℚ-not h.positive (≤ℚ_trans (h.bound y f.domain) (weighed_nonpositive (gap_at p s y) p.constraints m h.multipliers f.holds))

  not_unbounded : (v b e : ℚ) (x y d : Point) (m : Multipliers) → IsOptimal p s v x m → IsUnbounded p s y d b e → ⊥
  not_unbounded v b e x y d m h k =
      let none : IsProp ⊥ = hlevel in
      ∥∥₁_elim (falls_below b (v -ℚ whole (pos 1)) e k.positive) none (λ q. <ℚ-not zero-<ℚ-one (less_by_one v
      (≤ℚ_trans (none_below v x (shifted y q.0 d) m h (k.feasible q.0 q.1.0)) (≤ℚ_trans (k.falls q.0 q.1.0) q.1.1))))

  pub agree : AnswersAgree p s
  agree = record {
    one_value = λ v w x y m n h k. ≤ℚ_antisym (≤ℚ_trans (none_below v x y m h k.feasible) (≤ℚ-from_≡ k.value)) (≤ℚ_trans (none_below w y x n k h.feasible) (≤ℚ-from_≡ h.value));
    not_infeasible = λ v g x m n h k. none_feasible n g x k h.feasible;
    not_unbounded = not_unbounded;
    not_both = λ g b e x d m h k. none_feasible m g (shifted x (whole (pos 0)) d) h (k.feasible (whole (pos 0)) (≤ℚ_refl _));
  }
