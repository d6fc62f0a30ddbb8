-- What shows an answer to a problem at a setting: a feasible point with multipliers whose Lagrangian bound is its value;
-- multipliers that no point can meet; or a feasible point and a ray of unbounded descent.
use Rattle.std.specs.Prelude.{◌≡◌, ℕ, suc, List, [], ◌∷◌, pos}
use Rattle.dcx_math.specs.Rational.{ℚ, whole, ◌+ℚ◌, ◌-ℚ◌, ◌*ℚ◌, ◌≤ℚ◌, ◌<ℚ◌}
use Rattle.dcx_math.specs.Sums.{IsNonnegative, rat_sum_below}
use Rattle.dcx_atom.specs.Signs.{shifted}
use Rattle.dcx_convex.specs.Nodes.{Numbers, Point, Setting, value_at, IsInDomain}
use Rattle.dcx_convex.specs.Problems.{Relation, AtMost, Equal, Constraint, Problem, EachRow, objective_of, gap_of, objective_at, IsFeasible}

-- a multiplier for each entry of each constraint
abbrev pub Multipliers : Type 0
Multipliers = ℕ → ℕ → ℚ

-- a multiplier of left <= right is at least 0
abbrev pub MayMultiply : Relation → ℚ → Type 0
MayMultiply AtMost m = IsNonnegative m
MayMultiply Equal m = Unit {0}

abbrev pub AreMultipliers : Problem → Multipliers → Type 0
AreMultipliers p m = EachRow p (λ k c j. MayMultiply c.relation (m k j))

-- the sum of multipliers times left minus right, over these constraints and their entries
abbrev pub weighed : (Constraint → ℕ → ℚ) → List Constraint → Multipliers → ℚ
weighed gap [] m = whole (pos 0)
weighed gap (c ∷ constraints) m = rat_sum_below c.size (λ j. m 0 j *ℚ gap c j) +ℚ weighed gap constraints (λ k. m (suc k))

-- the same over all constraints of the problem, and the Lagrangian, where the nodes have the arrays f
abbrev pub penalty_of : Problem → Multipliers → (ℕ → Numbers) → ℚ
penalty_of p m f = weighed (gap_of f) p.constraints m

abbrev pub lagrangian_of : Problem → Multipliers → (ℕ → Numbers) → ℚ
lagrangian_of p m f = objective_of p f +ℚ penalty_of p m f

-- the same at a setting and a point
abbrev pub penalty : Problem → Setting → Point → Multipliers → ℚ
penalty p s x m = penalty_of p m (value_at p.nodes s x)

abbrev pub lagrangian : Problem → Setting → Point → Multipliers → ℚ
lagrangian p s x m = lagrangian_of p m (value_at p.nodes s x)

-- x is feasible with value v, and the Lagrangian with the multipliers m is at least v at every point of the domain
pub record IsOptimal (p : Problem) (s : Setting) (v : ℚ) (x : Point) (m : Multipliers) : Type 0 where
  pub feasible : IsFeasible p s x
  pub value : objective_at p s x ≡ v
  pub multipliers : AreMultipliers p m
  pub bound : (y : Point) → IsInDomain p.nodes y → v ≤ℚ lagrangian p s y m

-- the constraints times the multipliers are at least the gap g, which is above 0, at every point of the domain: so no point keeps them all
pub record IsInfeasible (p : Problem) (s : Setting) (m : Multipliers) (g : ℚ) : Type 0 where
  pub positive : whole (pos 0) <ℚ g
  pub multipliers : AreMultipliers p m
  pub bound : (y : Point) → IsInDomain p.nodes y → g ≤ℚ penalty p s y m

-- from x along d all points are feasible, and from the bound b on the objective falls by at least the slope e for each step
pub record IsUnbounded (p : Problem) (s : Setting) (x d : Point) (b e : ℚ) : Type 0 where
  pub positive : whole (pos 0) <ℚ e
  pub feasible : (k : ℚ) → IsNonnegative k → IsFeasible p s (shifted x k d)
  pub falls : (k : ℚ) → IsNonnegative k → objective_at p s (shifted x k d) ≤ℚ b -ℚ k *ℚ e
