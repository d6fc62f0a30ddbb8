-- Rays along which a problem is unbounded, and what calls have to keep for that.
use Rattle.std.specs.Prelude.{◌≡◌, ◌⊎◌, ℕ, ◌<◌, List, pos}
use Rattle.dcx_math.specs.Rational.{ℚ, whole, ◌+ℚ◌, ◌*ℚ◌, neg_ℚ, ◌≤ℚ◌, ◌<ℚ◌}
use Rattle.dcx_math.specs.Sums.{IsNonnegative}
use Rattle.dcx_atom.specs.declared.flags.Bend.{Bend}
use Rattle.dcx_atom.specs.Arrays.{Entries}
use Rattle.dcx_atom.specs.Signs.{IsBeyond, shifted}
use Rattle.dcx_convex.specs.Calls.{Kind, Nonlinear, Linear, Product, Quotient, Call}
use Rattle.dcx_convex.specs.Nodes.{Head, Variable, Parameter, Constant, Apply, Node, EachNode, Point, Setting, IsInDomain}
use Rattle.dcx_convex.specs.Problems.{Problem, EachRow, objective_of, gap_of, objective_at, Holds, IsFeasible}
use Rattle.dcx_right.specs.Steepness.{steep_at}

-- ---- the recession law of calls
-- one side stands, and is the same in the ray; the other goes from a along b by k to c
pub record OneGoes (stands goes : ℕ) (k : ℚ) (a b c : Entries) : Type 0 where
  pub still : c stands ≡ a stands
  pub same : b stands ≡ a stands
  pub moved : c goes ≡ shifted a k b goes

-- a call of this kind is convex, or concave, along the way from a along b by k to c
abbrev pub BendsAlong : Kind → Bend → (k : ℚ) → (a b c : Entries) → Type 0
BendsAlong (Nonlinear own) bend k a b c = (own ≡ bend) × (c ≡ shifted a k b)
BendsAlong Linear bend k a b c = c ≡ shifted a k b
BendsAlong Product bend k a b c = OneGoes 0 1 k a b c ⊎ OneGoes 1 0 k a b c
BendsAlong Quotient bend k a b c = OneGoes 1 0 k a b c

-- the value there isn't beyond that at a and k times that at b
abbrev pub Recedes : Call → Type 0
Recedes call = (bend : Bend) (k : ℚ) (a b c : Entries) → IsNonnegative k → BendsAlong call.kind bend k a b c → (j : ℕ) → j < call.size →
    IsBeyond bend (call.value c j) (call.value a j +ℚ k *ℚ call.value b j)

abbrev pub HeadRecedes : Head → Type 0
HeadRecedes (Variable d) = Unit {0}
HeadRecedes (Parameter d) = Unit {0}
HeadRecedes (Constant xs) = Unit {0}
HeadRecedes (Apply c) = Recedes c

-- each call does
abbrev pub AreReceding : List Node → Type 0
AreReceding nodes = EachNode nodes (λ n. HeadRecedes n.head)

-- ---- rays
-- x is feasible and its objective is at most b. Along the ray d no variable leaves what its attribute says; left is at most as steep
-- as right, or as steep, in each entry of each constraint; and the minimized objective falls by at least e for each step
pub record IsRay (p : Problem) (s : Setting) (x d : Point) (b e : ℚ) : Type 0 where
  pub positive : whole (pos 0) <ℚ e
  pub feasible : IsFeasible p s x
  pub start : objective_at p s x ≤ℚ b
  pub domain : IsInDomain p.nodes d
  pub rows : EachRow p (λ k c j. Holds c.relation (gap_of (steep_at p.nodes s d) c j))
  pub falls : objective_of p (steep_at p.nodes s d) ≤ℚ neg_ℚ e
