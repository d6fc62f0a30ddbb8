-- Along a ray an accepted problem is unbounded.
use Rattle.std.proofs.Common.{◌≡◌, ℕ, Bool, IsTrue, [], ◌∷◌, ap₂, ◌∙◌, pos}
use Rattle.std.specs.List.{list_all}
use Rattle.std.proofs.lemmas.Bool.{and_parts}
use Rattle.dcx_math.specs.Rational.{ℚ, whole, ◌+ℚ◌, ◌-ℚ◌, ◌*ℚ◌, neg_ℚ, ◌≤ℚ◌}
use Rattle.dcx_math.specs.Sums.{IsNonnegative}
use Rattle.dcx_math.proofs.Ring.{ring, reads}
use Rattle.dcx_math.proofs.Orders.{linear, +ℚ-≤ℚ, *ℚ-≤ℚ}
use Rattle.dcx_atom.specs.declared.flags.Bend.TheVariants.{Convex, Concave}
use Rattle.dcx_atom.specs.Signs.{shifted}
use Rattle.dcx_convex.specs.Nodes.{Point, Setting, IsOrdered, value_at, Fits, AreLawful}
use Rattle.dcx_convex.specs.Rules.{Plain, Judgement, is_affine, judgement_at}
use Rattle.dcx_convex.specs.Problems.{Sense, Minimize, Maximize, Relation, AtMost, Equal, Constraint, Problem, may_be_objective, may_be_sides, IsAccepted, minimized, Holds, IsFeasible}
use Rattle.dcx_convex.specs.Answers.{IsUnbounded}
use Rattle.dcx_convex.proofs.Acceptance.{all_at}
use Rattle.dcx_convex.proofs.Beyond.{IsBeyondAs, affine_same}
use Rattle.dcx_right.specs.Steepness.{steep_at}
use Rattle.dcx_right.specs.Rays.{AreReceding, IsRay}
use Rattle.dcx_right.proofs.Along.{shifted_domain, nodes_along}

-- ---- the objective
down : (k b e w v f : ℚ) → w ≤ℚ v +ℚ k *ℚ f → v ≤ℚ b → k *ℚ f ≤ℚ k *ℚ neg_ℚ e → w ≤ℚ b -ℚ k *ℚ e
down k b e w v f h p q = linear (k ∷ b ∷ e ∷ w ∷ v ∷ f ∷ []) (+ℚ-≤ℚ h (+ℚ-≤ℚ p q)) (search reads depth 30 fits 4000) tt

up : (k b e w v f : ℚ) → v +ℚ k *ℚ f ≤ℚ w → neg_ℚ v ≤ℚ b → k *ℚ neg_ℚ f ≤ℚ k *ℚ neg_ℚ e → neg_ℚ w ≤ℚ b -ℚ k *ℚ e
up k b e w v f h p q = linear (k ∷ b ∷ e ∷ w ∷ v ∷ f ∷ []) (+ℚ-≤ℚ h (+ℚ-≤ℚ p q)) (search reads depth 30 fits 4000) tt

-- the minimized objective falls as its steepness does
objective_falls : (sense : Sense) (g : Judgement) (k b e w v f : ℚ) → IsTrue (may_be_objective sense g) → IsNonnegative k → IsBeyondAs g w (v +ℚ k *ℚ f) →
    minimized sense v ≤ℚ b → minimized sense f ≤ℚ neg_ℚ e → minimized sense w ≤ℚ b -ℚ k *ℚ e
objective_falls Minimize g k b e w v f t low h p q = down k b e w v f (h Convex t) p (*ℚ-≤ℚ low q)
objective_falls Maximize g k b e w v f t low h p q = up k b e w v f (h Concave t) p (*ℚ-≤ℚ low q)

-- ---- the constraints
gap_ahead : (k l r v f u g : ℚ) → l ≤ℚ v +ℚ k *ℚ f → u +ℚ k *ℚ g ≤ℚ r → v -ℚ u ≤ℚ whole (pos 0) → k *ℚ (f -ℚ g) ≤ℚ k *ℚ whole (pos 0) → l -ℚ r ≤ℚ whole (pos 0)
gap_ahead k l r v f u g p q m n = linear (k ∷ l ∷ r ∷ v ∷ f ∷ u ∷ g ∷ []) (+ℚ-≤ℚ (+ℚ-≤ℚ p q) (+ℚ-≤ℚ m n)) (search reads depth 30 fits 4000) tt

gap_level : (k v f u g : ℚ) → v +ℚ k *ℚ f -ℚ (u +ℚ k *ℚ g) ≡ v -ℚ u +ℚ k *ℚ (f -ℚ g)
gap_level k v f u g = ring (k ∷ v ∷ f ∷ u ∷ g ∷ []) (search reads depth 30 fits 4000) tt

nothing : (k : ℚ) → whole (pos 0) +ℚ k *ℚ whole (pos 0) ≡ whole (pos 0)
nothing k = ring (k ∷ []) (search reads depth 30) tt

-- a constraint that holds at the point and of the steepness holds along the ray
still_holds : (relation : Relation) (g h : Judgement) (k l r v f u w : ℚ) → IsTrue (may_be_sides relation g h) → IsNonnegative k → IsBeyondAs g l (v +ℚ k *ℚ f) → IsBeyondAs h r (u +ℚ k *ℚ w) →
    Holds relation (v -ℚ u) → Holds relation (f -ℚ w) → Holds relation (l -ℚ r)
still_holds AtMost g h k l r v f u w t low left right here ray =
    let b = and_parts g.convex h.concave t in
    gap_ahead k l r v f u w (left Convex b.0) (right Concave b.1) here (*ℚ-≤ℚ low ray)
still_holds Equal g h k l r v f u w t low left right here ray =
    let b = and_parts (is_affine g) (is_affine h) t in
    ap₂ ◌-ℚ◌ (affine_same g l (v +ℚ k *ℚ f) b.0 left) (affine_same h r (u +ℚ k *ℚ w) b.1 right) ∙ gap_level k v f u w
    ∙ ap₂ (λ m n. m +ℚ k *ℚ n) here ray ∙ nothing k

module _ (p : Problem) (ordered : IsOrdered p.nodes) (law : AreLawful p.nodes) (recede : AreReceding p.nodes) (ok : IsAccepted p) (s : Setting) (fit : Fits p.nodes s) (x d : Point) (b e : ℚ)
    (ray : IsRay p s x d b e) where
  abbrev sides_taken : Constraint → Bool
  sides_taken c = may_be_sides c.relation (judgement_at Plain p.nodes c.left) (judgement_at Plain p.nodes c.right)

  taken : IsTrue (may_be_objective p.sense (judgement_at Plain p.nodes p.objective)) × IsTrue (list_all sides_taken p.constraints)
  taken = and_parts (may_be_objective p.sense (judgement_at Plain p.nodes p.objective)) (list_all sides_taken p.constraints) ok

  along : (k : ℚ) → IsNonnegative k → (i j : ℕ) → IsBeyondAs (judgement_at Plain p.nodes i) (value_at p.nodes s (shifted x k d) i j) (value_at p.nodes s x i j +ℚ k *ℚ steep_at p.nodes s d i j)
  along k low i j = nodes_along p.nodes ordered law recede s fit.parameters x d ray.feasible.domain ray.domain k low i j

  feasible : (k : ℚ) → IsNonnegative k → IsFeasible p s (shifted x k d)
  feasible k low = record {
    domain = shifted_domain p.nodes x d k low ray.feasible.domain ray.domain;
    holds = λ n c at j below.
        still_holds c.relation (judgement_at Plain p.nodes c.left) (judgement_at Plain p.nodes c.right) k _ _ _ _ _ _ (all_at sides_taken p.constraints taken.1 n c at) low
        (along k low c.left j) (along k low c.right j) (ray.feasible.holds n c at j below) (ray.rows n c at j below);
  }

  pub unbounded : IsUnbounded p s x d b e
  unbounded = record {
    positive = ray.positive;
    feasible = feasible;
    falls = λ k low. objective_falls p.sense (judgement_at Plain p.nodes p.objective) k b e _ _ _ taken.0 low (along k low p.objective 0) ray.start ray.falls;
  }
