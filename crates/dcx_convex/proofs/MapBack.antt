-- An answer that is right for a reduced program is an answer of the problem, with the multipliers of the constraints alone.
use Rattle.std.proofs.Common.{◌≡◌, ℕ, suc, Bool, IsTrue, List, [], ◌∷◌, Some, slice_get, refl, ap, ap₂, ◌∙◌, subst, pos}
use Rattle.std.specs.List.{list_all}
use Rattle.std.proofs.lemmas.Bool.{and_parts}
use Rattle.dcx_math.specs.Rational.{ℚ, whole, ◌+ℚ◌, ◌-ℚ◌, ◌*ℚ◌, ◌≤ℚ◌}
use Rattle.dcx_math.specs.Sums.{IsNonnegative}
use Rattle.dcx_math.proofs.Ring.{reads}
use Rattle.dcx_math.proofs.Orders.{≤ℚ_refl, ≤ℚ_trans, ≤ℚ_antisym, ≤ℚ-from_≡, linear, +ℚ-≤ℚ, +ℚ-nonpositive, neg_ℚ-≤ℚ}
use Rattle.dcx_math.proofs.Products.{*ℚ-nonpositive}
use Rattle.dcx_math.proofs.Sums.{rat_sum_below-same}
use Rattle.dcx_atom.specs.declared.flags.Bend.TheVariants.{Convex, Concave}
use Rattle.dcx_convex.specs.Nodes.{Point, Setting, value_at, IsInDomain, Fits, AreLawful}
use Rattle.dcx_convex.specs.Rules.{Rules, Judgement, is_affine, judgement_at}
use Rattle.dcx_convex.specs.Problems.{Sense, Minimize, Maximize, Relation, AtMost, Equal, Constraint, Problem, may_be_objective}
use Rattle.dcx_convex.specs.Problems.{may_be_sides, accepted_by, minimized, objective_of, gap_of, objective_at, gap_at, Holds, IsFeasible}
use Rattle.dcx_convex.specs.Answers.{Multipliers, weighed, penalty_of, penalty, lagrangian, IsOptimal, IsInfeasible, IsUnbounded}
use Rattle.dcx_convex.specs.Reductions.{IsWellFormed, Reduced, Unknowns, further, IsLifted, IsReduction, Solves, rows_weighed, IsRightOptimal, IsRightInfeasible, IsRightUnbounded}
use Rattle.dcx_convex.proofs.Beyond.{IsBeyondAs, affine_same}
use Rattle.dcx_convex.proofs.Acceptance.{all_at}
use Rattle.dcx_convex.proofs.SideInduction.{side}
use Rattle.dcx_convex.proofs.OneAnswer.{weighed_nonpositive, without}

-- ---- down: what the forms say of the values
minimized_below : (sense : Sense) (g : Judgement) (v f : ℚ) → IsTrue (may_be_objective sense g) → IsBeyondAs g v f → minimized sense v ≤ℚ minimized sense f
minimized_below Minimize g v f t h = h Convex t
minimized_below Maximize g v f t h = neg_ℚ-≤ℚ (h Concave t)

gap_below : (l r m n : ℚ) → l ≤ℚ m → n ≤ℚ r → l -ℚ r ≤ℚ m -ℚ n
gap_below l r m n h k = linear (l ∷ r ∷ m ∷ n ∷ []) (+ℚ-≤ℚ h k) (search reads depth 30) tt

-- a constraint that the rules take holds of the values where it holds of the forms
one_holds : (relation : Relation) (g k : Judgement) (l r m n : ℚ) → IsTrue (may_be_sides relation g k) → IsBeyondAs g l m → IsBeyondAs k r n → Holds relation (m -ℚ n) → Holds relation (l -ℚ r)
one_holds AtMost g k l r m n t hl hr h = let b = and_parts g.convex k.concave t in ≤ℚ_trans (gap_below l r m n (hl Convex b.0) (hr Concave b.1)) h
one_holds Equal g k l r m n t hl hr h =
    let b = and_parts (is_affine g) (is_affine k) t in
    ap₂ ◌-ℚ◌ (affine_same g l m b.0 hl) (affine_same k r n b.1 hr) ∙ h

-- ---- up: weights of the rows go away
rows_nonpositive : (rows : List (Unknowns → ℚ)) (w : ℕ → ℚ) (u : Unknowns) → ((k : ℕ) → IsNonnegative (w k)) → ((k : ℕ) (row : Unknowns → ℚ) → slice_get rows k ≡ Some row → row u ≤ℚ whole (pos 0)) →
    rows_weighed rows w u ≤ℚ whole (pos 0)
rows_nonpositive [] w u h k = ≤ℚ_refl _
rows_nonpositive (row ∷ rows) w u h k = +ℚ-nonpositive (*ℚ-nonpositive (h 0) (k 0 row refl)) (rows_nonpositive rows (λ n. w (suc n)) u (λ n. h (suc n)) (λ n. k (suc n)))

-- constraints weighed by gaps that are the same
pub weighed_same : (f g : Constraint → ℕ → ℚ) (constraints : List Constraint) (m : Multipliers) → ((k : ℕ) (c : Constraint) → slice_get constraints k ≡ Some c → (j : ℕ) → f c j ≡ g c j) →
    weighed f constraints m ≡ weighed g constraints m
weighed_same f g [] m h = refl
weighed_same f g (c ∷ constraints) m h =
    ap₂ ◌+ℚ◌ (rat_sum_below-same c.size (λ j. m 0 j *ℚ f c j) (λ j. m 0 j *ℚ g c j) (λ j b. ap (λ u. m 0 j *ℚ u) (h 0 c refl j)))
    (weighed_same f g constraints (λ k. m (suc k)) (λ k. h (suc k)))

regroup : (v a b c : ℚ) → v ≤ℚ a +ℚ (b +ℚ c) → c ≤ℚ whole (pos 0) → v ≤ℚ a +ℚ b
regroup v a b c h k = linear (v ∷ a ∷ b ∷ c ∷ []) (+ℚ-≤ℚ h k) (search reads depth 30) tt

module _ (rules : Rules) (p : Problem) (law : AreLawful p.nodes) (formed : IsWellFormed p) (ok : IsTrue (accepted_by rules p)) (s : Setting) (fit : Fits p.nodes s)
    (r : Reduced) (reduction : IsReduction rules p s r) where
  abbrev sides_taken : Constraint → Bool
  sides_taken c = may_be_sides c.relation (judgement_at rules p.nodes c.left) (judgement_at rules p.nodes c.right)

  -- what a solution of the rows shows
  pub record Projects (u : Unknowns) : Type 0 where
    pub feasible : IsFeasible p s (r.point u)
    pub below : objective_at p s (r.point u) ≤ℚ objective_of p (r.forms u)

  -- a solution gives a feasible point whose objective is no greater
  pub projects : (u : Unknowns) → Solves p r u → Projects u
  projects u h =
      let dom = reduction.domain u h.assignment in
      let taken = and_parts (may_be_objective p.sense (judgement_at rules p.nodes p.objective)) (list_all sides_taken p.constraints) ok in
      let beyond = side rules p.nodes formed.ordered law s fit (r.point u) dom (r.forms u) (reduction.sound u h.assignment h.rows) in
      record {
        feasible = record {
          domain = dom;
          holds = λ k c e j b.
              one_holds c.relation (judgement_at rules p.nodes c.left) (judgement_at rules p.nodes c.right) (value_at p.nodes s (r.point u) c.left j) (value_at p.nodes s (r.point u) c.right j)
              (r.forms u c.left j) (r.forms u c.right j) (all_at sides_taken p.constraints taken.1 k c e) ((beyond c.left (formed.sides k c e).0).beyond j)
              ((beyond c.right (formed.sides k c e).1).beyond j) (h.holds k c e j b);
        };
        below = minimized_below p.sense (judgement_at rules p.nodes p.objective) (value_at p.nodes s (r.point u) p.objective 0) (r.forms u p.objective 0) taken.0
            ((beyond p.objective formed.objective).beyond 0);
      }

  -- the penalty of the lifted point is that of the point
  pub lifted_penalty : (y : Point) (m : Multipliers) (u : Unknowns) → IsLifted r p s y u → penalty_of p m (r.forms u) ≡ penalty p s y m
  lifted_penalty y m u h =
      weighed_same (gap_of (r.forms u)) (gap_at p s y) p.constraints m
      (λ k c e j. ap₂ ◌-ℚ◌ (ap (λ f. f j) (h.same c.left (formed.sides k c e).0)) (ap (λ f. f j) (h.same c.right (formed.sides k c e).1)))

  pub lifted_objective : (y : Point) (u : Unknowns) → IsLifted r p s y u → objective_of p (r.forms u) ≡ objective_at p s y
  lifted_objective y u h = ap (λ f. minimized p.sense (f 0)) (h.same p.objective formed.objective)

  optimal_bound : (v : ℚ) (u : Unknowns) (m : Multipliers) (w : ℕ → ℚ) → IsRightOptimal p r v u m w → (y : Point) → IsInDomain p.nodes y → v ≤ℚ lagrangian p s y m
  optimal_bound v u m w h y dom =
      let l = reduction.lifts y dom in
      let t = reduction.lift y in
      subst (λ a. v ≤ℚ a) (ap₂ ◌+ℚ◌ (lifted_objective y t l) (lifted_penalty y m t l))
      (regroup v _ _ _ (h.bound t l.assignment) (rows_nonpositive r.rows w t h.multipliers.rows l.rows))

  pub optimal : (v : ℚ) (u : Unknowns) (m : Multipliers) (w : ℕ → ℚ) → IsRightOptimal p r v u m w → IsOptimal p s v (r.point u) m
  optimal v u m w h =
      let down = projects u h.solves in
      let bound = optimal_bound v u m w h in
      let at = without v (objective_at p s (r.point u)) (penalty p s (r.point u) m) (bound (r.point u) down.feasible.domain)
      (weighed_nonpositive (gap_at p s (r.point u)) p.constraints m h.multipliers.constraints down.feasible.holds) in
      record { feasible = down.feasible; value = ≤ℚ_antisym (≤ℚ_trans down.below (≤ℚ-from_≡ h.value)) at; multipliers = h.multipliers.constraints; bound = bound }

  pub infeasible : (m : Multipliers) (w : ℕ → ℚ) (g : ℚ) → IsRightInfeasible p r m w g → IsInfeasible p s m g
  infeasible m w g h = record {
    positive = h.positive;
    multipliers = h.multipliers.constraints;
    bound = λ y dom.
        let l = reduction.lifts y dom in
        let t = reduction.lift y in
        subst (λ a. g ≤ℚ a) (lifted_penalty y m t l) (without g _ _ (h.bound t l.assignment) (rows_nonpositive r.rows w t h.multipliers.rows l.rows));
  }

  pub unbounded : (u d : Unknowns) (b e : ℚ) → IsRightUnbounded p r u d b e → IsUnbounded p s (r.point u) (r.point d) b e
  unbounded u d b e h = record {
    positive = h.positive;
    feasible = λ k n. subst (λ x. IsFeasible p s x) (reduction.ray u d k) (projects (further u k d) (h.solves k n)).feasible;
    falls = λ k n. subst (λ x. objective_at p s x ≤ℚ b -ℚ k *ℚ e) (reduction.ray u d k) (≤ℚ_trans (projects (further u k d) (h.solves k n)).below (h.falls k n));
  }
