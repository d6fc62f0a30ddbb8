-- A ray along which an accepted problem is unbounded shows it by the steepness along it.
use Rattle.std.proofs.Common.{◌≡◌, inl, inr, ℕ, Bool, IsTrue, [], ◌∷◌, sym, ap, ap₂, ◌∙◌, subst, pos}
use Rattle.std.specs.List.{list_all}
use Rattle.std.proofs.lemmas.Bool.{and_parts}
use Rattle.dcx_math.specs.Rational.{ℚ, whole, ◌+ℚ◌, ◌-ℚ◌, ◌*ℚ◌, neg_ℚ, inverse, ◌≤ℚ◌, ◌<ℚ◌}
use Rattle.dcx_math.specs.Sums.{IsNonnegative}
use Rattle.dcx_math.proofs.Ring.{ring, reads}
use Rattle.dcx_math.proofs.Orders.{linear, ≤ℚ_refl, ≤ℚ_trans, ≤ℚ_antisym, ≤ℚ-from_≡, ≤ℚ-or-<ℚ, <ℚ-≤ℚ, <ℚ-not, +ℚ-≤ℚ, +ℚ-positive, *ℚ_assoc, *ℚ_comm, *ℚ_idr, +ℚ_comm, -ℚ_self}
use Rattle.dcx_math.proofs.Products.{square-nonnegative, zero-<ℚ-one, *ℚ-positive, *ℚ-inverse_positive, inverse-positive}
use Rattle.dcx_shape.specs.declared.shape.Sides.{Sides}
use Rattle.dcx_atom.specs.declared.flags.Bend.TheVariants.{Convex, Concave}
use Rattle.dcx_atom.specs.Arrays.{entry_at}
use Rattle.dcx_atom.specs.Signs.{shifted}
use Rattle.dcx_convex.specs.Nodes.{Attribute, Free, Nonneg, Nonpos, Symmetric, Diag, Head, Variable, Parameter, Constant, Apply, Numbers}
use Rattle.dcx_convex.specs.Nodes.{Point, Setting, IsOrdered, Keeps, VariableKeeps, IsInDomain, value_at, Fits, AreLawful}
use Rattle.dcx_convex.specs.Rules.{Plain, Judgement, is_affine, judgement_at}
use Rattle.dcx_convex.specs.Problems.{Sense, Minimize, Maximize, Relation, AtMost, Equal, Constraint, Problem, may_be_objective, may_be_sides, IsAccepted, minimized, Holds, IsFeasible, objective_at}
use Rattle.dcx_convex.specs.Answers.{IsUnbounded}
use Rattle.dcx_convex.proofs.Acceptance.{all_at}
use Rattle.dcx_convex.proofs.Beyond.{IsBeyondAs, affine_same}
use Rattle.dcx_tree.specs.Meaning.{names_in, convex_problem}
use Rattle.dcx_tree.proofs.Lawful.{problem_lawful}
use Rattle.dcx_right.specs.Steepness.{steep_at}
use Rattle.dcx_right.specs.Rays.{AreReceding, IsRay}
use Rattle.dcx_right.proofs.TreeValues.{tree_recedes}
use Rattle.dcx_cert_complete.specs.Laws.{UnboundedGoesByRays}
use Rattle.dcx_cert_complete.proofs.Level.{AreStarting, tree_starts}
use Rattle.dcx_cert_complete.proofs.Rests.{IsRest, rest_of}
use Rattle.dcx_atom.proofs.Units.{one_nonnegative}
use Rattle.dcx_atom.proofs.Sublinear.{none_shifted}

-- ---- what is never more than a number is at most 0 for each step
above : (c : ℚ) → c *ℚ c +ℚ whole (pos 1) ≤ℚ c → c ≤ℚ whole (pos 0)
above c h = linear (c ∷ []) (+ℚ-≤ℚ h (square-nonnegative (c -ℚ whole (pos 1)))) (search reads depth 40 fits 4000) tt

never_above : (c : ℚ) → c *ℚ c +ℚ whole (pos 1) ≤ℚ c → ⊥
never_above c h = <ℚ-not zero-<ℚ-one (linear (c ∷ []) (+ℚ-≤ℚ (square-nonnegative c) (≤ℚ_trans h (above c h))) (search reads depth 40 fits 4000) tt)

pub steps_low : (s c : ℚ) → ((k : ℚ) → whole (pos 0) <ℚ k → k *ℚ s ≤ℚ c) → s ≤ℚ whole (pos 0)
steps_low s c h = elim (≤ℚ-or-<ℚ s (whole (pos 0))) [
  | inl low ↦ low
  | inr high ↦
      let w = c *ℚ c +ℚ whole (pos 1) in
      let positive : whole (pos 0) <ℚ w = subst (λ z. whole (pos 0) <ℚ z) (+ℚ_comm (whole (pos 1)) (c *ℚ c)) (+ℚ-positive zero-<ℚ-one (square-nonnegative c)) in
      let e : (w *ℚ inverse s) *ℚ s ≡ w = *ℚ_assoc w (inverse s) s ∙ ap (λ z. w *ℚ z) (*ℚ_comm (inverse s) s ∙ *ℚ-inverse_positive high) ∙ *ℚ_idr w in
      absurd (never_above c (subst (λ z. z ≤ℚ c) e (h (w *ℚ inverse s) (*ℚ-positive positive (inverse-positive high)))))
]

-- ---- the domain
turned_step : (x k d : ℚ) → whole (pos 0) ≤ℚ x +ℚ k *ℚ d → k *ℚ neg_ℚ d ≤ℚ x
turned_step x k d h = linear (x ∷ k ∷ d ∷ []) h (search reads depth 30) tt

turned_low : (d : ℚ) → neg_ℚ d ≤ℚ whole (pos 0) → whole (pos 0) ≤ℚ d
turned_low d h = linear (d ∷ []) h (search reads depth 30) tt

step_down : (x k d : ℚ) → x +ℚ k *ℚ d ≤ℚ whole (pos 0) → k *ℚ d ≤ℚ neg_ℚ x
step_down x k d h = linear (x ∷ k ∷ d ∷ []) h (search reads depth 30) tt

one_step : (x d : ℚ) → (x +ℚ whole (pos 1) *ℚ d) -ℚ (x +ℚ whole (pos 0) *ℚ d) ≡ d
one_step x d = ring (x ∷ d ∷ []) (search reads depth 30) tt

keeps_ray : (a : Attribute) (sides : Sides) (x d : Numbers) → ((k : ℚ) → IsNonnegative k → Keeps a sides (λ j. x j +ℚ k *ℚ d j)) → Keeps a sides d
keeps_ray Free sides x d h = tt
keeps_ray Nonneg sides x d h = λ j b. turned_low (d j) (steps_low (neg_ℚ (d j)) (x j) (λ k low. turned_step (x j) k (d j) (h k (<ℚ-≤ℚ low) j b)))
keeps_ray Nonpos sides x d h = λ j b. steps_low (d j) (neg_ℚ (x j)) (λ k low. step_down (x j) k (d j) (h k (<ℚ-≤ℚ low) j b))
keeps_ray Symmetric sides x d h = λ i j there.
    sym (one_step (entry_at sides x i j) (entry_at sides d i j))
    ∙ ap₂ ◌-ℚ◌ (h (whole (pos 1)) one_nonnegative i j there) (h (whole (pos 0)) (≤ℚ_refl (whole (pos 0))) i j there)
    ∙ one_step (entry_at sides x j i) (entry_at sides d j i)
keeps_ray Diag sides x d h = λ i j there apart.
    sym (one_step (entry_at sides x i j) (entry_at sides d i j))
    ∙ ap₂ ◌-ℚ◌ (h (whole (pos 1)) one_nonnegative i j there apart) (h (whole (pos 0)) (≤ℚ_refl (whole (pos 0))) i j there apart)
    ∙ -ℚ_self (whole (pos 0))

head_ray : (head : Head) (x d : Point) → ((k : ℚ) → IsNonnegative k → VariableKeeps (shifted x k d) head) → VariableKeeps d head
head_ray (Variable v) x d h = keeps_ray v.attribute v.sides (x v.number) (d v.number) h
head_ray (Parameter q) x d h = tt
head_ray (Constant xs) x d h = tt
head_ray (Apply c) x d h = tt

-- ---- the objective
falls_low : (k b e w f r : ℚ) → k *ℚ f ≤ℚ w -ℚ r → w ≤ℚ b -ℚ k *ℚ e → k *ℚ (f +ℚ e) ≤ℚ b -ℚ r
falls_low k b e w f r h p = linear (k ∷ b ∷ e ∷ w ∷ f ∷ r ∷ []) (+ℚ-≤ℚ h p) (search reads depth 30 fits 4000) tt

falls_high : (k b e w f r : ℚ) → w -ℚ r ≤ℚ k *ℚ f → neg_ℚ w ≤ℚ b -ℚ k *ℚ e → k *ℚ (neg_ℚ f +ℚ e) ≤ℚ b +ℚ r
falls_high k b e w f r h p = linear (k ∷ b ∷ e ∷ w ∷ f ∷ r ∷ []) (+ℚ-≤ℚ h p) (search reads depth 30 fits 4000) tt

taken_over : (f e : ℚ) → f +ℚ e ≤ℚ whole (pos 0) → f ≤ℚ neg_ℚ e
taken_over f e h = linear (f ∷ e ∷ []) h (search reads depth 30) tt

objective_steep : (sense : Sense) (g : Judgement) (b e f r : ℚ) (w : ℚ → ℚ) → IsTrue (may_be_objective sense g) → ((k : ℚ) → whole (pos 0) <ℚ k → IsBeyondAs g (k *ℚ f) (w k -ℚ r)) →
    ((k : ℚ) → whole (pos 0) <ℚ k → minimized sense (w k) ≤ℚ b -ℚ k *ℚ e) → minimized sense f ≤ℚ neg_ℚ e
objective_steep Minimize g b e f r w t h p = taken_over f e (steps_low (f +ℚ e) (b -ℚ r) (λ k low. falls_low k b e (w k) f r (h k low Convex t) (p k low)))
objective_steep Maximize g b e f r w t h p = taken_over (neg_ℚ f) e (steps_low (neg_ℚ f +ℚ e) (b +ℚ r) (λ k low. falls_high k b e (w k) f r (h k low Concave t) (p k low)))

-- ---- the constraints
gap_low : (k l r v u f g : ℚ) → k *ℚ f ≤ℚ l -ℚ v → r -ℚ u ≤ℚ k *ℚ g → l -ℚ r ≤ℚ whole (pos 0) → k *ℚ (f -ℚ g) ≤ℚ u -ℚ v
gap_low k l r v u f g p q h = linear (k ∷ l ∷ r ∷ v ∷ u ∷ f ∷ g ∷ []) (+ℚ-≤ℚ (+ℚ-≤ℚ p q) h) (search reads depth 30 fits 4000) tt

gap_level : (k l r v u f g : ℚ) → k *ℚ f ≡ l -ℚ v → k *ℚ g ≡ r -ℚ u → l -ℚ r ≡ whole (pos 0) → k *ℚ (f -ℚ g) ≤ℚ u -ℚ v
gap_level k l r v u f g p q h = gap_low k l r v u f g (≤ℚ-from_≡ p) (≤ℚ-from_≡ (sym q)) (≤ℚ-from_≡ h)

gap_level_back : (k l r v u f g : ℚ) → k *ℚ f ≡ l -ℚ v → k *ℚ g ≡ r -ℚ u → l -ℚ r ≡ whole (pos 0) → k *ℚ neg_ℚ (f -ℚ g) ≤ℚ v -ℚ u
gap_level_back k l r v u f g p q h = linear (k ∷ l ∷ r ∷ v ∷ u ∷ f ∷ g ∷ []) (+ℚ-≤ℚ (+ℚ-≤ℚ (≤ℚ-from_≡ q) (≤ℚ-from_≡ (sym p))) (≤ℚ-from_≡ (sym h))) (search reads depth 30 fits 4000) tt

-- a constraint that holds along the ray holds of the steepness
sides_steep : (relation : Relation) (g h : Judgement) (f w v u : ℚ) (l r : ℚ → ℚ) → IsTrue (may_be_sides relation g h) → ((k : ℚ) → whole (pos 0) <ℚ k → IsBeyondAs g (k *ℚ f) (l k -ℚ v)) →
    ((k : ℚ) → whole (pos 0) <ℚ k → IsBeyondAs h (k *ℚ w) (r k -ℚ u)) → ((k : ℚ) → whole (pos 0) <ℚ k → Holds relation (l k -ℚ r k)) → Holds relation (f -ℚ w)
sides_steep AtMost g h f w v u l r t left right along =
    let b = and_parts g.convex h.concave t in
    steps_low (f -ℚ w) (u -ℚ v) (λ k low. gap_low k (l k) (r k) v u f w (left k low Convex b.0) (right k low Concave b.1) (along k low))
sides_steep Equal g h f w v u l r t left right along =
    let b = and_parts (is_affine g) (is_affine h) t in
    let p : (k : ℚ) → whole (pos 0) <ℚ k → k *ℚ f ≡ l k -ℚ v = λ k low. affine_same g (k *ℚ f) (l k -ℚ v) b.0 (left k low) in
    let q : (k : ℚ) → whole (pos 0) <ℚ k → k *ℚ w ≡ r k -ℚ u = λ k low. affine_same h (k *ℚ w) (r k -ℚ u) b.1 (right k low) in
    ≤ℚ_antisym (steps_low (f -ℚ w) (u -ℚ v) (λ k low. gap_level k (l k) (r k) v u f w (p k low) (q k low) (along k low)))
    (turned_low (f -ℚ w) (steps_low (neg_ℚ (f -ℚ w)) (v -ℚ u) (λ k low. gap_level_back k (l k) (r k) v u f w (p k low) (q k low) (along k low))))

module _ (p : Problem) (ordered : IsOrdered p.nodes) (law : AreLawful p.nodes) (recede : AreReceding p.nodes) (start : AreStarting p.nodes) (ok : IsAccepted p) (s : Setting) (fit : Fits p.nodes s)
    (x d : Point) (b e : ℚ)
    (h : IsUnbounded p s x d b e) where
  abbrev sides_taken : Constraint → Bool
  sides_taken c = may_be_sides c.relation (judgement_at Plain p.nodes c.left) (judgement_at Plain p.nodes c.right)

  taken : IsTrue (may_be_objective p.sense (judgement_at Plain p.nodes p.objective)) × IsTrue (list_all sides_taken p.constraints)
  taken = and_parts (may_be_objective p.sense (judgement_at Plain p.nodes p.objective)) (list_all sides_taken p.constraints) ok

  domain : IsInDomain p.nodes d
  domain i n at = head_ray n.head x d (λ k low. (h.feasible k low).domain i n at)

  rest : (i : ℕ) → (r : Numbers) × IsRest p.nodes ordered law recede start s fit.parameters x d domain i r
  rest i = rest_of p.nodes ordered law recede start s fit.parameters x d domain i

  less_none : (b e : ℚ) → b -ℚ whole (pos 0) *ℚ e ≡ b
  less_none b e = ring (b ∷ e ∷ []) (search reads depth 30) tt

  pub ray : IsRay p s x d b e
  ray = record {
    positive = h.positive;
    feasible = subst (IsFeasible p s) (none_shifted x d) (h.feasible (whole (pos 0)) (≤ℚ_refl (whole (pos 0))));
    start = ≤ℚ_trans (≤ℚ-from_≡ (ap (objective_at p s) (sym (none_shifted x d)))) (≤ℚ_trans (h.falls (whole (pos 0)) (≤ℚ_refl (whole (pos 0)))) (≤ℚ-from_≡ (less_none b e)));
    domain = domain;
    rows = λ n c at j below.
        sides_steep c.relation (judgement_at Plain p.nodes c.left) (judgement_at Plain p.nodes c.right) (steep_at p.nodes s d c.left j) (steep_at p.nodes s d c.right j) ((rest c.left).0 j)
        ((rest c.right).0 j)
        (λ k. value_at p.nodes s (shifted x k d) c.left j) (λ k. value_at p.nodes s (shifted x k d) c.right j) (all_at sides_taken p.constraints taken.1 n c at)
        (λ k low. (rest c.left).1 k low j) (λ k low. (rest c.right).1 k low j) (λ k low. (h.feasible k (<ℚ-≤ℚ low)).holds n c at j below);
    falls = objective_steep p.sense (judgement_at Plain p.nodes p.objective) b e (steep_at p.nodes s d p.objective 0) ((rest p.objective).0 0)
        (λ k. value_at p.nodes s (shifted x k d) p.objective 0) taken.0
        (λ k low. (rest p.objective).1 k low 0) (λ k low. h.falls k (<ℚ-≤ℚ low));
  }

pub unbounded_goes_by_rays : UnboundedGoesByRays
unbounded_goes_by_rays p ok s fit x d b e h =
    let lawful = problem_lawful p in
    ray (convex_problem p) lawful.ordered lawful.lawful (tree_recedes (names_in p) p.tree p.nodes) (tree_starts (names_in p) p.tree p.nodes) ok s fit x d b e h
