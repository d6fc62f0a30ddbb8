-- An accepted problem is convex at every fitting setting.
use Rattle.std.proofs.Common.{◌≡◌, ℕ, zero, suc, Bool, IsTrue, List, [], ◌∷◌, Some, slice_get, subst, pos}
use Rattle.std.specs.List.{list_all}
use Rattle.std.proofs.lemmas.Bool.{and_parts}
use Rattle.std.proofs.lemmas.Option.{none-some, same_Some}
use Rattle.dcx_math.specs.Rational.{ℚ, whole, ◌+ℚ◌, ◌-ℚ◌, ◌*ℚ◌, neg_ℚ, ◌≤ℚ◌}
use Rattle.dcx_math.specs.Sums.{IsNonnegative}
use Rattle.dcx_math.proofs.Ring.{reads}
use Rattle.dcx_math.proofs.Orders.{≤ℚ_antisym, linear, +ℚ-≤ℚ}
use Rattle.dcx_atom.specs.declared.flags.Bend.TheVariants.{Convex, Concave}
use Rattle.dcx_atom.specs.Signs.{combination}
use Rattle.dcx_convex.specs.Nodes.{Point, Setting, value_at, IsInDomain, Fits, AreLawful}
use Rattle.dcx_convex.specs.Rules.{Plain, Judgement, is_affine, judgement_at}
use Rattle.dcx_convex.specs.Problems.{Sense, Minimize, Maximize, Relation, AtMost, Equal, Constraint, Problem, may_be_objective, may_be_sides, IsAccepted, minimized, gap_at, IsBentGap, IsConvex}
use Rattle.dcx_convex.proofs.Beyond.{IsBeyondAs}
use Rattle.dcx_convex.proofs.Convexity.{mixed_domain, nodes_between}

-- what a test of all items says of one
pub all_at : {A : Type 0} (test : A → Bool) (xs : List A) → IsTrue (list_all test xs) → (k : ℕ) (x : A) → slice_get xs k ≡ Some x → IsTrue (test x)
all_at test [] t k x e = absurd (none-some x e)
all_at test (y ∷ ys) t zero x e = subst (λ u. IsTrue (test u)) (same_Some y x e) (and_parts (test y) (list_all test ys) t).0
all_at test (y ∷ ys) t (suc k) x e = all_at test ys (and_parts (test y) (list_all test ys) t).1 k x e

turned : (t r z x y : ℚ) → t *ℚ x +ℚ r *ℚ y ≤ℚ z → neg_ℚ z ≤ℚ t *ℚ neg_ℚ x +ℚ r *ℚ neg_ℚ y
turned t r z x y h = linear (t ∷ r ∷ z ∷ x ∷ y ∷ []) h (search reads depth 30 fits 4000) tt

-- the minimized objective is below its chord
objective_below : (sense : Sense) (g : Judgement) (t r z x y : ℚ) → IsTrue (may_be_objective sense g) → IsBeyondAs g z (t *ℚ x +ℚ r *ℚ y)
    → minimized sense z ≤ℚ t *ℚ minimized sense x +ℚ r *ℚ minimized sense y
objective_below Minimize g t r z x y b h = h Convex b
objective_below Maximize g t r z x y b h = turned t r z x y (h Concave b)

gap_below : (t r lz lx ly rz rx ry : ℚ) → lz ≤ℚ t *ℚ lx +ℚ r *ℚ ly → t *ℚ rx +ℚ r *ℚ ry ≤ℚ rz → lz -ℚ rz ≤ℚ t *ℚ (lx -ℚ rx) +ℚ r *ℚ (ly -ℚ ry)
gap_below t r lz lx ly rz rx ry h k = linear (t ∷ r ∷ lz ∷ lx ∷ ly ∷ rz ∷ rx ∷ ry ∷ []) (+ℚ-≤ℚ h k) (search reads depth 30 fits 4000) tt

gap_above : (t r lz lx ly rz rx ry : ℚ) → t *ℚ lx +ℚ r *ℚ ly ≤ℚ lz → rz ≤ℚ t *ℚ rx +ℚ r *ℚ ry → t *ℚ (lx -ℚ rx) +ℚ r *ℚ (ly -ℚ ry) ≤ℚ lz -ℚ rz
gap_above t r lz lx ly rz rx ry h k = linear (t ∷ r ∷ lz ∷ lx ∷ ly ∷ rz ∷ rx ∷ ry ∷ []) (+ℚ-≤ℚ h k) (search reads depth 30 fits 4000) tt

module _ (p : Problem) (law : AreLawful p.nodes) (s : Setting) (fit : Fits p.nodes s) where
  -- an entry of a node between two points
  between : (t r : ℚ) (x y : Point) → IsNonnegative t → IsNonnegative r → t +ℚ r ≡ whole (pos 1) → IsInDomain p.nodes x → IsInDomain p.nodes y → (i j : ℕ) →
      IsBeyondAs (judgement_at Plain p.nodes i) (value_at p.nodes s (combination t r x y) i j) (t *ℚ value_at p.nodes s x i j +ℚ r *ℚ value_at p.nodes s y i j)
  unfolding value_at judgement_at
  between t r x y ht hr one dx dy i j = nodes_between t r ht hr one p.nodes law s fit.parameters x y dx dy (suc i) i j

  -- a gap whose sides the rules take
  gap_bent : (c : Constraint) (j : ℕ) → IsTrue (may_be_sides c.relation (judgement_at Plain p.nodes c.left) (judgement_at Plain p.nodes c.right)) →
      IsBentGap c.relation (IsInDomain p.nodes) (λ x. gap_at p s x c j)
  gap_bent c j = by c.relation
    where
      by : (relation : Relation) → IsTrue (may_be_sides relation (judgement_at Plain p.nodes c.left) (judgement_at Plain p.nodes c.right))
          → IsBentGap relation (IsInDomain p.nodes) (λ x. gap_at p s x c j)
      by AtMost b = λ t r x y ht hr one dx dy.
          let f = and_parts (judgement_at Plain p.nodes c.left).convex (judgement_at Plain p.nodes c.right).concave b in
          gap_below t r _ _ _ _ _ _ (between t r x y ht hr one dx dy c.left j Convex f.0) (between t r x y ht hr one dx dy c.right j Concave f.1)
      by Equal b = λ t r x y ht hr one dx dy.
          let f = and_parts (is_affine (judgement_at Plain p.nodes c.left)) (is_affine (judgement_at Plain p.nodes c.right)) b in
          let u = and_parts (judgement_at Plain p.nodes c.left).convex (judgement_at Plain p.nodes c.left).concave f.0 in
          let v = and_parts (judgement_at Plain p.nodes c.right).convex (judgement_at Plain p.nodes c.right).concave f.1 in
          ≤ℚ_antisym
          (gap_below t r _ _ _ _ _ _ (between t r x y ht hr one dx dy c.left j Convex u.0) (between t r x y ht hr one dx dy c.right j Concave v.1))
          (gap_above t r _ _ _ _ _ _ (between t r x y ht hr one dx dy c.left j Concave u.1) (between t r x y ht hr one dx dy c.right j Convex v.0))

  pub accepted_is_convex : IsAccepted p → IsConvex p s
  accepted_is_convex ok =
      let f = and_parts (may_be_objective p.sense (judgement_at Plain p.nodes p.objective))
      (list_all (λ c. may_be_sides c.relation (judgement_at Plain p.nodes c.left) (judgement_at Plain p.nodes c.right)) p.constraints) ok in
      record {
        domain = λ t r x y ht hr one dx dy. mixed_domain p.nodes t r x y ht hr dx dy;
        objective = λ t r x y ht hr one dx dy. objective_below p.sense (judgement_at Plain p.nodes p.objective) t r _ _ _ f.0 (between t r x y ht hr one dx dy p.objective 0);
        constraints = λ k c e j b. gap_bent c j (all_at (λ c. may_be_sides c.relation (judgement_at Plain p.nodes c.left) (judgement_at Plain p.nodes c.right)) p.constraints f.1 k c e);
      }
