-- What is found of a node is true of its value.
use Rattle.std.proofs.Common.{◌≡◌, ℕ, suc, Bool, true, false, IsTrue, if◌then◌else◌, Some, refl, sym, ap, subst, pos}
use Rattle.std.proofs.lemmas.Option.{none-some, same_Some}
use Rattle.dcx_math.specs.Rational.{ℚ, whole, ◌+ℚ◌, ◌*ℚ◌}
use Rattle.dcx_math.specs.Sums.{IsNonnegative}
use Rattle.dcx_math.proofs.Orders.{≤ℚ_antisym}
use Rattle.dcx_atom.specs.declared.flags.Sign.{Sign}
use Rattle.dcx_atom.specs.declared.flags.Bend.TheVariants as bends
use Rattle.dcx_atom.specs.Signs.{HasSign, combination}
use Rattle.dcx_convex.specs.Nodes as convex
use Rattle.dcx_convex.specs.Nodes.{Point, Setting}
use Rattle.dcx_convex.specs.Rules.{Plain, judgement_at}
use Rattle.dcx_convex.specs.Problems.{IsConvexOn}
use Rattle.dcx_convex.proofs.Beyond.{IsBeyondAs}
use Rattle.dcx_convex.proofs.Convexity.{nodes_between}
use Rattle.dcx_convex.proofs.LawsHold.{constants_are_fixed}
use Rattle.dcx_tree.specs.declared.problem.Problem.{Problem}
use Rattle.dcx_tree.specs.Meaning.{convex_problem, value_at, Fits, IsInDomain}
use Rattle.dcx_tree.proofs.Lawful.{problem_lawful}
use Rattle.dcx_tree.proofs.LawsHold.{signs_are_true}
use Rattle.dcx_rules.specs.declared.curvature.Curvature.{Curvature}
use Rattle.dcx_rules.specs.declared.curvature.Curvature.TheVariants.{Constant, Affine, Convex, Concave}
use Rattle.dcx_rules.specs.Curvatures.{bent_curvature, curvature_at, IsConcaveOn, HasCurvature}
use Rattle.dcx_rules.specs.Verdicts.{Findings, IsVerdictOf, AreTrueOf}

-- a curvature holds where its parts do
has_curvature : (D : Point → Type 0) (f : Point → ℚ) (fixed bent sunk : Bool) → (IsTrue fixed → (x y : Point) → f x ≡ f y) → (IsTrue bent → IsConvexOn D f) → (IsTrue sunk → IsConcaveOn D f) →
    (c : Curvature) → (if fixed then Some Constant else bent_curvature bent sunk) ≡ Some c → HasCurvature c D f
has_curvature D f true bent sunk h k l c e = subst (λ (d : Curvature). HasCurvature d D f) (same_Some Constant c e) (h refl)
has_curvature D f false true true h k l c e =
    subst (λ (d : Curvature). HasCurvature d D f) (same_Some Affine c e) (λ t r x y p q one dx dy. ≤ℚ_antisym (k refl t r x y p q one dx dy) (l refl t r x y p q one dx dy))
has_curvature D f false true false h k l c e = subst (λ (d : Curvature). HasCurvature d D f) (same_Some Convex c e) (k refl)
has_curvature D f false false true h k l c e = subst (λ (d : Curvature). HasCurvature d D f) (same_Some Concave c e) (l refl)
has_curvature D f false false false h k l c e = absurd (none-some c e)

module _ (p : Problem) (s : Setting) (fit : Fits p s) where
  -- an entry of a node between two points
  between : (t r : ℚ) (x y : Point) → IsNonnegative t → IsNonnegative r → t +ℚ r ≡ whole (pos 1) → IsInDomain p x → IsInDomain p y → (i j : ℕ) →
      IsBeyondAs (judgement_at Plain (convex_problem p).nodes i) (value_at p s (combination t r x y) i j) (t *ℚ value_at p s x i j +ℚ r *ℚ value_at p s y i j)
  unfolding convex.value_at judgement_at
  between t r x y ht hr one dx dy i j =
      nodes_between t r ht hr one (convex_problem p).nodes (problem_lawful p).lawful s fit.parameters x y dx dy (suc i) i j

  -- each entry has the curvature of its node
  curvature_true : (i j : ℕ) (c : Curvature) → curvature_at p i ≡ Some c → HasCurvature c (IsInDomain p) (λ x. value_at p s x i j)
  curvature_true i j c e =
      let g = judgement_at Plain (convex_problem p).nodes i in
      has_curvature (IsInDomain p) (λ x. value_at p s x i j) g.fixed g.convex g.concave
      (λ h x y. ap (λ (z : convex.Numbers). z j) (constants_are_fixed Plain (convex_problem p).nodes s x y i h))
      (λ h t r x y ht hr one dx dy. between t r x y ht hr one dx dy i j bends.Convex h)
      (λ h t r x y ht hr one dx dy. between t r x y ht hr one dx dy i j bends.Concave h)
      c e

  -- what a verdict says of each node is true
  pub findings_true : (v : Findings) → IsVerdictOf p v → AreTrueOf p s v
  findings_true v is i n at = record {
    sign = λ x dom j. subst (λ (z : Sign). HasSign z (value_at p s x i j)) (sym (is.signs i n at)) (signs_are_true p s x fit dom i j);
    curvature = λ j. curvature_true i j n.curvature (is.curvatures i n at);
  }
