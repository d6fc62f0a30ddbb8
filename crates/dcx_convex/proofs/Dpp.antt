-- What is accepted where parameters are affine is accepted where they are numbers.
use Rattle.std.proofs.Common.{◌≡◌, inl, inr, ℕ, zero, suc, Bool, IsTrue, List, [], ◌∷◌, map, Option, Some, None, slice_get, refl, ap, ap₂, sym, ◌∙◌, subst}
use Rattle.std.specs.Prelude.{◌⊎◌, ◌&&◌, ◌||◌}
use Rattle.std.specs.List.{list_all}
use Rattle.std.proofs.lemmas.Bool.{and_parts, and_from, or_cases, or_left, or_right}
use Rattle.dcx_atom.specs.declared.flags.Trend.{Trend}
use Rattle.dcx_atom.specs.declared.flags.Bend.{Bend}
use Rattle.dcx_atom.specs.declared.flags.Bend.TheVariants.{Convex, Concave}
use Rattle.dcx_convex.specs.Calls.{Kind, Nonlinear, Linear, Product, Quotient, Call}
use Rattle.dcx_convex.specs.Nodes.{Head, Variable, Parameter, Constant, Apply, Node, told, told_within}
use Rattle.dcx_convex.specs.Rules.{Plain, Parametrized, Judgement, is_constant, is_affine, is_bent, opposite, no_argument}
use Rattle.dcx_convex.specs.Rules.{argument, scales, bends, suits, all_suit, is_bent_call, judgement_by, judgement_at}
use Rattle.dcx_convex.specs.Problems.{Sense, Minimize, Maximize, Relation, AtMost, Equal, Constraint, Problem, may_be_objective, may_be_sides, accepted_by, IsAccepted}
use Rattle.dcx_convex.proofs.Arguments.{tests_same}

-- the first judgement says no more than the second, and the same of signs and of what is reached
record Refines (g h : Judgement) : Type 0 where
  pub sign : g.sign ≡ h.sign
  pub fixed : g.fixed ≡ h.fixed
  pub unparametrized : g.unparametrized ≡ h.unparametrized
  pub convex : IsTrue g.convex → IsTrue h.convex
  pub concave : IsTrue g.concave → IsTrue h.concave

same : (g : Judgement) → Refines g g
same g = record { sign = refl; fixed = refl; unparametrized = refl; convex = λ t. t; concave = λ t. t }

bent : (bend : Bend) (g h : Judgement) → Refines g h → IsTrue (is_bent bend g) → IsTrue (is_bent bend h)
bent Convex g h r t = r.convex t
bent Concave g h r t = r.concave t

affine : (g h : Judgement) → Refines g h → IsTrue (is_affine g) → IsTrue (is_affine h)
affine g h r t = let b = and_parts g.convex g.concave t in and_from h.convex h.concave (r.convex b.0) (r.concave b.1)

is_fixed : (g h : Judgement) → Refines g h → IsTrue g.fixed → IsTrue h.fixed
is_fixed g h r t = sym r.fixed ∙ t

constant : (g h : Judgement) → Refines g h → IsTrue (is_constant Parametrized g) → IsTrue (is_constant Plain h)
constant g h r t = is_fixed g h r (and_parts g.fixed g.unparametrized t).0

-- a side that counts as a number reaches no variable
scaled : (g h other : Judgement) → Refines g h → IsTrue (scales Parametrized g other) → IsTrue h.fixed
scaled g h other r t =
    elim (or_cases (is_constant Parametrized g) (g.fixed && (is_affine g && other.unparametrized)) t) [
      | inl k ↦ constant g h r k
      | inr k ↦ is_fixed g h r (and_parts g.fixed (is_affine g && other.unparametrized) k).0
    ]

suited : (bend : Bend) (trend : Trend) (g h : Judgement) → Refines g h → IsTrue (suits bend trend g) → IsTrue (suits bend trend h)
suited bend trend g h r t = by (or_cases (is_affine g) ((is_bent bend g && trend.rising) || (is_bent (opposite bend) g && trend.falling)) t)
  where
    moved : (b : Bend) (m : Bool) → IsTrue (is_bent b g && m) → IsTrue (is_bent b h && m)
    moved b m k = let f = and_parts (is_bent b g) m k in and_from (is_bent b h) m (bent b g h r f.0) f.1

    then : IsTrue (is_bent bend g && trend.rising) ⊎ IsTrue (is_bent (opposite bend) g && trend.falling) → IsTrue ((is_bent bend h && trend.rising) || (is_bent (opposite bend) h && trend.falling))
    then (inl k) = or_left (is_bent bend h && trend.rising) (is_bent (opposite bend) h && trend.falling) (moved bend trend.rising k)
    then (inr k) = or_right (is_bent bend h && trend.rising) (is_bent (opposite bend) h && trend.falling) (moved (opposite bend) trend.falling k)

    by : IsTrue (is_affine g) ⊎ IsTrue ((is_bent bend g && trend.rising) || (is_bent (opposite bend) g && trend.falling)) → IsTrue (suits bend trend h)
    by (inl k) = or_left (is_affine h) ((is_bent bend h && trend.rising) || (is_bent (opposite bend) h && trend.falling)) (affine g h r k)
    by (inr k) = or_right (is_affine h) ((is_bent bend h && trend.rising) || (is_bent (opposite bend) h && trend.falling))
        (then (or_cases (is_bent bend g && trend.rising) (is_bent (opposite bend) g && trend.falling) k))

-- ---- arguments
module _ (f g : ℕ → Judgement) (r : (i : ℕ) → Refines (f i) (g i)) where
  signs_same : (args : List ℕ) → map (λ x. x.sign) (map f args) ≡ map (λ x. x.sign) (map g args)
  signs_same [] = refl
  signs_same (i ∷ args) = ap₂ ◌∷◌ (r i).sign (signs_same args)

  at_argument : (args : List ℕ) (k : ℕ) → Refines (argument (map f args) k) (argument (map g args) k)
  at_argument [] k = same no_argument
  at_argument (i ∷ args) zero = r i
  at_argument (i ∷ args) (suc k) = at_argument args k

  all_constant : (args : List ℕ) → IsTrue (list_all (is_constant Parametrized) (map f args)) → IsTrue (list_all (is_constant Plain) (map g args))
  all_constant [] t = t
  all_constant (i ∷ args) t =
      let b = and_parts (is_constant Parametrized (f i)) (list_all (is_constant Parametrized) (map f args)) t in
      and_from (is_constant Plain (g i)) (list_all (is_constant Plain) (map g args)) (constant (f i) (g i) (r i) b.0) (all_constant args b.1)

  all_suited : (bend : Bend) (trend : ℕ → Trend) (args : List ℕ) → IsTrue (all_suit bend trend (map f args)) → IsTrue (all_suit bend trend (map g args))
  all_suited bend trend [] t = t
  all_suited bend trend (i ∷ args) t =
      let b = and_parts (suits bend (trend 0) (f i)) (all_suit bend (λ k. trend (suc k)) (map f args)) t in
      and_from (suits bend (trend 0) (g i)) (all_suit bend (λ k. trend (suc k)) (map g args)) (suited bend (trend 0) (f i) (g i) (r i) b.0) (all_suited bend (λ k. trend (suc k)) args b.1)

  bending : (kind : Kind) (bend : Bend) (args : List ℕ) → IsTrue (bends Parametrized kind bend (map f args)) → IsTrue (bends Plain kind bend (map g args))
  bending (Nonlinear own) bend args t = t
  bending Linear bend args t = t
  bending Product bend args t =
      let a = argument (map f args) 0 in
      let b = argument (map f args) 1 in
      let c = argument (map g args) 0 in
      let d = argument (map g args) 1 in
      elim (or_cases (scales Parametrized a b) (scales Parametrized b a) t) [
        | inl k ↦ or_left c.fixed d.fixed (scaled a c b (at_argument args 0) k)
        | inr k ↦ or_right c.fixed d.fixed (scaled b d a (at_argument args 1) k)
      ]
  bending Quotient bend args t = constant (argument (map f args) 1) (argument (map g args) 1) (at_argument args 1) t

  bent_call : (c : Call) (bend : Bend) (args : List ℕ) → IsTrue (is_bent_call Parametrized c bend (map f args)) → IsTrue (is_bent_call Plain c bend (map g args))
  bent_call c bend args t =
      elim (or_cases (list_all (is_constant Parametrized) (map f args)) (bends Parametrized c.kind bend (map f args) && all_suit bend (c.trend (map (λ x. x.sign) (map f args))) (map f args)) t) [
        | inl k ↦ or_left (list_all (is_constant Plain) (map g args))
            (bends Plain c.kind bend (map g args) && all_suit bend (c.trend (map (λ x. x.sign) (map g args))) (map g args)) (all_constant args k)
        | inr k ↦
            let b = and_parts (bends Parametrized c.kind bend (map f args)) (all_suit bend (c.trend (map (λ x. x.sign) (map f args))) (map f args)) k in
            or_right (list_all (is_constant Plain) (map g args)) (bends Plain c.kind bend (map g args) && all_suit bend (c.trend (map (λ x. x.sign) (map g args))) (map g args))
            (and_from (bends Plain c.kind bend (map g args)) (all_suit bend (c.trend (map (λ x. x.sign) (map g args))) (map g args)) (bending c.kind bend args b.0)
            (subst (λ signs. IsTrue (all_suit bend (c.trend signs) (map g args))) (signs_same args) (all_suited bend (c.trend (map (λ x. x.sign) (map f args))) args b.1)))
      ]

  head_refines : (head : Head) (args : List ℕ) → Refines (judgement_by Parametrized head (map f args)) (judgement_by Plain head (map g args))
  head_refines (Variable d) args = record { sign = refl; fixed = refl; unparametrized = refl; convex = λ t. t; concave = λ t. t }
  head_refines (Parameter d) args = record { sign = refl; fixed = refl; unparametrized = refl; convex = λ t. t; concave = λ t. t }
  head_refines (Constant xs) args = record { sign = refl; fixed = refl; unparametrized = refl; convex = λ t. t; concave = λ t. t }
  head_refines (Apply c) args = record {
    sign = ap c.sign (signs_same args);
    fixed = tests_same (λ x. x.fixed) f g (λ i. (r i).fixed) args;
    unparametrized = tests_same (λ x. x.unparametrized) f g (λ i. (r i).unparametrized) args;
    convex = bent_call c Convex args;
    concave = bent_call c Concave args;
  }

-- ---- all nodes
refined : (nodes : List Node) (n i : ℕ) → Refines (told_within no_argument (judgement_by Parametrized) nodes n i) (told_within no_argument (judgement_by Plain) nodes n i)
refined nodes zero i = same no_argument
refined nodes (suc n) i = by (slice_get nodes i) (refined nodes n)
  where
    by : (o : Option Node) → ((i : ℕ) → Refines (told_within no_argument (judgement_by Parametrized) nodes n i) (told_within no_argument (judgement_by Plain) nodes n i)) →
        Refines (told no_argument (judgement_by Parametrized) (told_within no_argument (judgement_by Parametrized) nodes n) o)
        (told no_argument (judgement_by Plain) (told_within no_argument (judgement_by Plain) nodes n) o)
    by None ih = same no_argument
    by (Some node) ih = head_refines (told_within no_argument (judgement_by Parametrized) nodes n) (told_within no_argument (judgement_by Plain) nodes n) ih node.head node.args

refined_at : (nodes : List Node) (i : ℕ) → Refines (judgement_at Parametrized nodes i) (judgement_at Plain nodes i)
unfolding judgement_at
refined_at nodes i = refined nodes (suc i) i

objective : (sense : Sense) (g h : Judgement) → Refines g h → IsTrue (may_be_objective sense g) → IsTrue (may_be_objective sense h)
objective Minimize g h r t = r.convex t
objective Maximize g h r t = r.concave t

sides : (relation : Relation) (g h k l : Judgement) → Refines g h → Refines k l → IsTrue (may_be_sides relation g k) → IsTrue (may_be_sides relation h l)
sides AtMost g h k l r q t = let b = and_parts g.convex k.concave t in and_from h.convex l.concave (r.convex b.0) (q.concave b.1)
sides Equal g h k l r q t = let b = and_parts (is_affine g) (is_affine k) t in and_from (is_affine h) (is_affine l) (affine g h r b.0) (affine k l q b.1)

module _ (nodes : List Node) where
  constraints : (cs : List Constraint) →
      IsTrue (list_all (λ c. may_be_sides c.relation (judgement_at Parametrized nodes c.left) (judgement_at Parametrized nodes c.right)) cs) →
      IsTrue (list_all (λ c. may_be_sides c.relation (judgement_at Plain nodes c.left) (judgement_at Plain nodes c.right)) cs)
  constraints [] t = t
  constraints (c ∷ cs) t =
      let b = and_parts (may_be_sides c.relation (judgement_at Parametrized nodes c.left) (judgement_at Parametrized nodes c.right))
      (list_all (λ c. may_be_sides c.relation (judgement_at Parametrized nodes c.left) (judgement_at Parametrized nodes c.right)) cs) t in
      and_from (may_be_sides c.relation (judgement_at Plain nodes c.left) (judgement_at Plain nodes c.right))
      (list_all (λ c. may_be_sides c.relation (judgement_at Plain nodes c.left) (judgement_at Plain nodes c.right)) cs)
      (sides c.relation _ _ _ _ (refined_at nodes c.left) (refined_at nodes c.right) b.0) (constraints cs b.1)

-- the rules where parameters are affine take no more
pub dpp_is_accepted : (p : Problem) → IsTrue (accepted_by Parametrized p) → IsAccepted p
dpp_is_accepted p t =
    let b = and_parts (may_be_objective p.sense (judgement_at Parametrized p.nodes p.objective))
    (list_all (λ c. may_be_sides c.relation (judgement_at Parametrized p.nodes c.left) (judgement_at Parametrized p.nodes c.right)) p.constraints) t in
    and_from (may_be_objective p.sense (judgement_at Plain p.nodes p.objective))
    (list_all (λ c. may_be_sides c.relation (judgement_at Plain p.nodes c.left) (judgement_at Plain p.nodes c.right)) p.constraints)
    (objective p.sense _ _ (refined_at p.nodes p.objective) b.0) (constraints p.nodes p.constraints b.1)
