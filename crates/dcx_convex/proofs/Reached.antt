-- In an accepted problem each node that is reached is convex or concave.
use Rattle.std.proofs.Common.{◌≡◌, inl, inr, ℕ, zero, suc, Bool, IsTrue, List, [], ◌∷◌, map, Option, Some, None, slice_get, refl, ap, ◌∙◌, subst}
use Rattle.std.specs.Prelude.{option_map, ◌⊎◌, ◌&&◌, ◌||◌}
use Rattle.std.specs.List.{list_all}
use Rattle.std.proofs.lemmas.Bool.{and_parts, or_cases, or_left}
use Rattle.std.proofs.lemmas.Option.{none-some, same_Some, slice_get-map}
use Rattle.dcx_atom.specs.declared.flags.Trend.{Trend}
use Rattle.dcx_atom.specs.declared.flags.Bend.{Bend}
use Rattle.dcx_atom.specs.declared.flags.Bend.TheVariants.{Convex, Concave}
use Rattle.dcx_convex.specs.Calls.{Call}
use Rattle.dcx_convex.specs.Nodes.{Head, Variable, Parameter, Constant, Apply, Node, IsOrdered, told, told_within}
use Rattle.dcx_convex.specs.Rules.{Rules, Plain, Parametrized, Judgement, is_constant, is_affine, is_bent, opposite, no_argument, bends, suits, all_suit, is_bent_call, judgement_by, judgement_at}
use Rattle.dcx_convex.specs.Problems.{Sense, Minimize, Maximize, Relation, AtMost, Equal, Constraint, Problem, IsReached, Objective, Left, Right, Argument, may_be_objective, may_be_sides, accepted_by}
use Rattle.dcx_convex.proofs.Told.{judgement_tells}
use Rattle.dcx_convex.proofs.Acceptance.{all_at}
use Rattle.dcx_convex.proofs.SideInduction.{both_constant}

-- convex or concave
abbrev pub IsBent : Judgement → Type 0
IsBent g = IsTrue g.convex ⊎ IsTrue g.concave

by_bend : (bend : Bend) (g : Judgement) → IsTrue (is_bent bend g) → IsBent g
by_bend Convex g t = inl t
by_bend Concave g t = inr t

affine_bent : (g : Judgement) → IsTrue (is_affine g) → IsBent g
affine_bent g t = inl (and_parts g.convex g.concave t).0

suited_bent : (bend : Bend) (trend : Trend) (g : Judgement) → IsTrue (suits bend trend g) → IsBent g
suited_bent bend trend g t = by (or_cases (is_affine g) ((is_bent bend g && trend.rising) || (is_bent (opposite bend) g && trend.falling)) t)
  where
    then : IsTrue (is_bent bend g && trend.rising) ⊎ IsTrue (is_bent (opposite bend) g && trend.falling) → IsBent g
    then (inl k) = by_bend bend g (and_parts (is_bent bend g) trend.rising k).0
    then (inr k) = by_bend (opposite bend) g (and_parts (is_bent (opposite bend) g) trend.falling k).0

    by : IsTrue (is_affine g) ⊎ IsTrue ((is_bent bend g && trend.rising) || (is_bent (opposite bend) g && trend.falling)) → IsBent g
    by (inl k) = affine_bent g k
    by (inr k) = then (or_cases (is_bent bend g && trend.rising) (is_bent (opposite bend) g && trend.falling) k)

-- ---- constant nodes
head_constant : (rules : Rules) (head : Head) (args : List Judgement) → IsTrue (is_constant rules (judgement_by rules head args)) → IsTrue (judgement_by rules head args).convex
head_constant rules (Variable d) args t = refl
head_constant rules (Parameter d) args t = refl
head_constant rules (Constant xs) args t = refl
head_constant Plain (Apply c) args t = or_left (list_all (is_constant Plain) args) (bends Plain c.kind Convex args && all_suit Convex (c.trend (map (λ g. g.sign) args)) args) t
head_constant Parametrized (Apply c) args t =
    or_left (list_all (is_constant Parametrized) args) (bends Parametrized c.kind Convex args && all_suit Convex (c.trend (map (λ g. g.sign) args)) args) (both_constant args t)

constant_bent : (rules : Rules) (nodes : List Node) (n i : ℕ) → IsTrue (is_constant rules (told_within no_argument (judgement_by rules) nodes n i)) →
    IsTrue (told_within no_argument (judgement_by rules) nodes n i).convex
constant_bent rules nodes zero i t = refl
constant_bent rules nodes (suc n) i t = by (slice_get nodes i) t
  where
    by : (o : Option Node) → IsTrue (is_constant rules (told no_argument (judgement_by rules) (told_within no_argument (judgement_by rules) nodes n) o)) →
        IsTrue (told no_argument (judgement_by rules) (told_within no_argument (judgement_by rules) nodes n) o).convex
    by None t = refl
    by (Some node) t = head_constant rules node.head (map (told_within no_argument (judgement_by rules) nodes n) node.args) t

constant_is_bent : (rules : Rules) (nodes : List Node) (i : ℕ) → IsTrue (is_constant rules (judgement_at rules nodes i)) → IsTrue (judgement_at rules nodes i).convex
unfolding judgement_at
constant_is_bent rules nodes i t = constant_bent rules nodes (suc i) i t

-- ---- an argument of a call
item_suits : (bend : Bend) (trend : ℕ → Trend) (judged : ℕ → Judgement) (args : List ℕ) → IsTrue (all_suit bend trend (map judged args)) → (k a : ℕ) → slice_get args k ≡ Some a → IsBent (judged a)
item_suits bend trend judged [] t k a e = absurd (none-some a e)
item_suits bend trend judged (i ∷ args) t zero a e =
    subst (λ n. IsBent (judged n)) (same_Some i a e) (suited_bent bend (trend 0) (judged i) (and_parts (suits bend (trend 0) (judged i)) (all_suit bend (λ k. trend (suc k)) (map judged args)) t).0)
item_suits bend trend judged (i ∷ args) t (suc k) a e =
    item_suits bend (λ k. trend (suc k)) judged args (and_parts (suits bend (trend 0) (judged i)) (all_suit bend (λ k. trend (suc k)) (map judged args)) t).1 k a e

module _ (rules : Rules) (p : Problem) (ordered : IsOrdered p.nodes) (ok : IsTrue (accepted_by rules p)) where
  abbrev sides_taken : Constraint → Bool
  sides_taken c = may_be_sides c.relation (judgement_at rules p.nodes c.left) (judgement_at rules p.nodes c.right)

  -- an argument of a call that is bent
  argument_bent : (c : Call) (bend : Bend) (args : List ℕ) → IsTrue (is_bent_call rules c bend (map (judgement_at rules p.nodes) args)) → (k a : ℕ) → slice_get args k ≡ Some a
      → IsBent (judgement_at rules p.nodes a)
  argument_bent c bend args t k a e =
      let gs = map (judgement_at rules p.nodes) args in
      elim (or_cases (list_all (is_constant rules) gs) (bends rules c.kind bend gs && all_suit bend (c.trend (map (λ g. g.sign) gs)) gs) t) [
        | inl b ↦ inl (constant_is_bent rules p.nodes a (all_at (is_constant rules) gs b k (judgement_at rules p.nodes a)
            (slice_get-map (judgement_at rules p.nodes) args k ∙ ap (option_map (judgement_at rules p.nodes)) e)))
        | inr b ↦ item_suits bend (c.trend (map (λ g. g.sign) gs)) (judgement_at rules p.nodes) args
            (and_parts (bends rules c.kind bend gs) (all_suit bend (c.trend (map (λ g. g.sign) gs)) gs) b).1 k a e
      ]

  objective_bent : (sense : Sense) (g : Judgement) → IsTrue (may_be_objective sense g) → IsBent g
  objective_bent Minimize g t = inl t
  objective_bent Maximize g t = inr t

  sides_bent : (relation : Relation) (g h : Judgement) → IsTrue (may_be_sides relation g h) → IsBent g × IsBent h
  sides_bent AtMost g h t = let b = and_parts g.convex h.concave t in (inl b.0, inr b.1)
  sides_bent Equal g h t = let b = and_parts (is_affine g) (is_affine h) t in (affine_bent g b.0, affine_bent h b.1)

  taken : IsTrue (may_be_objective p.sense (judgement_at rules p.nodes p.objective)) × IsTrue (list_all sides_taken p.constraints)
  taken = and_parts (may_be_objective p.sense (judgement_at rules p.nodes p.objective)) (list_all sides_taken p.constraints) ok

  pub reached_bent : (i : ℕ) → IsReached p i → IsBent (judgement_at rules p.nodes i)
  reached_bent i Objective = objective_bent p.sense (judgement_at rules p.nodes p.objective) taken.0
  reached_bent i (Left k c e) = (sides_bent c.relation _ _ (all_at sides_taken p.constraints taken.1 k c e)).0
  reached_bent i (Right k c e) = (sides_bent c.relation _ _ (all_at sides_taken p.constraints taken.1 k c e)).1
  reached_bent i (Argument j c args k a r e m) =
      let t = subst IsBent (judgement_tells rules p.nodes ordered j (record { head = Apply c; args = args }) e) (reached_bent j r) in
      elim t [ inl b ↦ argument_bent c Convex args b k a m | inr b ↦ argument_bent c Concave args b k a m ]
