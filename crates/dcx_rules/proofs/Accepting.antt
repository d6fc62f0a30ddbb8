-- Acceptance by the judgements that the code keeps is acceptance by the rules.
use Rattle.std.proofs.Common.{◌≡◌, ℕ, zero, suc, ◌+◌, ◌<◌, Bool, true, List, [], ◌∷◌, map, take, length, get_or, Some, option_map, refl, sym, ap, ap₂, subst, ◌∙◌, arith}
use Rattle.std.specs.Prelude.{◌&&◌}
use Rattle.std.specs.List.{slice_get, list_all}
use Rattle.std.proofs.lemmas.Bool.{and_parts}
use Rattle.std.proofs.lemmas.List.Folds.{list_all-map, list_all_more}
use Rattle.std.proofs.lemmas.Option.{none-some, same_Some, slice_get-map, slice_get-get_or, slice_get_within, get_or_from_slice_get}
use Rattle.dcx_convex.specs.Rules.{Rules, no_argument, argument, judgement_at}
use Rattle.dcx_convex.specs.Problems.{may_be_objective, may_be_sides, accepted_by}
use Rattle.dcx_convex.specs.Problems as convex
use Rattle.dcx_tree.specs.declared.constraint.Constraint.{Constraint}
use Rattle.dcx_tree.specs.declared.problem.Problem.{Problem}
use Rattle.dcx_tree.specs.Meaning.{sense_of, relation_of, convex_constraint, convex_problem}
use Rattle.dcx_rules.specs.declared.judgement.Judgement.{Judgement}
use Rattle.dcx_rules.specs.Judgements.{judgement_of, no_judgement, AreJudgements}
use Rattle.dcx_rules.specs.Accepted.{AreSides, stands, accepts}

-- the judgement that stands at a place
pub argument_at : (gs : List Judgement) (i : ℕ) (g : Judgement) → slice_get gs i ≡ Some g → argument (map judgement_of gs) i ≡ judgement_of g
argument_at gs i g e = get_or_from_slice_get (map judgement_of gs) i (judgement_of g) no_argument (slice_get-map judgement_of gs i ∙ ap (option_map judgement_of) e)

module _ (rules : Rules) (p : Problem) (gs : List Judgement) (are : AreJudgements rules p gs) where
  -- there is one for each node, and it is the rules'
  pub judgement_there : (i : ℕ) → i < length p.tree → (g : Judgement) × (slice_get gs i ≡ Some g) × (judgement_of g ≡ judgement_at rules (convex_problem p).nodes i)
  judgement_there i lt =
      let count = are.count in
      let at = slice_get-get_or gs i no_judgement (omega arith) in
      (get_or gs i no_judgement, at, are.each i (get_or gs i no_judgement) at)

  pub argument_is : (i : ℕ) → i < length p.tree → argument (map judgement_of gs) i ≡ judgement_at rules (convex_problem p).nodes i
  argument_is i lt = let (g, at, is) = judgement_there i lt in argument_at gs i g at ∙ is

-- tests that agree at each element
all_same : {A : Type 0} (f g : A → Bool) (xs : List A) → ((k : ℕ) (x : A) → slice_get xs k ≡ Some x → f x ≡ g x) → list_all f xs ≡ list_all g xs
all_same f g [] h = refl
all_same f g (x ∷ xs) h = ap₂ (λ a b. a && b) (h 0 x refl) (all_same f g xs (λ k. h (suc k)))

-- both sides of each constraint are nodes
pub sides_below : (p : Problem) (count : ℕ) → count ≡ length p.tree → AreSides p.constraints count
sides_below p count e = record {
  left = λ k c at. subst (λ n. c.left.0 < n) (sym e) (p.constraints_kept.left k c at).there;
  right = λ k c at. subst (λ n. c.right.0 < n) (sym e) (p.constraints_kept.right k c at).there;
}

-- a constraint keeps its rule by the code's judgements where it does by the rules'
pub stands_is : (rules : Rules) (p : Problem) (gs : List Judgement) → AreJudgements rules p gs → (k : ℕ) (c : Constraint) → slice_get p.constraints k ≡ Some c →
    stands gs c ≡ may_be_sides (relation_of c.kind) (judgement_at rules (convex_problem p).nodes c.left.0) (judgement_at rules (convex_problem p).nodes c.right.0)
stands_is rules p gs are k c at =
    ap₂ (may_be_sides (relation_of c.kind)) (argument_is rules p gs are c.left.0 (p.constraints_kept.left k c at).there) (argument_is rules p gs are c.right.0 (p.constraints_kept.right k c at).there)

pub accepts_is : (rules : Rules) (p : Problem) (gs : List Judgement) → AreJudgements rules p gs → accepts p gs ≡ accepted_by rules (convex_problem p)
accepts_is rules p gs are =
    let f = judgement_at rules (convex_problem p).nodes in
    let test : convex.Constraint → Bool = λ c. may_be_sides c.relation (f c.left) (f c.right) in
    ap₂ (λ a b. a && b)
    (ap (may_be_objective (sense_of p.sense)) (argument_is rules p gs are p.objective.0 p.objective_kept.there))
    (all_same (stands gs) (λ c. test (convex_constraint c)) p.constraints (stands_is rules p gs are) ∙ sym (list_all-map test convex_constraint p.constraints))

-- ---- the constraints that a loop has passed
pub all_taken : {A : Type 0} (test : A → Bool) (xs : List A) (i : ℕ) (x : A) → slice_get xs i ≡ Some x → list_all test (take i xs) ≡ true → test x ≡ true → list_all test (take (i + 1) xs) ≡ true
all_taken test xs i x at all here =
    list_all_more test xs i x (slice_get_within xs i x at) ∙ ap₂ (λ a b. a && b) all (ap test (get_or_from_slice_get xs i x x at) ∙ here)

pub taken_each : {A : Type 0} (test : A → Bool) (xs : List A) (i : ℕ) → list_all test (take i xs) ≡ true → (j : ℕ) (x : A) → j < i → slice_get xs j ≡ Some x → test x ≡ true
taken_each test [] i all j x lt at = absurd (none-some x at)
taken_each test (y ∷ xs) zero all j x lt at = absurd (omega arith)
taken_each test (y ∷ xs) (suc i) all zero x lt at = sym (ap test (same_Some y x at)) ∙ (and_parts (test y) (list_all test (take i xs)) all).0
taken_each test (y ∷ xs) (suc i) all (suc j) x lt at = taken_each test xs i (and_parts (test y) (list_all test (take i xs)) all).1 j x (omega arith) at
