-- The steps of the loops that look for a site, and how their answers join.
use Rattle.std.proofs.Common.{◌≡◌, ℕ, zero, suc, ◌<◌, true, false, List, [], ◌∷◌, map, take, Option, Some, None, option_map, refl, sym, ap, ap₂, ◌∙◌, true≢false, arith, length, get_or}
use Rattle.std.specs.Prelude.{◌↔◌, IfSome, IfNone, IsNone}
use Rattle.std.specs.List.{slice_get, list_all}
use Rattle.std.proofs.lemmas.Bool.{and_parts, and_from}
use Rattle.std.proofs.lemmas.Option.{none-some, same_Some, slice_get-get_or}
use Rattle.dcx_convex.specs.Problems.{may_be_objective, may_be_sides}
use Rattle.dcx_convex.proofs.Acceptance.{all_at}
use Rattle.dcx_tree.specs.declared.constraint.Constraint.{Constraint}
use Rattle.dcx_tree.specs.declared.problem.Problem.{Problem}
use Rattle.dcx_tree.specs.Meaning.{sense_of, relation_of}
use Rattle.dcx_rules.specs.declared.acceptance.Breach.{Breach}
use Rattle.dcx_rules.specs.declared.judgement.Judgement.{Judgement}
use Rattle.dcx_rules.specs.declared.verdict.Finding.{Finding}
use Rattle.dcx_rules.specs.declared.fault.Rule.{Rule}
use Rattle.dcx_rules.specs.declared.fault.RuleSite.{RuleSite}
use Rattle.dcx_rules.specs.declared.fault.RuleSite.TheVariants as sites
use Rattle.dcx_rules.specs.Judgements.{judgement_of}
use Rattle.dcx_rules.specs.Curvatures.{curvature_of}
use Rattle.dcx_rules.specs.Accepted.{objective_stands, stands, accepts, IsFirstBroken, IsBroken, IsBreach, BreaksFirst, finding_of, IsLostAt}
use Rattle.dcx_rules.proofs.Accepting.{argument_at}
use Rattle.dcx_rules.proofs.Faults.{all_found}

-- a constraint, by the judgements that were read
stands_read : (gs : List Judgement) (c : Constraint) (l r : Judgement) → slice_get gs c.left.0 ≡ Some l → slice_get gs c.right.0 ≡ Some r →
    stands gs c ≡ may_be_sides (relation_of c.kind) (judgement_of l) (judgement_of r)
stands_read gs c l r at_left at_right = ap₂ (may_be_sides (relation_of c.kind)) (argument_at gs c.left.0 l at_left) (argument_at gs c.right.0 r at_right)

pub stands_at : (gs : List Judgement) (c : Constraint) (d e : Judgement) → c.left.0 < length gs → c.right.0 < length gs →
    stands gs c ≡ may_be_sides (relation_of c.kind) (judgement_of (get_or gs c.left.0 d)) (judgement_of (get_or gs c.right.0 e))
stands_at gs c d e l r = stands_read gs c (get_or gs c.left.0 d) (get_or gs c.right.0 e) (slice_get-get_or gs c.left.0 d l) (slice_get-get_or gs c.right.0 e r)

objective_read : (p : Problem) (gs : List Judgement) (g : Judgement) → slice_get gs p.objective.0 ≡ Some g → objective_stands p gs ≡ may_be_objective (sense_of p.sense) (judgement_of g)
objective_read p gs g at = ap (may_be_objective (sense_of p.sense)) (argument_at gs p.objective.0 g at)

pub objective_at : (p : Problem) (gs : List Judgement) (d : Judgement) → p.objective.0 < length gs
    → objective_stands p gs ≡ may_be_objective (sense_of p.sense) (judgement_of (get_or gs p.objective.0 d))
objective_at p gs d lt = objective_read p gs (get_or gs p.objective.0 d) (slice_get-get_or gs p.objective.0 d lt)

-- where a constraint breaks its rule, not all keep theirs
broken_site : (cs : List Constraint) (gs : List Judgement) (site : RuleSite) (rule : Rule) → IsFirstBroken cs gs site rule → list_all (stands gs) cs ≡ true → ⊥
broken_site cs gs (sites.Node id) rule h all = h
broken_site cs gs sites.Objective rule h all = h
broken_site cs gs (sites.Constraint k) rule h all = by (slice_get cs k) refl h.broken
  where
    by : (o : Option Constraint) → slice_get cs k ≡ o → option_map (stands gs) o ≡ Some false → ⊥
    by None at e = none-some false e
    by (Some c) at e = true≢false (sym (all_at (stands gs) cs all k c at) ∙ same_Some (stands gs c) false e)

breach_site : (p : Problem) (gs : List Judgement) (site : RuleSite) (rule : Rule) → objective_stands p gs ≡ true → IsFirstBroken p.constraints gs site rule → BreaksFirst p gs site rule
breach_site p gs (sites.Node id) rule o h = h
breach_site p gs sites.Objective rule o h = absurd h
breach_site p gs (sites.Constraint k) rule o h = (o, h)

-- where the objective keeps its rule, the constraints decide
pub rest_none : (p : Problem) (gs : List Judgement) (r : Option Breach) → objective_stands p gs ≡ true → IfNone r (list_all (stands gs) p.constraints ≡ true) →
    IfSome r (IsBroken p.constraints gs) → IsNone r ↔ (accepts p gs ≡ true)
rest_none p gs None o n s = (λ e. and_from (objective_stands p gs) (list_all (stands gs) p.constraints) o n, λ e. refl)
rest_none p gs (Some b) o n s =
    (λ e. absurd (true≢false e), λ e. absurd (broken_site p.constraints gs b.site b.rule s (and_parts (objective_stands p gs) (list_all (stands gs) p.constraints) e).1))

pub rest_some : (p : Problem) (gs : List Judgement) (r : Option Breach) → objective_stands p gs ≡ true → IfSome r (IsBroken p.constraints gs) → IfSome r (IsBreach p gs)
rest_some p gs None o s = s
rest_some p gs (Some b) o s = breach_site p gs b.site b.rule o s

-- ---- findings
within_take : {A : Type 0} (xs : List A) (i j : ℕ) → j < i → slice_get (take i xs) j ≡ slice_get xs j
within_take [] zero j lt = refl
within_take [] (suc i) j lt = refl
within_take (x ∷ xs) zero j lt = absurd (omega arith)
within_take (x ∷ xs) (suc i) zero lt = refl
within_take (x ∷ xs) (suc i) (suc j) lt = within_take xs i j (omega arith)

-- the first judgement without a curvature
pub lost_at : (gs : List Judgement) (i : ℕ) (d : Judgement) (ns : List Finding) → i < length gs → curvature_of (judgement_of (get_or gs i d)) ≡ None →
    map Some ns ≡ map finding_of (take i gs) → IsLostAt gs i
lost_at gs i d ns lt none e = record {
  none = ap (option_map (λ (x : Judgement). curvature_of (judgement_of x))) (slice_get-get_or gs i d lt) ∙ ap Some none;
  first = λ j h below there. all_found (take i gs) ns e j h (within_take gs i j below ∙ there);
}
