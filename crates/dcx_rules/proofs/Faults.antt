-- What the code finds is the verdict, or the first site that breaks its rule.
use Rattle.std.proofs.Common.{◌≡◌, inl, inr, ℕ, zero, suc, ◌<◌, Bool, true, false, List, [], ◌∷◌, map, length, get_or, Option, Some, None, option_map, refl, sym, ap, subst, ◌∙◌, true≢false, arith}
use Rattle.std.specs.Prelude.{◌⊎◌, if◌then◌else◌, IsTrue, IsSome, ◌↔◌, is_some, not, IsNone}
use Rattle.std.specs.List.{slice_get}
use Rattle.std.proofs.lemmas.List.{length-map}
use Rattle.std.proofs.lemmas.Option.{none-some, same_Some, slice_get_within}
use Rattle.dcx_arena.specs.declared.node.NodeId.{NodeId}
use Rattle.dcx_arena.specs.Nodes.{args_at}
use Rattle.dcx_convex.specs.Rules as convex
use Rattle.dcx_convex.specs.Rules.{Plain, Parametrized, judgement_at}
use Rattle.dcx_convex.specs.Problems.{may_be_objective}
use Rattle.dcx_convex.proofs.Reached.{IsBent}
use Rattle.dcx_tree.specs.declared.constraint.Constraint.{Constraint}
use Rattle.dcx_tree.specs.declared.problem.Problem.{Problem}
use Rattle.dcx_tree.specs.Meaning.{sense_of, convex_problem, IsAccepted, IsDpp}
use Rattle.dcx_rules.specs.declared.acceptance.Breach.{Breach}
use Rattle.dcx_rules.specs.declared.judgement.Judgement.{Judgement}
use Rattle.dcx_rules.specs.declared.curvature.Curvature.{Curvature}
use Rattle.dcx_rules.specs.declared.curvature.Curvature.TheVariants.{Constant}
use Rattle.dcx_rules.specs.declared.verdict.Finding.{Finding}
use Rattle.dcx_rules.specs.declared.fault.Rule.{Rule}
use Rattle.dcx_rules.specs.declared.fault.Rule.TheVariants as rules
use Rattle.dcx_rules.specs.declared.fault.RuleFault.{RuleFault}
use Rattle.dcx_rules.specs.declared.fault.RuleFault.TheVariants.{NotDcp, Memory}
use Rattle.dcx_rules.specs.declared.fault.RuleSite.{RuleSite}
use Rattle.dcx_rules.specs.declared.fault.RuleSite.TheVariants as sites
use Rattle.dcx_rules.specs.Judgements.{judgement_of, AreJudgements}
use Rattle.dcx_rules.specs.Curvatures.{bent_curvature, curvature_of, curvature_at}
use Rattle.dcx_rules.specs.Sites.{LosesCurvature, BreaksKind, Breaks, IsBefore, IsFirst, IsFaultOf}
use Rattle.dcx_rules.specs.Accepted.{objective_stands, stands, accepts, BreaksFirst, finding, finding_of, IsLostAt, IsLostSite, IsFirstLost}
use Rattle.dcx_rules.specs.Verdicts.{IsVerdictOf}
use Rattle.dcx_rules.proofs.Nodes.{args_below}
use Rattle.dcx_rules.proofs.Accepting.{judgement_there, argument_is, stands_is, accepts_is}
use Rattle.dcx_rules.proofs.Reaching.{each_bent}

-- ---- what is convex or concave has a curvature
some_none : {A : Type 0} (o : Option A) → IsSome o → o ≡ None → ⊥
some_none None s e = true≢false (sym s)
some_none (Some x) s e = none-some x (sym e)

bent_some : (g : convex.Judgement) → IsBent g → IsSome (curvature_of g)
bent_some g b = by g.fixed g.convex g.concave b
  where
    by : (fixed bent sunk : Bool) → IsTrue bent ⊎ IsTrue sunk → IsSome (if fixed then Some Constant else bent_curvature bent sunk)
    by true bent sunk h = refl
    by false true true h = refl
    by false true false h = refl
    by false false true h = refl
    by false false false (inl h) = absurd (true≢false (sym h))
    by false false false (inr h) = absurd (true≢false (sym h))

-- ---- findings
-- what is found of a node, by its curvature
record IsFound (g : Judgement) (n : Finding) (o : Option Curvature) : Type 0 where
  sign : n.sign ≡ g.sign
  curvature : o ≡ Some n.curvature
  variable : n.reaches_variable ≡ not g.fixed
  parameter : n.reaches_parameter ≡ not g.unparametrized

found : (g : Judgement) (n : Finding) (o : Option Curvature) → option_map (finding g) o ≡ Some n → IsFound g n o
found g n None e = absurd (none-some n e)
found g n (Some c) e =
    let f : finding g c ≡ n = same_Some (finding g c) n e in
    record {
      sign = sym (ap (λ (x : Finding). x.sign) f);
      curvature = ap (λ (x : Finding). Some x.curvature) f;
      variable = sym (ap (λ (x : Finding). x.reaches_variable) f);
      parameter = sym (ap (λ (x : Finding). x.reaches_parameter) f);
    }

-- the judgement of which it is found
found_at : (gs : List Judgement) (ns : List Finding) → map Some ns ≡ map finding_of gs → (i : ℕ) (n : Finding) → slice_get ns i ≡ Some n
    → (g : Judgement) × (slice_get gs i ≡ Some g) × (finding_of g ≡ Some n)
found_at gs [] e i n at = absurd (none-some n at)
found_at [] (m ∷ ns) e i n at = absurd (cc)
found_at (g ∷ gs) (m ∷ ns) e zero n at = let here : Some m ≡ finding_of g = cc in (g, refl, sym here ∙ at)
found_at (g ∷ gs) (m ∷ ns) e (suc i) n at = let rest : map Some ns ≡ map finding_of gs = cc in found_at gs ns rest i n at

-- what is found tells a curvature
found_some : (g : Judgement) (m : Finding) (o : Option Curvature) → Some m ≡ option_map (finding g) o → IsSome o
found_some g m None e = absurd (none-some m (sym e))
found_some g m (Some c) e = refl

-- where a finding is made of each judgement, each tells a curvature
pub all_found : (gs : List Judgement) (ns : List Finding) → map Some ns ≡ map finding_of gs → (i : ℕ) (g : Judgement) → slice_get gs i ≡ Some g → IsSome (curvature_of (judgement_of g))
all_found [] ns e i g at = absurd (none-some g at)
all_found (h ∷ gs) [] e i g at = absurd (cc)
all_found (h ∷ gs) (m ∷ ns) e zero g at =
    let here : Some m ≡ finding_of h = cc in
    subst (λ (x : Judgement). IsSome (curvature_of (judgement_of x))) (same_Some h g at) (found_some h m (curvature_of (judgement_of h)) here)
all_found (h ∷ gs) (m ∷ ns) e (suc i) g at = let rest : map Some ns ≡ map finding_of gs = cc in all_found gs ns rest i g at

module _ (p : Problem) (gs : List Judgement) (are : AreJudgements Plain p gs) where
  curvature_is : (i : ℕ) (g : Judgement) → slice_get gs i ≡ Some g → curvature_of (judgement_of g) ≡ curvature_at p i
  curvature_is i g at = ap curvature_of (are.each i g at)

  -- ---- the verdict
  pub verdict_is : (ns : List Finding) (affine : List Judgement) (dpp : Bool) → map Some ns ≡ map finding_of gs → AreJudgements Parametrized p affine → (IsTrue dpp ↔ IsDpp p)
      → IsVerdictOf p (record { nodes = ns; parametrized = affine; dpp = dpp })
  verdict_is ns affine dpp e also d = record {
    count = sym (length-map ns Some) ∙ ap length e ∙ length-map gs finding_of ∙ are.count;
    signs = λ i n at.
        let (g, there, is) = found_at gs ns e i n at in
        (found g n (curvature_of (judgement_of g)) is).sign ∙ ap (λ (j : convex.Judgement). j.sign) (are.each i g there);
    curvatures = λ i n at.
        let (g, there, is) = found_at gs ns e i n at in
        sym (curvature_is i g there) ∙ (found g n (curvature_of (judgement_of g)) is).curvature;
    variables = λ i n at.
        let (g, there, is) = found_at gs ns e i n at in
        (found g n (curvature_of (judgement_of g)) is).variable ∙ ap (λ (j : convex.Judgement). not j.fixed) (are.each i g there);
    parameters = λ i n at.
        let (g, there, is) = found_at gs ns e i n at in
        (found g n (curvature_of (judgement_of g)) is).parameter ∙ ap (λ (j : convex.Judgement). not j.unparametrized) (are.each i g there);
    parametrized = also;
    dpp = d;
  }

  -- ---- a node without curvature
  lost_loses : (i : ℕ) → IsLostAt gs i → LosesCurvature p i
  lost_loses i lost = by (slice_get gs i) refl lost.none
    where
      by : (o : Option Judgement) → slice_get gs i ≡ o → option_map (λ (g : Judgement). curvature_of (judgement_of g)) o ≡ Some None → LosesCurvature p i
      by None at e = absurd (none-some None e)
      by (Some g) at e =
          let count = are.count in
          let within = slice_get_within gs i g at in
          record {
            there = omega arith;
            none = sym (curvature_is i g at) ∙ same_Some (curvature_of (judgement_of g)) None e;
            args = λ k d lt.
                let a = get_or (args_at p.tree i) k d in
                let below : a < i = args_below p i i refl k d lt in
                let (h, there, is) = judgement_there Plain p gs are a (omega (arith, below, count, within)) in
                subst (λ o. IsSome o) (ap curvature_of is) (lost.first a h below there);
          }

  -- no earlier node loses its curvature
  none_before : (i : ℕ) → IsLostAt gs i → (j : ℕ) → j < i → ¬ LosesCurvature p j
  none_before i lost j lt l =
      let (h, there, is) = judgement_there Plain p gs are j l.there in
      some_none (curvature_at p j) (subst (λ o. IsSome o) (ap curvature_of is) (lost.first j h lt there)) l.none

  lost_first : (id : NodeId) → IsLostAt gs id.0 → IsFirst p (sites.Node id) rules.Composition
  lost_first id lost = record { rule_is = refl; breaks = lost_loses id.0 lost; first = first }
    where
      first : (before : RuleSite) → IsBefore before (sites.Node id) → ¬ Breaks p before
      first (sites.Node other) lt = none_before id.0 lost other.0 lt
      first sites.Objective b = absurd b
      first (sites.Constraint k) b = absurd b

  lost_refused : (i : ℕ) → IsLostAt gs i → ¬ IsAccepted p
  lost_refused i lost ok = let l = lost_loses i lost in some_none (curvature_at p i) (bent_some (judgement_at Plain (convex_problem p).nodes i) (each_bent p ok i l.there)) l.none

  lost_site : (site : RuleSite) (rule : Rule) → IsLostSite gs site rule → (¬ IsAccepted p) × IsFirst p site rule
  lost_site (sites.Node id) rule (lost, is) = (lost_refused id.0 lost, subst (λ (r : Rule). IsFirst p (sites.Node id) r) (sym is) (lost_first id lost))
  lost_site sites.Objective rule h = absurd h
  lost_site (sites.Constraint k) rule h = absurd h

  -- the first node without curvature is the fault
  pub lost_fault : (e : RuleFault) → IsFirstLost gs e → IsFaultOf p e
  lost_fault (NotDcp site rule) h = lost_site site rule h
  lost_fault Memory h = tt

  -- ---- the objective, or a constraint
  module _ (ns : List Finding) (e : map Some ns ≡ map finding_of gs) where
    none_loses : (i : ℕ) → ¬ LosesCurvature p i
    none_loses i l =
        let (g, there, is) = judgement_there Plain p gs are i l.there in
        some_none (curvature_at p i) (subst (λ o. IsSome o) (ap curvature_of is) (all_found gs ns e i g there)) l.none

    objective_is : objective_stands p gs ≡ may_be_objective (sense_of p.sense) (judgement_at Plain (convex_problem p).nodes p.objective.0)
    objective_is = ap (may_be_objective (sense_of p.sense)) (argument_is Plain p gs are p.objective.0 p.objective_kept.there)

    objective_first : (rule : Rule) → BreaksFirst p gs sites.Objective rule → IsFirst p sites.Objective rule
    objective_first rule b = record { rule_is = ap Some (sym b.1); breaks = sym objective_is ∙ b.0; first = first }
      where
        first : (before : RuleSite) → IsBefore before sites.Objective → ¬ Breaks p before
        first (sites.Node other) t = none_loses other.0
        first sites.Objective t = absurd t
        first (sites.Constraint k) t = absurd t

    constraint_breaks : (k : ℕ) → option_map (stands gs) (slice_get p.constraints k) ≡ Some false → BreaksKind p k
    constraint_breaks k b = by (slice_get p.constraints k) refl b
      where
        by : (o : Option Constraint) → slice_get p.constraints k ≡ o → option_map (stands gs) o ≡ Some false → BreaksKind p k
        by None at h = absurd (none-some false h)
        by (Some c) at h = (c, at, sym (stands_is Plain p gs are k c at) ∙ same_Some (stands gs c) false h)

    constraint_first : (k : ℕ) (rule : Rule) → BreaksFirst p gs (sites.Constraint k) rule → IsFirst p (sites.Constraint k) rule
    constraint_first k rule b = record { rule_is = b.1.rule_is; breaks = constraint_breaks k b.1.broken; first = first }
      where
        first : (before : RuleSite) → IsBefore before (sites.Constraint k) → ¬ Breaks p before
        first (sites.Node other) t = none_loses other.0
        first sites.Objective t = λ h. true≢false (sym b.0 ∙ objective_is ∙ h)
        first (sites.Constraint j) lt = λ (c, at, h). true≢false (sym (b.1.first j c lt at) ∙ stands_is Plain p gs are j c at ∙ h)

    breach_first : (site : RuleSite) (rule : Rule) → BreaksFirst p gs site rule → IsFirst p site rule
    breach_first (sites.Node id) rule b = absurd b
    breach_first sites.Objective rule b = objective_first rule b
    breach_first (sites.Constraint k) rule b = constraint_first k rule b

    -- the first site that breaks its rule is the fault
    pub breach_fault : (site : RuleSite) (rule : Rule) → (accepts p gs ≡ true → ⊥) → BreaksFirst p gs site rule → IsFaultOf p (NotDcp site rule)
    breach_fault site rule refused b = (λ ok. refused (accepts_is Plain p gs are ∙ ok), breach_first site rule b)

-- ---- parameters that are affine
pub dpp_is : (p : Problem) (gs : List Judgement) → AreJudgements Parametrized p gs → IsAccepted p → (r : Option Breach) (b : Bool) → is_some r ≡ not b
    → IsNone r ↔ (accepts p gs ≡ true) → IsTrue b ↔ IsDpp p
dpp_is p gs are ok r true e n = (λ t. (ok, sym (accepts_is Parametrized p gs are) ∙ n.0 e), λ d. refl)
dpp_is p gs are ok r false e n = (λ t. absurd (true≢false (sym t)), λ d. absurd (true≢false (sym e ∙ n.1 (accepts_is Parametrized p gs are ∙ d.1))))
