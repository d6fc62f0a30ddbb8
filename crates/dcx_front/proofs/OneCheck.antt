-- What the rules say of one problem is one, and what is found of it.
use Rattle.std.proofs.Common.{◌≡◌, ℕ, ◌<◌, Bool, true, false, Ok, Err, refl, sym, ap, ◌∙◌, arith}
use Rattle.std.specs.Prelude.{IsTrue, Some, slice_get}
use Rattle.std.proofs.Props.{props}
use Rattle.std.proofs.lemmas.Option.{same_Some}
use mathlib.Core.HLevel.{is_prop→PathP}
use Rattle.dcx_shape.specs.declared.place.Place.{Place}
use Rattle.dcx_tree.specs.declared.problem.Problem.{Problem}
use Rattle.dcx_rules.specs.declared.fault.Rule.{Rule}
use Rattle.dcx_rules.specs.declared.fault.RuleSite.{RuleSite}
use Rattle.dcx_rules.specs.declared.fault.RuleSite.TheVariants as sites
use Rattle.dcx_rules.specs.Sites.{IsFirst}
use Rattle.dcx_rules.specs.declared.judgement.Judgement.{Judgement}
use Rattle.dcx_rules.specs.declared.verdict.Finding.{Finding}
use Rattle.dcx_rules.specs.Judgements.{judgement_of}
use Rattle.dcx_rules.specs.Verdicts.{Findings, IsVerdictOf}
use Rattle.dcx_refusal.specs.declared.checked.Checked.{Checked}
use Rattle.dcx_refusal.specs.declared.refusal.Carried.{Carried}
use Rattle.dcx_refusal.specs.declared.refusal.Carried.TheVariants as carried_is
use Rattle.dcx_refusal.specs.declared.refusal.Refusal.{Refusal}
use Rattle.dcx_refusal.specs.declared.refusal.RefusalSource.{RefusalSource}
use Rattle.dcx_refusal.specs.declared.refusal.RefusalSource.TheVariants.{Script}
use Rattle.dcx_front.specs.declared.fault.FrontFault.TheVariants.{Refused, Memory}
use Rattle.dcx_front.specs.declared.accepted.Accepted.{Accepted}
use Rattle.dcx_refusal.specs.Refusals.{is_refusal}
use Rattle.dcx_refusal.specs.Made.{IsRefusedAs}
use Rattle.dcx_front.specs.Checks.{IsRefusedFor, IsFoundOf, site_place}
use Rattle.dcx_front.specs.Accepts.{Given}
use Rattle.dcx_front.specs.OneAnswer.{AreOneAnswer, HasOneJudgement}
use Rattle.dcx_arena.proofs.OneGathering.{one_list}

-- ---- refusals
-- a number, a place and what is said beside them make one refusal
pub one_refusal : (source : RefusalSource) (number : ℕ) (place : Place) (carried : Carried) (r t : Refusal) → IsRefusedAs source number place carried r
    → IsRefusedAs source number place carried t → r ≡ t
one_refusal source number place carried r t h k = λ i. record {
  source = (h.source_is ∙ sym k.source_is) i;
  number = (h.number_is ∙ sym k.number_is) i;
  place = (h.place_is ∙ sym k.place_is) i;
  carried = (h.carried_is ∙ sym k.carried_is) i;
  listed = is_prop→PathP (λ j. IsTrue (is_refusal ((h.number_is ∙ sym k.number_is) j) ((h.carried_is ∙ sym k.carried_is) j))) (λ j. hlevel props) r.listed t.listed i;
}

-- of two sites that break their rules neither is before the other, so the first one is one
one_site : (p : Problem) (s t : RuleSite) (rule other : Rule) → IsFirst p s rule → IsFirst p t other → s ≡ t
one_site p (sites.Node a) (sites.Node b) rule other h k =
    let low : a.0 < b.0 → ⊥ = (λ l. k.first (sites.Node a) l h.breaks) in
    let high : b.0 < a.0 → ⊥ = (λ l. h.first (sites.Node b) l k.breaks) in
    let same : a.0 ≡ b.0 = omega (arith, low, high) in
    let ids : a ≡ b = (λ i. record { 0 = same i }) in
    ap sites.Node ids
one_site p (sites.Node a) sites.Objective rule other h k = absurd (k.first (sites.Node a) tt h.breaks)
one_site p (sites.Node a) (sites.Constraint n) rule other h k = absurd (k.first (sites.Node a) tt h.breaks)
one_site p sites.Objective (sites.Node b) rule other h k = absurd (h.first (sites.Node b) tt k.breaks)
one_site p sites.Objective sites.Objective rule other h k = refl
one_site p sites.Objective (sites.Constraint n) rule other h k = absurd (k.first sites.Objective tt h.breaks)
one_site p (sites.Constraint m) (sites.Node b) rule other h k = absurd (h.first (sites.Node b) tt k.breaks)
one_site p (sites.Constraint m) sites.Objective rule other h k = absurd (h.first sites.Objective tt k.breaks)
one_site p (sites.Constraint m) (sites.Constraint n) rule other h k =
    let low : m < n → ⊥ = (λ l. k.first (sites.Constraint m) l h.breaks) in
    let high : n < m → ⊥ = (λ l. h.first (sites.Constraint n) l k.breaks) in
    let same : m ≡ n = omega (arith, low, high) in
    ap sites.Constraint same

one_refused : (p : Problem) (r t : Refusal) → IsRefusedFor p r → IsRefusedFor p t → r ≡ t
one_refused p r t h k =
    let site = one_site p h.site k.site h.rule k.rule h.first k.first in
    let rule : h.rule ≡ k.rule = same_Some h.rule k.rule (sym h.first.rule_is ∙ rw (← site) at k.first.rule_is) in
    let place : h.place ≡ k.place = same_Some h.place k.place (sym h.stands ∙ ap (site_place p) site ∙ k.stands) in
    one_refusal Script 19 h.place (carried_is.Rule h.rule) r t h.refusal (rw (rule, place) k.refusal)

-- ---- what is found
-- tests that say the same are the same
pub one_test : (b c : Bool) → (IsTrue b → IsTrue c) → (IsTrue c → IsTrue b) → b ≡ c
one_test true c f g = sym (f refl)
one_test false true f g = g refl
one_test false false f g = refl

pub one_found : (p : Problem) (c d : Checked) → IsFoundOf p c → IsFoundOf p d → c ≡ d
one_found p c d h k = λ i. record {
  sense = (h.sense ∙ sym k.sense) i;
  sign = (h.sign ∙ sym k.sign) i;
  curvature = same_Some c.curvature d.curvature (sym h.curvature ∙ k.curvature) i;
  dpp = one_test c.dpp d.dpp (λ t. k.dpp.1 (h.dpp.0 t)) (λ t. h.dpp.1 (k.dpp.0 t)) i;
  variables = (h.variables ∙ sym k.variables) i;
  variable_entries = (h.variable_entries ∙ sym k.variable_entries) i;
  parameters = (h.parameters ∙ sym k.parameters) i;
  parameter_entries = (h.parameter_entries ∙ sym k.parameter_entries) i;
  constraints = (h.constraints ∙ sym k.constraints) i;
  constraint_entries = (h.constraint_entries ∙ sym k.constraint_entries) i;
}

-- ---- verdicts
one_judgement : (g h : Judgement) → judgement_of g ≡ judgement_of h → g ≡ h
one_judgement g h e = λ i. record { sign = (e i).sign; fixed = (e i).fixed; unparametrized = (e i).unparametrized; convex = (e i).convex; concave = (e i).concave }

pub one_verdict : (p : Problem) (v u : Findings) → IsVerdictOf p v → IsVerdictOf p u → v ≡ u
one_verdict p v u h k = λ i. record {
  nodes = one_list v.nodes u.nodes (h.count ∙ sym k.count) same_finding i;
  parametrized = one_list v.parametrized u.parametrized (h.parametrized.count ∙ sym k.parametrized.count)
      (λ j g f at there. one_judgement g f (h.parametrized.each j g at ∙ sym (k.parametrized.each j f there))) i;
  dpp = one_test v.dpp u.dpp (λ t. k.dpp.1 (h.dpp.0 t)) (λ t. h.dpp.1 (k.dpp.0 t)) i;
}
  where
    same_finding : (j : ℕ) (n m : Finding) → slice_get v.nodes j ≡ Some n → slice_get u.nodes j ≡ Some m → n ≡ m
    same_finding j n m at there = λ i. record {
      sign = (h.signs j n at ∙ sym (k.signs j m there)) i;
      curvature = same_Some n.curvature m.curvature (sym (h.curvatures j n at) ∙ k.curvatures j m there) i;
      reaches_variable = (h.variables j n at ∙ sym (k.variables j m there)) i;
      reaches_parameter = (h.parameters j n at ∙ sym (k.parameters j m there)) i;
    }

one_accepted : (a b : Accepted) → a.work ≡ b.work → a.verdict ≡ b.verdict → a ≡ b
one_accepted a b e f = λ i. record { work = e i; verdict = f i }

-- ---- answers
-- one answer beside want of memory
pub beside_memory : (given : Given) → AreOneAnswer given (Err Memory)
beside_memory (Ok a) = tt
beside_memory (Err (Refused r)) = tt
beside_memory (Err Memory) = tt

pub one_judged : HasOneJudgement
one_judged w (Err Memory) other h k = tt
one_judged w (Ok a) (Ok b) h k = ap Ok (one_accepted a b (h.0 ∙ sym k.0) (one_verdict w.problem a.verdict b.verdict h.1.verdict k.1.verdict))
one_judged w (Ok a) (Err (Refused t)) h k = absurd (k.0 h.1.accepted)
one_judged w (Ok a) (Err Memory) h k = tt
one_judged w (Err (Refused r)) (Ok b) h k = absurd (h.0 k.1.accepted)
one_judged w (Err (Refused r)) (Err (Refused t)) h k = ap (λ (x : Refusal). Err (Refused x)) (one_refused w.problem r t h.1 k.1)
one_judged w (Err (Refused r)) (Err Memory) h k = tt
