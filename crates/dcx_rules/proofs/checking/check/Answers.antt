-- The judgements are those of the rules, and so are what is found and what is refused.
use Rattle.std.proofs.Common.{◌≡◌, map, Some, true≢false, refl, sym, ap, subst, ◌∙◌}
use Rattle.std.proofs.lemmas.Result.{err_from_is_err_and}
use Rattle.dcx_convex.specs.Rules.{Plain, Parametrized}
use Rattle.dcx_tree.specs.Meaning.{IsAccepted}
use Rattle.dcx_tree.proofs.LawsHold.{accepted_is_convex}
use Rattle.dcx_rules.specs.Judgements.{AreJudgements}
use Rattle.dcx_rules.specs.Accepted.{finding_of}
use Rattle.dcx_rules.specs.Verdicts.{IsVerdictOf}
use Rattle.dcx_rules.proofs.Accepting.{accepts_is}
use Rattle.dcx_rules.proofs.Faults.{verdict_is, lost_fault, breach_fault, dpp_is}
use Rattle.dcx_rules.proofs.Truth.{findings_true}
use Rattle.dcx_rules.proofs.checking.check.Goals as goal

pub returns-in_err-nodes-clause-fault : goal.returns-in_err-nodes-clause-fault
returns-in_err-nodes-clause-fault c =
    let p = c.args.problem.now in
    let plain = subst (AreJudgements Plain p) (sym c.deref.ensures.value) c.in_ok-plain.ensures in
    let out = err_from_is_err_and c.from_residual-in_err-nodes.result c.from_residual-in_err-nodes.ensures.1 in
    rw (out.1, out.2) (lost_fault p c.deref.result.now plain c.in_err-nodes.field-0.0 c.in_err-nodes.ensures.err)

pub returns-in-Some-clause-fault : goal.returns-in-Some-clause-fault
returns-in-Some-clause-fault c =
    let p = c.args.problem.now in
    let plain = subst (AreJudgements Plain p) (sym c.deref-2.ensures.value) c.in_ok-plain.ensures in
    let found : map Some c.in_ok-nodes.nodes.items ≡ map finding_of c.deref-2.result.now =
    c.in_ok-nodes.ensures.ok ∙ ap (map finding_of) (c.deref.ensures.value ∙ sym c.deref-2.ensures.value) in
    breach_fault p c.deref-2.result.now plain c.in_ok-nodes.nodes.items found c.in-Some.breach.site c.in-Some.breach.rule
    (λ h. true≢false (c.in-Some.ensures.none.1 h)) c.in-Some.ensures.some

pub returns : goal.returns
returns c =
    let p = c.args.problem.now in
    let gs = c.deref-2.result.now in
    let plain = subst (AreJudgements Plain p) (sym c.deref-2.ensures.value) c.in_ok-plain.ensures in
    let parametrized = subst (AreJudgements Parametrized p) (sym c.deref-3.ensures.value) c.in_ok-parametrized.ensures in
    let found : map Some c.in_ok-nodes.nodes.items ≡ map finding_of gs =
    c.in_ok-nodes.ensures.ok ∙ ap (map finding_of) (c.deref.ensures.value ∙ sym c.deref-2.ensures.value) in
    let accepted : IsAccepted p = sym (accepts_is Plain p gs plain) ∙ c.in_default.ensures.none.0 refl in
    let dpp = dpp_is p c.deref-3.result.now parametrized accepted c.first_breach-2.result c.is_none-dpp.result c.is_none-dpp.ensures c.first_breach-2.ensures.none in
    let verdict : IsVerdictOf p c.of.result = subst (IsVerdictOf p) (sym c.of.ensures)
    (verdict_is p gs plain c.in_ok-nodes.nodes.items c.in_ok-parametrized.parametrized.items c.is_none-dpp.result found c.in_ok-parametrized.ensures dpp) in
    record { accepted = accepted; convex = accepted_is_convex p accepted; verdict = verdict; truth = λ s fit. findings_true p s fit c.of.result verdict; fault = tt }
