-- Each part of the judgement is what the rules say.
use Rattle.std.proofs.Common.{◌≡◌, ◌∙◌}
use Rattle.dcx_rules.specs.Judgements.{signs_of}
use Rattle.dcx_rules.proofs.Heads.{sign_head, same_judgement}
use Rattle.dcx_rules.proofs.judgement.judge.Goals as goal

pub returns : goal.returns
returns c =
    let signs : c.deref.result.now ≡ signs_of c.args.args.now = c.deref.ensures.value ∙ c.in_ok-signs.ensures in
    same_judgement _ _ _ _ _ _ _ _ _ _ (c.sign.ensures ∙ sign_head c.args.call.now c.args.args.now c.deref.result.now signs)
    c.is_fixed.ensures c.is_unparametrized.ensures c.is_bent_call.ensures c.is_bent_call-2.ensures
