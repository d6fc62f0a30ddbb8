-- A call of arguments is bent where it composes so.
use Rattle.std.proofs.Common.{sym, ◌∙◌}
use Rattle.dcx_rules.specs.Judgements.{rules_of}
use Rattle.dcx_rules.proofs.Heads.{bent_head, not_leaf}
use Rattle.dcx_rules.proofs.judgement.is_bent_call.Goals as goal

pub returns-in_default : goal.returns-in_default
returns-in_default c =
    c.composes.ensures
    ∙ sym (bent_head (rules_of c.args.rules) c.args.bend c.args.call.now
    (not_leaf c.args.call.now c.in_default.not-Variable c.in_default.not-Parameter c.in_default.not-Constant) c.args.args.now c.args.signs.now c.requires)
