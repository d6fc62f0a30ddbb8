-- A call of arguments reaches no parameter where none of them does.
use Rattle.std.proofs.Common.{sym, ◌∙◌}
use Rattle.dcx_rules.proofs.Heads.{unparametrized_head, not_leaf}
use Rattle.dcx_rules.proofs.judgement.is_unparametrized.Goals as goal

pub returns-in_default : goal.returns-in_default
returns-in_default c =
    c.are_unparametrized.ensures ∙ sym (unparametrized_head c.args.call.now (not_leaf c.args.call.now c.in_default.not-Variable c.in_default.not-Parameter c.in_default.not-Constant) c.args.args.now)
