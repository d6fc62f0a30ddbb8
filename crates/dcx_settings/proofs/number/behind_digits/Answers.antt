-- A slash goes on a quotient; any other token ends the number.
use Rattle.std.proofs.lemmas.Result.{IfOk-weaker, IfErr-weaker}
use Rattle.dcx_settings.specs.Terminal.{terminals}
use Rattle.dcx_settings.specs.Steps.{digits_from, divisor_from}
use Rattle.dcx_settings.proofs.Numbers.{read_further, stop_further, digits_slash, digits_read}
use Rattle.dcx_settings.proofs.number.behind_digits.Goals as goal

pub returns-in-Some-clause-ok : goal.returns-in-Some-clause-ok
returns-in-Some-clause-ok c = IfOk-weaker c.divisor.result _ _
    (λ x h. read_further _ _ _ _ _ x.0 (λ lines is n d. digits_slash lines is n d c.args.is_negative c.args.front.num _ _ c.in-Some.ensures.first) h) c.divisor.ensures.ok

pub returns-in-Some-clause-stop : goal.returns-in-Some-clause-stop
returns-in-Some-clause-stop c = IfErr-weaker c.divisor.result _ _ (λ e h. stop_further (digits_from c.args.is_negative c.args.front.num)
    (divisor_from c.args.is_negative c.args.front.num) c.args.text.now (terminals c.args.text.now c.args.tokens.now) (terminals c.args.text.now c.in-Some.rest.now) e
    (λ lines is n d. digits_slash lines is n d c.args.is_negative c.args.front.num _ _ c.in-Some.ensures.first) h) c.divisor.ensures.stop

pub returns-in-None-clause-ok : goal.returns-in-None-clause-ok
returns-in-None-clause-ok c = digits_read _ c.args.front c.signed.result _ c.requires c.in-None.ensures.first c.signed.ensures
