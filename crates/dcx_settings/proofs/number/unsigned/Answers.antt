-- A number behind its sign begins with digits, or is one with a point or an exponent.
use Rattle.std.proofs.lemmas.Result.{IfOk-weaker, IfErr-weaker}
use Rattle.dcx_settings.specs.Terminal.{terminals}
use Rattle.dcx_settings.specs.Steps.{digits_from, size_from}
use Rattle.dcx_settings.proofs.Numbers.{read_further, stop_further, size_digits, decimal_read}
use Rattle.dcx_settings.proofs.number.unsigned.Goals as goal

pub returns-in-Some-clause-ok : goal.returns-in-Some-clause-ok
returns-in-Some-clause-ok c = IfOk-weaker c.behind_digits.result _ _ (λ x h. read_further _ _ _ _ _ x.0
    (λ lines is n d. size_digits lines is n d c.args.is_negative c.in-Some.front.num _ _ c.in-Some.ensures.first) h) c.behind_digits.ensures.ok

pub returns-in-Some-clause-stop : goal.returns-in-Some-clause-stop
returns-in-Some-clause-stop c = IfErr-weaker c.behind_digits.result _ _ (λ e h. stop_further (size_from c.args.is_negative)
    (digits_from c.args.is_negative c.in-Some.front.num) c.args.text.now (terminals c.args.text.now c.args.tokens.now) (terminals c.args.text.now c.in-Some.rest.now) e
    (λ lines is n d. size_digits lines is n d c.args.is_negative c.in-Some.front.num _ _ c.in-Some.ensures.first) h) c.behind_digits.ensures.stop

pub returns-in-Some-eat_decimal-clause-ok : goal.returns-in-Some-eat_decimal-clause-ok
returns-in-Some-eat_decimal-clause-ok c = decimal_read _ c.in-Some-eat_decimal.number c.signed.result _ _ c.in-Some-eat_decimal.ensures.first c.signed.ensures
