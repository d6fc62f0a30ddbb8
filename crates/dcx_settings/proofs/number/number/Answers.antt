-- A number may begin with a minus.
use Rattle.std.proofs.Common.{true, false}
use Rattle.std.proofs.lemmas.Result.{IfOk-weaker, IfErr-weaker}
use Rattle.dcx_settings.specs.Terminal.{terminals}
use Rattle.dcx_settings.specs.Steps.{number_from, size_from}
use Rattle.dcx_settings.proofs.Numbers.{read_further, stop_further, number_minus, number_plain}
use Rattle.dcx_settings.proofs.number.number.Goals as goal

pub returns-in-Some-clause-ok : goal.returns-in-Some-clause-ok
returns-in-Some-clause-ok c = IfOk-weaker c.unsigned.result _ _ (λ x h. read_further _ _ _ _ _ x.0 (λ lines is n d. number_minus lines is n d _ _ c.in-Some.ensures.first) h) c.unsigned.ensures.ok

pub returns-in-Some-clause-stop : goal.returns-in-Some-clause-stop
returns-in-Some-clause-stop c = IfErr-weaker c.unsigned.result _ _ (λ e h. stop_further number_from (size_from true) c.args.text.now (terminals c.args.text.now c.args.tokens.now)
    (terminals c.args.text.now c.in-Some.rest.now) e (λ lines is n d. number_minus lines is n d _ _ c.in-Some.ensures.first) h) c.unsigned.ensures.stop

pub returns-in-None-clause-ok : goal.returns-in-None-clause-ok
returns-in-None-clause-ok c = IfOk-weaker c.unsigned-in-None.result _ _
    (λ x h. read_further _ _ _ _ _ x.0 (λ lines is n d. number_plain lines is n d _ c.in-None.ensures.first) h) c.unsigned-in-None.ensures.ok

pub returns-in-None-clause-stop : goal.returns-in-None-clause-stop
returns-in-None-clause-stop c =
    IfErr-weaker c.unsigned-in-None.result _ _ (λ e h. stop_further number_from (size_from false) c.args.text.now (terminals c.args.text.now c.args.tokens.now)
    (terminals c.args.text.now c.args.tokens.now) e (λ lines is n d. number_plain lines is n d _ c.in-None.ensures.first) h) c.unsigned-in-None.ensures.stop
