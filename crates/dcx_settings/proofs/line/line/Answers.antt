-- A brace begins a line with nothing.
use Rattle.dcx_settings.specs.Terminal.{terminals}
use Rattle.dcx_settings.specs.Steps.{LineStopsAt}
use Rattle.dcx_settings.proofs.Rows.{err_from}
use Rattle.dcx_settings.proofs.Lines.{nothing_unclosed, nothing_unended}
use Rattle.dcx_settings.proofs.line.line.Goals as goal

pub returns-in_err-inner-in-Some-clause-stop : goal.returns-in_err-inner-in-Some-clause-stop
returns-in_err-inner-in-Some-clause-stop c =
    err_from (LineStopsAt c.args.text.now (terminals c.args.text.now c.args.tokens.now)) c.from_residual.result c.in_err-inner-in-Some.field-0.0 c.from_residual.ensures.1
    (nothing_unclosed c.args.text.now (terminals c.args.text.now c.args.tokens.now) c.in-Some.behind.now c.in_err-inner-in-Some.field-0.0 c.in-Some.ensures.first
    c.in_err-inner-in-Some.ensures.stop.0 c.in_err-inner-in-Some.ensures.stop.1)

pub returns-in_err-rest-in-Some-clause-stop : goal.returns-in_err-rest-in-Some-clause-stop
returns-in_err-rest-in-Some-clause-stop c =
    err_from (LineStopsAt c.args.text.now (terminals c.args.text.now c.args.tokens.now)) c.from_residual-in_err-rest-in-Some.result c.in_err-rest-in-Some.field-0.0
    c.from_residual-in_err-rest-in-Some.ensures.1
    (nothing_unended c.args.text.now (terminals c.args.text.now c.args.tokens.now) _ c.in_ok-inner-in-Some.inner.now c.in_err-rest-in-Some.field-0.0 c.in-Some.ensures.first
    c.in_ok-inner-in-Some.ensures.ok c.in_err-rest-in-Some.ensures.stop.0 c.in_err-rest-in-Some.ensures.stop.1)
