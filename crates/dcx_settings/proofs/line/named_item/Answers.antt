-- An equal sign stands behind a name.
use Rattle.dcx_settings.specs.Terminal.{terminals}
use Rattle.dcx_settings.specs.Steps.{ItemStopsAt}
use Rattle.dcx_settings.proofs.Rows.{err_from}
use Rattle.dcx_settings.proofs.Lines.{item_unnamed}
use Rattle.dcx_settings.proofs.line.named_item.Goals as goal

pub returns-in_err-inner-clause-stop : goal.returns-in_err-inner-clause-stop
returns-in_err-inner-clause-stop c =
    err_from (ItemStopsAt c.args.called.now c.args.text.now (terminals c.args.text.now c.args.tokens.now)) c.from_residual.result c.in_err-inner.field-0.0 c.from_residual.ensures.1
    (item_unnamed c.args.called.now c.args.text.now c.args.tokens.now c.in_err-inner.field-0.0 c.in_err-inner.ensures.stop.0 c.in_err-inner.ensures.stop.1)
