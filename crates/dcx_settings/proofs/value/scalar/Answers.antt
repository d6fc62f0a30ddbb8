-- A number alone is a scalar.
use Rattle.std.proofs.Common.{[], ◌∷◌, ◌++◌, ◌∙◌, ap}
use Rattle.dcx_settings.specs.Terminal.{terminals}
use Rattle.dcx_settings.specs.Machine.{assigned}
use Rattle.dcx_settings.specs.Steps.{ValueStopsAt}
use Rattle.dcx_settings.proofs.Rows.{err_from}
use Rattle.dcx_settings.proofs.Values.{scalar_read, scalar_stops}
use Rattle.dcx_settings.proofs.value.scalar.Goals as goal

pub returns-in_err-found-clause-stop : goal.returns-in_err-found-clause-stop
returns-in_err-found-clause-stop c =
    err_from (ValueStopsAt assigned c.args.text.now (terminals c.args.text.now c.args.tokens.now)) c.from_residual.result c.in_err-found.field-0.0 c.from_residual.ensures.1
    (scalar_stops c.args.text.now _ c.in_err-found.field-0.0 c.requires c.in_err-found.ensures.stop)

pub returns-clause-ok : goal.returns-clause-ok
returns-clause-ok c =
    let e = c.from_vec.ensures ∙ c.in_ok-push.ensures.items ∙ ap (λ xs. xs ++ c.in_ok-found.found ∷ []) c.new-numbers.ensures.items in
    scalar_read _ _ c.in_ok-found.found c.from_vec.result e c.requires c.in_ok-found.ensures.ok c.scalar.result c.scalar.ensures
