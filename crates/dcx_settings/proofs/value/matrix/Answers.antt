-- Rows and a bracket are a matrix.
use Rattle.std.proofs.Common.{subst, sym, refl}
use Rattle.dcx_settings.specs.Terminal.{terminals}
use Rattle.dcx_settings.specs.Steps.{IsValueRead, ValueStopsAt, matrix_begun}
use Rattle.dcx_settings.proofs.Rows.{err_from}
use Rattle.dcx_settings.proofs.Matrices.{width_few, count_few, rows_entries}
use Rattle.dcx_settings.proofs.Values.{matrix_read, matrix_open, matrix_stops}
use Rattle.dcx_settings.proofs.value.matrix.Goals as goal

pub returns-in_err-found-clause-stop : goal.returns-in_err-found-clause-stop
returns-in_err-found-clause-stop c =
    err_from (ValueStopsAt matrix_begun c.args.text.now (terminals c.args.text.now c.args.tokens.now)) c.from_residual.result c.in_err-found.field-0.0 c.from_residual.ensures.1
    (matrix_stops c.args.text.now (terminals c.args.text.now c.args.tokens.now) c.in_err-found.field-0.0 c.in_err-found.ensures.stop)

pub returns-in_err-behind-clause-stop : goal.returns-in_err-behind-clause-stop
returns-in_err-behind-clause-stop c =
    err_from (ValueStopsAt matrix_begun c.args.text.now (terminals c.args.text.now c.args.tokens.now)) c.from_residual-in_err-behind.result c.in_err-behind.field-0.0
    c.from_residual-in_err-behind.ensures.1
    (matrix_open _ _ _ c.in_ok-found.found.numbers.items _ c.in_ok-found.ensures.ok c.args.text.now c.in_ok-found.rest.now refl c.in_ok-found.ensures.ends
    c.in_err-behind.field-0.0 c.in_err-behind.ensures.stop.0 c.in_err-behind.ensures.stop.1)

pub matrix_shape-shape-requires-clause-few : goal.matrix_shape-shape-requires-clause-few
matrix_shape-shape-requires-clause-few c = rows_entries _ _ _ c.in_ok-found.found.numbers.items _ c.in_ok-found.ensures.ok

pub matrix_shape-shape-requires-clause-fits : goal.matrix_shape-shape-requires-clause-fits
matrix_shape-shape-requires-clause-fits c = (count_few _ _ _ c.in_ok-found.found.numbers.items _ c.in_ok-found.ensures.ok, width_few _ _ _ c.in_ok-found.found.numbers.items _ c.in_ok-found.ensures.ok)

pub returns-clause-ok : goal.returns-clause-ok
returns-clause-ok c =
    let us = terminals c.args.text.now c.args.tokens.now in
    let rest = terminals c.args.text.now c.in_ok-behind.behind.now in
    subst (λ fs. IsValueRead matrix_begun us c.matrix_shape-shape.result fs rest) (sym c.from_vec.ensures)
    (matrix_read _ _ _ _ _ c.in_ok-found.ensures.ok _ c.in_ok-behind.ensures.ok c.matrix_shape-shape.result c.matrix_shape-shape.ensures)
