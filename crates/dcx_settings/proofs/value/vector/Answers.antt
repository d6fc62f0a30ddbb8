-- A row alone is a list.
use Rattle.std.proofs.Common.{arith, subst, sym, ◌∙◌, ap}
use Rattle.dcx_settings.specs.Terminal.{terminals}
use Rattle.dcx_settings.specs.Machine.{bracket}
use Rattle.dcx_settings.specs.Steps.{IsValueRead, ValueStopsAt}
use Rattle.dcx_shape.specs.declared.shape.Sides.TheVariants.{Vector}
use Rattle.dcx_settings.proofs.Rows.{err_from}
use Rattle.dcx_settings.proofs.Values.{vector_read, vector_stops}
use Rattle.dcx_settings.proofs.value.vector.Goals as goal

pub returns-in_err-found-clause-stop : goal.returns-in_err-found-clause-stop
returns-in_err-found-clause-stop c =
    err_from (ValueStopsAt bracket c.args.text.now (terminals c.args.text.now c.args.tokens.now)) c.from_residual.result c.in_err-found.field-0.0 c.from_residual.ensures.1
    (vector_stops c.args.text.now _ c.in_err-found.field-0.0 c.requires c.in_err-found.ensures.stop)

pub returns-clause-ok : goal.returns-clause-ok
returns-clause-ok c =
    let us = terminals c.args.text.now c.args.tokens.now in
    let rest = terminals c.args.text.now c.in_ok-found.rest.now in
    subst (λ fs. IsValueRead bracket us c.vector_shape-shape.result fs rest) (sym c.from_vec.ensures)
    (vector_read us rest c.in_ok-found.found.items c.requires c.in_ok-found.ensures.ok c.vector_shape-shape.result
    (c.vector_shape-shape.ensures ∙ ap (λ k. Vector k) (let e = c.len.ensures in omega (arith, e))))
