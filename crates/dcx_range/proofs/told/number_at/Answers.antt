-- The parameter stands at the position of its name.
use Rattle.std.proofs.Common.{sym, ap, ◌∙◌}
use Rattle.dcx_right.specs.Ranges.{place_of}
use Rattle.dcx_range.proofs.Named.{place_low, number_there, sides_there}
use Rattle.dcx_range.proofs.told.number_at.Goals as goal

pub bounds-parameters-position : goal.bounds-parameters-position
bounds-parameters-position c = place_low c.as_slice-parameters.result.now c.args.name.now c.in-Some.position (sym c.in-Some.ensures)

pub returns-in_default-clause-fault : goal.returns-in_default-clause-fault
returns-in_default-clause-fault c = λ o. sym (c.in_default.ensures ∙ ap (λ xs. place_of xs c.args.name.now) c.as_slice-parameters.ensures)

pub returns-in-Scalar-clause-found : goal.returns-in-Scalar-clause-found
returns-in-Scalar-clause-found c =
    number_there c.args.problem.now c.args.name.now c.as_slice-parameters.result.now c.in-Some.position c.index-parameters-position.result c.as_slice-parameters.ensures c.in-Some.ensures
    c.index-parameters-position.is
    (sym c.sides.ensures ∙ c.in-Scalar.is)

pub returns-in-Vector-clause-fault : goal.returns-in-Vector-clause-fault
returns-in-Vector-clause-fault c = λ o.
    sides_there c.args.problem.now c.args.name.now c.as_slice-parameters.result.now c.in-Some.position c.index-parameters-position.result c.as_slice-parameters.ensures c.in-Some.ensures
    c.index-parameters-position.is
    (λ e. let f = sym c.in-Vector.is ∙ c.sides.ensures ∙ e in cc)

pub returns-in-Matrix-clause-fault : goal.returns-in-Matrix-clause-fault
returns-in-Matrix-clause-fault c = λ o.
    sides_there c.args.problem.now c.args.name.now c.as_slice-parameters.result.now c.in-Some.position c.index-parameters-position.result c.as_slice-parameters.ensures c.in-Some.ensures
    c.index-parameters-position.is
    (λ e. let f = sym c.in-Matrix.is ∙ c.sides.ensures ∙ e in cc)
