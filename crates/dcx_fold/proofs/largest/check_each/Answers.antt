-- The next weight is compared with the bound.
use Rattle.std.proofs.Common.{◌∙◌, sym}
use Rattle.std.proofs.lemmas.Result.{err_from_is_err_and}
use Rattle.dcx_frac.specs.declared.fraction.Frac.{Frac}
use Rattle.dcx_frac.specs.Frac.{value}
use Rattle.dcx_atom.specs.Steps.{test}
use Rattle.dcx_fold.specs.Largest.{each_condition}
use Rattle.dcx_fold.proofs.LargestSteps.{steps-next, steps-at, each_tested}
use Rattle.dcx_fold.proofs.largest.check_each.Goals as goal

pub returns-in_err-check_at_most : goal.returns-in_err-check_at_most
returns-in_err-check_at_most c =
    let p = err_from_is_err_and c.from_residual.result c.from_residual.ensures.1 in
    let g = λ (w : Frac). test (each_condition c.args.bend (value c.args.coefficient) (value w)) in
    rw (p.1, p.2) (sym (steps-at g c.args.weights.now c.loop-weight.weight-index c.weight-item.result _ c.loop-weight-test.true c.weight-item.is c.loop-weight.invariant
    (each_tested c.args.bend c.args.coefficient c.weight-item.result c.outward_of-bound.result c.outward_of-bound.ensures ∙ sym c.in_err-check_at_most.ensures)))

pub loop-weight-preserved : goal.loop-weight-preserved
loop-weight-preserved c =
    let g = λ (w : Frac). test (each_condition c.args.bend (value c.args.coefficient) (value w)) in
    steps-next g c.args.weights.now c.loop-weight.weight-index c.weight-item.result c.loop-weight-test.true c.weight-item.is c.loop-weight.invariant
    ∙ each_tested c.args.bend c.args.coefficient c.weight-item.result c.outward_of-bound.result c.outward_of-bound.ensures ∙ sym c.in_ok-check_at_most.ensures
