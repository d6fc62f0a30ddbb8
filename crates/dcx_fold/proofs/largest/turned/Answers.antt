-- The next weight is turned behind those so far.
use Rattle.std.proofs.Common.{◌∙◌, ap, map, rules}
use Rattle.std.proofs.lemmas.List.{take_all}
use Rattle.std.proofs.lemmas.Result.{err_from_is_err_and}
use Rattle.dcx_frac.specs.declared.fraction.Frac.{Frac}
use Rattle.dcx_frac.specs.Frac.{value}
use Rattle.dcx_atom.specs.Bounding.{outward}
use Rattle.dcx_fold.proofs.LargestSteps.{mapped_more}
use Rattle.dcx_fold.proofs.largest.turned.Goals as goal

pub loop-weight-init : goal.loop-weight-init
loop-weight-init c = search rules

pub loop-weight-smaller : goal.loop-weight-smaller
loop-weight-smaller c = search rules

pub loop-weight-preserved : goal.loop-weight-preserved
loop-weight-preserved c =
    ap (map value) c.in_ok-push.ensures.items
    ∙ mapped_more (λ (w : Frac). outward c.args.bend (value w)) value c.args.weights.now c.loop-weight.weight-index c.weight-item.result c.loop-weight.slopes.items c.outward_of.result
    c.loop-weight-test.true c.weight-item.is c.loop-weight.invariant c.outward_of.ensures

pub returns : goal.returns
returns c =
    ap (map value) c.from_vec.ensures ∙ c.loop-weight.invariant
    ∙ ap (map (λ (w : Frac). outward c.args.bend (value w))) (take_all c.loop-weight.weight-index c.args.weights.now c.loop-weight-test.false)

pub returns-in_err-push : goal.returns-in_err-push
returns-in_err-push c = let p = err_from_is_err_and c.from_residual.result c.from_residual.ensures.1 in rw p.1 tt
