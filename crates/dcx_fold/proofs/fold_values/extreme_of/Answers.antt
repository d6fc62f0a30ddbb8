-- The next number is compared with the farthest so far.
use Rattle.std.proofs.Common.{◌∙◌, sym, ap}
use Rattle.dcx_frac.specs.Frac.{value}
use Rattle.dcx_atom.specs.Farthest.{farther}
use Rattle.dcx_atom.proofs.Lists.{one_farther}
use Rattle.dcx_fold.proofs.fold_values.extreme_of.Goals as goal

pub loop-number-preserved : goal.loop-number-preserved
loop-number-preserved c =
    c.farther_of-far.ensures ∙ ap (λ x. farther c.args.bend x (value c.number-item.result)) c.loop-number.invariant
    ∙ sym (one_farther c.args.bend (value c.index-numbers-0.result) value c.others-rest.result.now c.loop-number.number-index c.number-item.result c.loop-number-test.true c.number-item.is)
