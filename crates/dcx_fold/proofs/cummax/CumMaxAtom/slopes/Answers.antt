-- The slopes are those of the only argument.
use Rattle.dcx_atom.specs.Arrays.{sides_list}
use Rattle.dcx_atom.specs.Steps.{IsSlopeStop}
use Rattle.dcx_fold.specs.Running.{running_meaning}
use Rattle.dcx_fold.proofs.RunningCalls.{first_size, weights_counted, err_at_vector}
use Rattle.dcx_fold.proofs.cummax.CumMaxAtom.slopes.Goals as goal

pub running_slopes-requires-clause-weights : goal.running_slopes-requires-clause-weights
running_slopes-requires-clause-weights c =
    let n = first_size c.args.args.now c.index-args-0.result c.size.result c.requires.shape c.index-args-0.is c.size.ensures.value in
    weights_counted (sides_list c.args.args.now) c.size.result c.args.weights.now c.requires.shape n c.requires.weights

pub returns-clause-stop : goal.returns-clause-stop
returns-clause-stop c =
    let n = first_size c.args.args.now c.index-args-0.result c.size.result c.requires.shape c.index-args-0.is c.size.ensures.value in
    err_at_vector (sides_list c.args.args.now) c.size.result
    (λ args size. IsSlopeStop running_meaning args size c.args.coefficients.now c.args.weights.now) c.running_slopes.result c.requires.shape n c.running_slopes.ensures.stop
