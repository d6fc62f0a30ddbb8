-- The value is the sum of the chosen entries of the only argument.
use Rattle.std.proofs.lemmas.Result.{err_from_is_err_and}
use Rattle.dcx_fold.proofs.LargestCalls.{largest_value_is, largest_value_stop}
use Rattle.dcx_fold.proofs.chosen.largest_value.Goals as goal

pub returns-in_err-sum-clause-stop : goal.returns-in_err-sum-clause-stop
returns-in_err-sum-clause-stop c =
    let p = err_from_is_err_and c.from_residual.result c.from_residual.ensures.1 in
    rw (p.1, p.2) (largest_value_stop c.args.largest.bend c.args.largest.k c.args.args.now c.index-args-0.result c.as_slice.result.now _ c.requires c.index-args-0.is
    c.as_slice.ensures c.in_err-sum.ensures.stop)

pub returns-in-Ok-clause-ok : goal.returns-in-Ok-clause-ok
returns-in-Ok-clause-ok c =
    largest_value_is c.args.largest.bend c.args.largest.k c.args.args.now c.index-args-0.result c.in-Ok.array c.in_ok-sum.sum c.as_slice.result.now c.requires c.index-args-0.is c.as_slice.ensures
    c.in-Ok.ensures.shape c.in-Ok.ensures.entries c.in_ok-sum.ensures.ok c.in_ok-sum.ensures.value
