-- The weights are tested, and turned for the smallest.
use Rattle.std.proofs.Common.{sym, arith}
use Rattle.std.proofs.lemmas.Result.{err_from_is_err_and}
use Rattle.dcx_atom.specs.Arrays.{sides_list}
use Rattle.dcx_atom.proofs.Lists.{number_is}
use Rattle.dcx_fold.proofs.LargestCalls.{largest_slopes_are, largest_slopes_stop}
use Rattle.dcx_fold.proofs.chosen.largest_slopes.Goals as goal

pub returns-in_err-check_chosen-clause-stop : goal.returns-in_err-check_chosen-clause-stop
returns-in_err-check_chosen-clause-stop c =
    let p = err_from_is_err_and c.from_residual.result c.from_residual.ensures.1 in
    let cs = c.args.coefficients.now in
    let x = c.index-coefficients-0.result in
    rw (p.1, p.2) (largest_slopes_stop c.args.largest.bend c.args.largest.k (sides_list c.args.args.now) cs c.args.weights.now x _ c.requires.weights
    (number_is cs 0 x (omega (arith, c.requires.coefficients)) c.index-coefficients-0.is) (sym c.in_err-check_chosen.ensures))

pub returns-in-Ok-clause-ok : goal.returns-in-Ok-clause-ok
returns-in-Ok-clause-ok c =
    let cs = c.args.coefficients.now in
    let x = c.index-coefficients-0.result in
    largest_slopes_are c.args.largest.bend c.args.largest.k (sides_list c.args.args.now) cs c.args.weights.now c.in-Ok.slopes x c.requires.shape c.requires.weights
    (number_is cs 0 x (omega (arith, c.requires.coefficients)) c.index-coefficients-0.is) (sym c.in_ok-check_chosen.ensures) c.in-Ok.ensures
