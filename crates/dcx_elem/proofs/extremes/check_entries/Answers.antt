-- The weights of each entry's rows are tested.
use Rattle.std.proofs.Common.{◌<◌, ◌∙◌, sym, ap, arith, below_more}
use Rattle.std.proofs.lemmas.Result.{err_from_is_err_and}
use Rattle.dcx_shape.specs.Sides.{entries_of}
use Rattle.dcx_atom.specs.Arrays.{sides_list, sides_at}
use Rattle.dcx_elem.specs.Extremes.{extreme_meaning}
use Rattle.dcx_atom.proofs.Lists.{number_is}
use Rattle.dcx_atom.proofs.Weights.{stop_at}
use Rattle.dcx_elem.proofs.ExtremeSteps.{own_stop, first_sides, among}
use Rattle.dcx_elem.proofs.extremes.check_entries.Goals as goal

pub returns-in_err-check_total-clause-stop : goal.returns-in_err-check_total-clause-stop
returns-in_err-check_total-clause-stop c =
    let p = err_from_is_err_and c.from_residual.result c.from_residual.ensures.1 in
    let bend = c.args.extreme.bend in
    let count = c.args.extreme.count in
    let args = sides_list c.args.args.now in
    let cs = c.args.coefficients.now in
    let ws = c.args.weights.now in
    let j = c.loop-entry.entry in
    let x = c.index-coefficients-place.result in
    let size = c.size-entry-end.ensures.value ∙ ap entries_of (sym (first_sides c.args.args.now c.index-args-0.result c.requires.some c.index-args-0.is)) in
    let b : j < entries_of (sides_at args 0) = omega (arith, size, c.loop-entry-test.true) in
    rw (p.1, p.2) (stop_at (extreme_meaning bend count) args (entries_of (sides_at args 0)) cs ws _ j b c.loop-entry.invariant
    (own_stop bend count args cs ws c.row_weights-own.result.now j x c.outward_of-bound.result (among ws j count (entries_of (sides_at args 0)) b c.requires.weights)
    (number_is cs j x (omega (arith, c.requires.coefficients)) c.index-coefficients-place.is) c.outward_of-bound.ensures c.row_weights-own.ensures ∙ sym c.in_err-check_total.ensures))

pub loop-entry-preserved : goal.loop-entry-preserved
loop-entry-preserved c =
    let bend = c.args.extreme.bend in
    let count = c.args.extreme.count in
    let args = sides_list c.args.args.now in
    let cs = c.args.coefficients.now in
    let ws = c.args.weights.now in
    let j = c.loop-entry.entry in
    let x = c.index-coefficients-place.result in
    let size = c.size-entry-end.ensures.value ∙ ap entries_of (sym (first_sides c.args.args.now c.index-args-0.result c.requires.some c.index-args-0.is)) in
    let b : j < entries_of (sides_at args 0) = omega (arith, size, c.loop-entry-test.true) in
    below_more _ _ c.loop-entry.invariant
    (own_stop bend count args cs ws c.row_weights-own.result.now j x c.outward_of-bound.result (among ws j count (entries_of (sides_at args 0)) b c.requires.weights)
    (number_is cs j x (omega (arith, c.requires.coefficients)) c.index-coefficients-place.is) c.outward_of-bound.ensures c.row_weights-own.ensures ∙ sym c.in_ok-check_total.ensures)
