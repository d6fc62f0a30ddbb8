-- The next entry is tested, and its first weight is its slope.
use Rattle.std.proofs.Common.{◌≡◌, ◌+◌, ◌<◌, ◌∙◌, sym, ap, subst, arith, length, map, [], ◌∷◌, below_more, rules}
use Rattle.std.proofs.lemmas.Result.{err_from_is_err_and}
use Rattle.dcx_frac.specs.Frac.{value}
use Rattle.dcx_shape.specs.declared.shape.Sides.TheVariants.{Vector}
use Rattle.dcx_atom.specs.Arrays.{list_below, number_at}
use Rattle.dcx_atom.proofs.Lists.{number_is, list_below-push}
use Rattle.dcx_atom.proofs.Weights.{stop_at}
use Rattle.dcx_fold.specs.Running.{rows_until, running_weights, running_meaning}
use Rattle.dcx_fold.proofs.RunningSteps.{running_stop, running_slopes_are, first_within}
use Rattle.dcx_fold.proofs.running.running_slopes.Goals as goal

pub returns-in_err-check_entry-clause-stop : goal.returns-in_err-check_entry-clause-stop
returns-in_err-check_entry-clause-stop c =
    let p = err_from_is_err_and c.from_residual.result c.from_residual.ensures.1 in
    let size = c.args.size in
    let cs = c.args.coefficients.now in
    let ws = c.args.weights.now in
    let j = c.loop-entry.entry in
    let x = c.index-coefficients-entry.result in
    rw (p.1, p.2) (stop_at running_meaning (Vector size ∷ []) size cs ws _ j c.loop-entry-test.true c.loop-entry.invariant.stops
    (running_stop size cs ws j x (number_is cs j x (omega (arith, c.requires.coefficients)) c.index-coefficients-entry.is) ∙ sym c.in_err-check_entry.ensures))

pub loop-entry-preserved : goal.loop-entry-preserved
loop-entry-preserved c =
    let size = c.args.size in
    let cs = c.args.coefficients.now in
    let ws = c.args.weights.now in
    let j = c.loop-entry.entry in
    let x = c.index-coefficients-entry.result in
    let y = c.index-weights-first_weight.result in
    let b : c.first_weight.result < length ws = subst (λ k. k < length ws) (sym c.first_weight.ensures) (first_within ws j size c.loop-entry-test.true c.requires.weights) in
    let z : rows_until j ≡ rows_until j + 0 = omega arith in
    record {
      stops = below_more _ _ c.loop-entry.invariant.stops
          (running_stop size cs ws j x (number_is cs j x (omega (arith, c.requires.coefficients)) c.index-coefficients-entry.is) ∙ sym c.in_ok-check_entry.ensures);
      slopes = ap (map value) c.in-Ok.ensures.items
          ∙ list_below-push j (λ e. running_weights ws e 0) value c.loop-entry.slopes.items y c.loop-entry.invariant.slopes
          (number_is ws c.first_weight.result y b c.index-weights-first_weight.is ∙ ap (number_at ws) (c.first_weight.ensures ∙ z));
    }

pub returns-clause-ok : goal.returns-clause-ok
returns-clause-ok c =
    let size = c.args.size in
    let ws = c.args.weights.now in
    let end : c.loop-entry.entry ≡ size = omega (arith, c.loop-entry-test.false, c.loop-entry.auto.entry-end) in
    running_slopes_are size c.args.coefficients.now ws c.from_vec.result (λ k b. c.loop-entry.invariant.stops k (omega (arith, end)))
    (ap (map value) c.from_vec.ensures ∙ c.loop-entry.invariant.slopes ∙ ap (λ n. list_below n (λ e. running_weights ws e 0)) end)

pub loop-entry-init : goal.loop-entry-init
loop-entry-init c = search rules

pub loop-entry-smaller : goal.loop-entry-smaller
loop-entry-smaller c = search rules
