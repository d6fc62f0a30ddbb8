-- The weights are tested, then each against the coefficient, and then their sum.
use Rattle.std.proofs.Common.{◌∙◌, sym, ap, map, [], ◌∷◌}
use Rattle.std.proofs.lemmas.Result.{err_from_is_err_and}
use Rattle.dcx_frac.specs.declared.fraction.Frac.{Frac}
use Rattle.dcx_frac.specs.Frac.{value}
use Rattle.dcx_math.specs.Rational.{ℚ}
use Rattle.dcx_atom.specs.Steps.{test, is_weight, first_stop, step_stop}
use Rattle.dcx_atom.proofs.FirstStops.{first_stop-stopped, first_stop-passed}
use Rattle.dcx_atom.proofs.Totals.{earlier-none_right}
use Rattle.dcx_fold.specs.Largest.{each_condition, sum_condition, level_conditions}
use Rattle.dcx_fold.proofs.LargestSteps.{conditions_are}
use Rattle.dcx_fold.proofs.largest.check_chosen.Goals as goal

pub returns-in_err-check_weights : goal.returns-in_err-check_weights
returns-in_err-check_weights c =
    let p = err_from_is_err_and c.from_residual.result c.from_residual.ensures.1 in
    let ws = c.args.weights.now in
    rw (p.1, p.2) (sym (first_stop-stopped 0 (map (λ (w : ℚ). test (is_weight w)) (map value ws))
    (map test (level_conditions c.args.bend c.args.k (value c.args.coefficient) (map value ws))) _ (sym c.in_err-check_weights.ensures)))

pub returns-in_err-check_each : goal.returns-in_err-check_each
returns-in_err-check_each c =
    let p = err_from_is_err_and c.from_residual-in_err-check_each.result c.from_residual-in_err-check_each.ensures.1 in
    let ws = c.args.weights.now in
    let b = c.args.bend in
    let x = value c.args.coefficient in
    rw (p.1, p.2) (sym (first_stop-passed 0 (map (λ (w : ℚ). test (is_weight w)) (map value ws)) (map test (level_conditions b c.args.k x (map value ws))) (sym c.in_ok-check_weights.ensures)
    ∙ ap (first_stop 0) (conditions_are b c.args.k x ws)
    ∙ first_stop-stopped 0 (map (λ (w : Frac). test (each_condition b x (value w))) ws) (test (sum_condition b c.args.k x (map value ws)) ∷ []) _ (sym c.in_err-check_each.ensures)))

pub returns : goal.returns
returns c =
    let ws = c.args.weights.now in
    let b = c.args.bend in
    let x = value c.args.coefficient in
    c.check_all.ensures
    ∙ sym (first_stop-passed 0 (map (λ (w : ℚ). test (is_weight w)) (map value ws)) (map test (level_conditions b c.args.k x (map value ws))) (sym c.in_ok-check_weights.ensures)
    ∙ ap (first_stop 0) (conditions_are b c.args.k x ws)
    ∙ first_stop-passed 0 (map (λ (w : Frac). test (each_condition b x (value w))) ws) (test (sum_condition b c.args.k x (map value ws)) ∷ []) (sym c.in_ok-check_each.ensures)
    ∙ earlier-none_right (step_stop 0 (test (sum_condition b c.args.k x (map value ws)))))
