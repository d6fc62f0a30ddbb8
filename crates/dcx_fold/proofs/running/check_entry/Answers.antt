-- The weights are tested, and then both sides formed and compared.
use Rattle.std.proofs.Common.{◌∙◌, sym, ap, ap₂, refl, take, drop, map, [], ◌∷◌, Ok, Err}
use Rattle.std.proofs.lemmas.Result.{err_from_is_err_and}
use Rattle.dcx_math.specs.Rational.{ℚ, rat_eq}
use Rattle.dcx_math.specs.Sums.{rat_sum}
use Rattle.dcx_frac.specs.Frac.{value}
use Rattle.dcx_atom.specs.Formed.{sum_in_order}
use Rattle.dcx_atom.specs.Steps.{test, is_weight, broken_at, weights_stop}
use Rattle.dcx_atom.proofs.FirstStops.{first_stop-stopped}
use Rattle.dcx_atom.proofs.Totals.{value-sum_in_order}
use Rattle.dcx_fold.specs.Running.{own_weights, running_condition, running_weights}
use Rattle.dcx_fold.proofs.RunningSteps.{own_is, tests_passed, balance_stop}
use Rattle.dcx_fold.proofs.running.check_entry.Goals as goal

pub returns-in_err-check_weights : goal.returns-in_err-check_weights
returns-in_err-check_weights c =
    let p = err_from_is_err_and c.from_residual.result c.from_residual.ensures.1 in
    let ws = c.args.weights.now in
    let j = c.args.entry in
    let w = running_weights ws in
    let own = ap (map value) (c.part-own.ensures ∙ ap₂ (λ n s. take n (drop s ws)) c.rows_of_entry.ensures c.first_weight.ensures) ∙ own_is ws j c.args.size c.requires.entry c.requires.weights in
    rw (p.1, p.2) (sym (first_stop-stopped j (map (λ (x : ℚ). test (is_weight x)) (own_weights j (w j))) (test (running_condition c.args.size (value c.args.coefficient) w j) ∷ []) _
    (ap (weights_stop j) (sym own) ∙ sym c.in_err-check_weights.ensures)))

pub returns-in-Err : goal.returns-in-Err
returns-in-Err c =
    let ws = c.args.weights.now in
    let j = c.args.entry in
    let w = running_weights ws in
    let own = ap (map value) (c.part-own.ensures ∙ ap₂ (λ n s. take n (drop s ws)) c.rows_of_entry.ensures c.first_weight.ensures) ∙ own_is ws j c.args.size c.requires.entry c.requires.weights in
    sym (tests_passed j c.args.size (value c.args.coefficient) w (ap (weights_stop j) (sym own) ∙ sym c.in_ok-check_weights.ensures)
    ∙ balance_stop j c.args.size (value c.args.coefficient) w (Err c.in-Err.passes) _ (ap sum_in_order (sym own) ∙ sym c.in-Err.ensures) refl)

pub returns-in-Err-right_side : goal.returns-in-Err-right_side
returns-in-Err-right_side c =
    let ws = c.args.weights.now in
    let j = c.args.entry in
    let w = running_weights ws in
    let own = ap (map value) (c.part-own.ensures ∙ ap₂ (λ n s. take n (drop s ws)) c.rows_of_entry.ensures c.first_weight.ensures) ∙ own_is ws j c.args.size c.requires.entry c.requires.weights in
    sym (tests_passed j c.args.size (value c.args.coefficient) w (ap (weights_stop j) (sym own) ∙ sym c.in_ok-check_weights.ensures)
    ∙ balance_stop j c.args.size (value c.args.coefficient) w (Ok c.in-Ok.left) (Err c.in-Err-right_side.passes) (ap sum_in_order (sym own) ∙ sym c.in-Ok.ensures)
    (sym c.in-Err-right_side.ensures.answer))

pub returns-in-Ok-right_side : goal.returns-in-Ok-right_side
returns-in-Ok-right_side c =
    let ws = c.args.weights.now in
    let j = c.args.entry in
    let w = running_weights ws in
    let l = c.in-Ok.left in
    let r = c.in-Ok-right_side.right in
    let own = ap (map value) (c.part-own.ensures ∙ ap₂ (λ n s. take n (drop s ws)) c.rows_of_entry.ensures c.first_weight.ensures) ∙ own_is ws j c.args.size c.requires.entry c.requires.weights in
    c.check_equal.ensures
    ∙ ap₂ (λ x y. broken_at j (rat_eq x y) l r) (value-sum_in_order c.part-own.result.now l (sym c.in-Ok.ensures) ∙ ap rat_sum own) c.in-Ok-right_side.ensures.sum
    ∙ sym (tests_passed j c.args.size (value c.args.coefficient) w (ap (weights_stop j) (sym own) ∙ sym c.in_ok-check_weights.ensures)
    ∙ balance_stop j c.args.size (value c.args.coefficient) w (Ok l) (Ok r) (ap sum_in_order (sym own) ∙ sym c.in-Ok.ensures) (sym c.in-Ok-right_side.ensures.answer))
