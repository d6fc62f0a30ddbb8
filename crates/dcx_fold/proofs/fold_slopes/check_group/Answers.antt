-- The weights are tested first, then the conditions.
use Rattle.std.proofs.Common.{◌≡◌, ◌*◌, ◌∙◌, sym, ap, map}
use Rattle.std.proofs.lemmas.Result.{err_from_is_err_and}
use Rattle.dcx_frac.specs.Frac.{value}
use Rattle.dcx_atom.specs.Arrays.{list_below, number_at}
use Rattle.dcx_atom.specs.Steps.{test, is_weight, weights_stop}
use Rattle.dcx_atom.proofs.FirstStops.{first_stop-stopped, first_stop-passed}
use Rattle.dcx_atom.proofs.Lists.{list_below-numbers}
use Rattle.dcx_fold.specs.Folds.{member_rows, group_conditions}
use Rattle.dcx_fold.proofs.fold_slopes.check_group.Goals as goal

pub returns-in_err-check_weights : goal.returns-in_err-check_weights
returns-in_err-check_weights c =
    let p = err_from_is_err_and c.from_residual.result c.from_residual.ensures.1 in
    let ws = c.args.weights.now in
    let n = c.args.members in
    let same : map value ws ≡ list_below (n * member_rows c.args.fold) (number_at ws) = sym (list_below-numbers ws) ∙ ap (λ k. list_below k (number_at ws)) c.requires in
    rw (p.1, p.2) (sym (first_stop-stopped c.args.entry (map (λ x. test (is_weight x)) (list_below (n * member_rows c.args.fold) (number_at ws)))
    (map test (group_conditions c.args.fold n (value c.args.coefficient) (number_at ws))) _
    (ap (weights_stop c.args.entry) (sym same) ∙ sym c.in_err-check_weights.ensures)))

pub returns : goal.returns
returns c =
    let ws = c.args.weights.now in
    let n = c.args.members in
    let same : map value ws ≡ list_below (n * member_rows c.args.fold) (number_at ws) = sym (list_below-numbers ws) ∙ ap (λ k. list_below k (number_at ws)) c.requires in
    c.check_conditions.ensures
    ∙ sym (first_stop-passed c.args.entry (map (λ x. test (is_weight x)) (list_below (n * member_rows c.args.fold) (number_at ws)))
    (map test (group_conditions c.args.fold n (value c.args.coefficient) (number_at ws)))
    (ap (weights_stop c.args.entry) (sym same) ∙ sym c.in_ok-check_weights.ensures))
