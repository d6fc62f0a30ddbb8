-- The sum of the next pair is tested.
use Rattle.std.proofs.Common.{◌+◌, ◌*◌, ◌≤◌, ◌∙◌, sym, ap, subst, map}
use Rattle.std.proofs.lemmas.Result.{err_from_is_err_and}
use Rattle.dcx_frac.specs.Frac.{value}
use Rattle.dcx_atom.specs.declared.graph.AuxKind.TheVariants.{Nonneg}
use Rattle.dcx_atom.specs.Arrays.{list_below, number_at}
use Rattle.dcx_atom.specs.Steps.{test, step_stop}
use Rattle.dcx_atom.specs.Bounding.{total_condition}
use Rattle.dcx_atom.proofs.Weights.{within_rows}
use Rattle.dcx_fold.proofs.StepLists.{own_numbers, first_stop-next, first_stop-at}
use Rattle.dcx_fold.proofs.fold_slopes.check_pairs.Goals as goal

pub returns-in_err-check_sum : goal.returns-in_err-check_sum
returns-in_err-check_sum c =
    let p = err_from_is_err_and c.from_residual.result c.from_residual.ensures.1 in
    let ws = c.args.weights.now in
    let i = c.loop-i.i in
    let own = ap (map value) c.row_weights-pair.ensures ∙ own_numbers ws i 2 (subst (λ k. i * 2 + 2 ≤ k) (sym c.requires) (within_rows i 2 c.args.members c.loop-i-test.true)) in
    rw (p.1, p.2) (sym (first_stop-at c.args.entry c.args.members i
    (λ i. test (total_condition Nonneg (value c.args.coefficient) (list_below 2 (λ f. number_at ws (i * 2 + f))))) _ c.loop-i-test.true c.loop-i.invariant
    (ap (λ xs. step_stop c.args.entry (test (total_condition Nonneg (value c.args.coefficient) xs))) (sym own) ∙ sym c.in_err-check_sum.ensures)))

pub loop-i-preserved : goal.loop-i-preserved
loop-i-preserved c =
    let ws = c.args.weights.now in
    let i = c.loop-i.i in
    let own = ap (map value) c.row_weights-pair.ensures ∙ own_numbers ws i 2 (subst (λ k. i * 2 + 2 ≤ k) (sym c.requires) (within_rows i 2 c.args.members c.loop-i-test.true)) in
    first_stop-next c.args.entry i (λ i. test (total_condition Nonneg (value c.args.coefficient) (list_below 2 (λ f. number_at ws (i * 2 + f))))) c.loop-i.invariant
    ∙ ap (λ xs. step_stop c.args.entry (test (total_condition Nonneg (value c.args.coefficient) xs))) (sym own) ∙ sym c.in_ok-check_sum.ensures
