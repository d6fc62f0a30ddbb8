-- The sum of all weights is tested, or that of each pair.
use Rattle.std.proofs.Common.{◌≡◌, ◌+◌, ◌*◌, ◌∙◌, sym, ap, map}
use Rattle.dcx_math.specs.Rational.{neg_ℚ}
use Rattle.dcx_frac.specs.Frac.{value}
use Rattle.dcx_atom.specs.declared.graph.AuxKind.TheVariants.{Free, Nonneg}
use Rattle.dcx_atom.specs.Arrays.{list_below, number_at}
use Rattle.dcx_atom.specs.Steps.{test, step_stop, first_stop}
use Rattle.dcx_atom.specs.Bounding.{total_condition}
use Rattle.dcx_atom.proofs.BoundRows.{map-list_below}
use Rattle.dcx_atom.proofs.Lists.{list_below-numbers}
use Rattle.dcx_fold.specs.Folds.{member_rows}
use Rattle.dcx_fold.proofs.StepLists.{one_condition}
use Rattle.dcx_fold.proofs.fold_slopes.check_conditions.Goals as goal

pub returns-in-Max : goal.returns-in-Max
returns-in-Max c =
    let ws = c.args.weights.now in
    let n = c.requires ∙ ap (λ p. c.args.members * member_rows p) c.in-Max.is in
    let same : map value ws ≡ list_below (c.args.members * 1) (number_at ws) = sym (list_below-numbers ws) ∙ ap (λ k. list_below k (number_at ws)) n in
    rw c.in-Max.is (c.check_sum.ensures ∙ ap (λ xs. step_stop c.args.entry (test (total_condition Free (value c.args.coefficient) xs))) same
    ∙ one_condition c.args.entry (total_condition Free (value c.args.coefficient) (list_below (c.args.members * 1) (number_at ws))))

pub returns-in-Min : goal.returns-in-Min
returns-in-Min c =
    let ws = c.args.weights.now in
    let n = c.requires ∙ ap (λ p. c.args.members * member_rows p) c.in-Min.is in
    let same : map value ws ≡ list_below (c.args.members * 1) (number_at ws) = sym (list_below-numbers ws) ∙ ap (λ k. list_below k (number_at ws)) n in
    rw c.in-Min.is (c.check_sum-in-Min.ensures ∙ ap (λ x. step_stop c.args.entry (test (total_condition Free x (map value ws)))) c.neg.ensures
    ∙ ap (λ xs. step_stop c.args.entry (test (total_condition Free (neg_ℚ (value c.args.coefficient)) xs))) same
    ∙ one_condition c.args.entry (total_condition Free (neg_ℚ (value c.args.coefficient)) (list_below (c.args.members * 1) (number_at ws))))

pub returns-in-Norm1 : goal.returns-in-Norm1
returns-in-Norm1 c =
    let ws = c.args.weights.now in
    rw c.in-Norm1.is (c.check_pairs.ensures
    ∙ ap (first_stop c.args.entry) (sym (map-list_below c.args.members (λ i. total_condition Nonneg (value c.args.coefficient) (list_below 2 (λ f. number_at ws (i * 2 + f)))) test)))

pub returns-in-NormInf : goal.returns-in-NormInf
returns-in-NormInf c =
    let ws = c.args.weights.now in
    let n = c.requires ∙ ap (λ p. c.args.members * member_rows p) c.in-NormInf.is in
    let same : map value ws ≡ list_below (c.args.members * 2) (number_at ws) = sym (list_below-numbers ws) ∙ ap (λ k. list_below k (number_at ws)) n in
    rw c.in-NormInf.is (c.check_sum-in-NormInf.ensures ∙ ap (λ xs. step_stop c.args.entry (test (total_condition Nonneg (value c.args.coefficient) xs))) same
    ∙ one_condition c.args.entry (total_condition Nonneg (value c.args.coefficient) (list_below (c.args.members * 2) (number_at ws))))
