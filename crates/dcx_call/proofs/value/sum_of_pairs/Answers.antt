-- Each product is added to the sum of those before it.
use Rattle.std.proofs.Common.{◌∙◌, sym, ap, Ok, get_or}
use Rattle.std.proofs.lemmas.Result.{err_from_is_err_and}
use Rattle.dcx_math.specs.Rational.{ℚ}
use Rattle.dcx_atom.specs.Arrays.{number_at}
use Rattle.dcx_atom.proofs.FormedSums.{zero_frac-unique}
use Rattle.dcx_affine.specs.declared.pairing.Pair.{Pair}
use Rattle.dcx_call.proofs.Products.{next_sum, next_passes, own_item}
use Rattle.dcx_call.proofs.value.sum_of_pairs.Goals as goal

pub loop-pair-init : goal.loop-pair-init
loop-pair-init c = ap Ok (sym (zero_frac-unique c.zero-sum.result c.zero-sum.ensures))

pub loop-pair-preserved : goal.loop-pair-preserved
loop-pair-preserved c =
    let h : Pair → ℚ × ℚ = λ p. (number_at c.args.left.now p.left, number_at c.args.right.now p.right) in
    let x = get_or c.args.pairs.now c.loop-pair.pair-index (record { left = 0; right = 0 }) in
    next_sum h c.args.pairs.now c.loop-pair.pair-index x c.number_at.result c.number_at-in-loop-pair.result c.loop-pair.sum c.add_product.result c.loop-pair-test.true
    (own_item c.args.pairs.now c.loop-pair.pair-index (record { left = 0; right = 0 }) c.loop-pair-test.true) c.number_at.ensures.exact c.number_at-in-loop-pair.ensures.exact
    c.loop-pair.invariant c.add_product.ensures
    ∙ c.in_ok-sum.was

pub returns-in_err-sum : goal.returns-in_err-sum
returns-in_err-sum c =
    let r = err_from_is_err_and c.from_residual.result c.from_residual.ensures.1 in
    let h : Pair → ℚ × ℚ = λ p. (number_at c.args.left.now p.left, number_at c.args.right.now p.right) in
    let x = get_or c.args.pairs.now c.loop-pair.pair-index (record { left = 0; right = 0 }) in
    rw (r.1, r.2) (sym (next_passes h c.args.pairs.now c.loop-pair.pair-index _
    (next_sum h c.args.pairs.now c.loop-pair.pair-index x c.number_at.result c.number_at-in-loop-pair.result c.loop-pair.sum c.add_product.result c.loop-pair-test.true
    (own_item c.args.pairs.now c.loop-pair.pair-index (record { left = 0; right = 0 }) c.loop-pair-test.true) c.number_at.ensures.exact c.number_at-in-loop-pair.ensures.exact
    c.loop-pair.invariant c.add_product.ensures
    ∙ c.in_err-sum.was)))
