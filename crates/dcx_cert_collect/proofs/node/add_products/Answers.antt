-- The next product is added.
use Rattle.std.proofs.Common.{ℕ, ◌∙◌, ◌+◌, arith, sym, ap, length, Ok}
use Rattle.std.proofs.lemmas.Result.{err_from_is_err_and}
use Rattle.dcx_frac.specs.declared.fraction.Frac.{Frac}
use Rattle.dcx_frac.specs.Results.{sum_of}
use Rattle.dcx_atom.specs.Formed.{zero_frac, and_then}
use Rattle.dcx_cert_collect.specs.Shares.{frac_in}
use Rattle.dcx_cert_collect.proofs.Sharing.{within_list}
use Rattle.dcx_cert_collect.proofs.Counting.{pair_is, product_next, counted-within}
use Rattle.dcx_cert_collect.proofs.node.add_products.Goals as goal

pub loop-e-preserved : goal.loop-e-preserved
loop-e-preserved c =
    let f : ℕ → Frac × Frac = λ e. (frac_in c.args.coefficients.now e, frac_in c.args.numbers.now e) in
    let x = c.index-coefficients-e.result in
    product_next c.args.total c.loop-e.sum x c.number_at.result f c.loop-e.e (Ok c.in_ok-sum.sum)
    (pair_is _ _ _ _ (within_list c.args.coefficients.now c.loop-e.e zero_frac x c.loop-e-test.true c.index-coefficients-e.is) c.number_at.ensures.is)
    (sym c.in_ok-sum.was ∙ c.add.ensures.answer ∙ ap (λ r. and_then r (sum_of c.loop-e.sum)) (sym c.in_ok-mul.was ∙ c.mul.ensures.answer)) c.loop-e.invariant

pub returns-in_err-mul : goal.returns-in_err-mul
returns-in_err-mul c =
    let r = err_from_is_err_and c.from_residual.result c.from_residual.ensures.1 in
    let f : ℕ → Frac × Frac = λ e. (frac_in c.args.coefficients.now e, frac_in c.args.numbers.now e) in
    let x = c.index-coefficients-e.result in
    rw (r.1, r.2) (sym (counted-within c.args.total f (c.loop-e.e + 1) (length c.args.coefficients.now) c.in_err-mul.field-0.0 (omega (arith, c.loop-e-test.true))
    (product_next c.args.total c.loop-e.sum x c.number_at.result f c.loop-e.e _
    (pair_is _ _ _ _ (within_list c.args.coefficients.now c.loop-e.e zero_frac x c.loop-e-test.true c.index-coefficients-e.is) c.number_at.ensures.is)
    (ap (λ r. and_then r (sum_of c.loop-e.sum)) (sym c.in_err-mul.was ∙ c.mul.ensures.answer)) c.loop-e.invariant)))

pub returns-in_err-sum : goal.returns-in_err-sum
returns-in_err-sum c =
    let r = err_from_is_err_and c.from_residual-in_err-sum.result c.from_residual-in_err-sum.ensures.1 in
    let f : ℕ → Frac × Frac = λ e. (frac_in c.args.coefficients.now e, frac_in c.args.numbers.now e) in
    let x = c.index-coefficients-e.result in
    rw (r.1, r.2) (sym (counted-within c.args.total f (c.loop-e.e + 1) (length c.args.coefficients.now) c.in_err-sum.field-0.0 (omega (arith, c.loop-e-test.true))
    (product_next c.args.total c.loop-e.sum x c.number_at.result f c.loop-e.e _
    (pair_is _ _ _ _ (within_list c.args.coefficients.now c.loop-e.e zero_frac x c.loop-e-test.true c.index-coefficients-e.is) c.number_at.ensures.is)
    (sym c.in_err-sum.was ∙ c.add.ensures.answer ∙ ap (λ r. and_then r (sum_of c.loop-e.sum)) (sym c.in_ok-mul.was ∙ c.mul.ensures.answer)) c.loop-e.invariant)))
