-- Each product is added to the sum of those before it.
use Rattle.std.proofs.Common.{◌≡◌, ◌<◌, ◌∙◌, sym, ap, Ok, map, length, arith, refl}
use Rattle.std.proofs.lemmas.Result.{err_from_is_err_and}
use Rattle.std.proofs.lemmas.List.{length-map}
use Rattle.dcx_math.specs.Rational.{ℚ}
use Rattle.dcx_atom.specs.Arrays.{numbers_of}
use Rattle.dcx_atom.specs.Linear.{LinearTerm, linear_term}
use Rattle.dcx_atom.proofs.FormedSums.{zero_frac-unique}
use Rattle.dcx_call.proofs.Products.{next_sum, next_passes, item_of}
use Rattle.dcx_call.proofs.value.sum_of_terms.Goals as goal

pub loop-term-init : goal.loop-term-init
loop-term-init c = ap Ok (sym (zero_frac-unique c.zero-sum.result c.zero-sum.ensures))

pub loop-term-preserved : goal.loop-term-preserved
loop-term-preserved c =
    let h : LinearTerm → ℚ × ℚ = λ t. (t.coefficient, numbers_of c.args.args.now t.argument t.entry) in
    let many : length (map linear_term c.args.terms.now) ≡ length c.args.terms.now = length-map c.args.terms.now linear_term in
    let b : c.loop-term.term-index < length (map linear_term c.args.terms.now) = omega (arith, many, c.loop-term-test.true) in
    next_sum h (map linear_term c.args.terms.now) c.loop-term.term-index (linear_term c.term-item.result) c.term-item.result.coefficient c.entry_of.result c.loop-term.sum c.add_product.result b
    (item_of linear_term c.args.terms.now c.loop-term.term-index c.term-item.result c.term-item.is) refl c.entry_of.ensures c.loop-term.invariant c.add_product.ensures
    ∙ c.in_ok-sum.was

pub returns-in_err-sum : goal.returns-in_err-sum
returns-in_err-sum c =
    let r = err_from_is_err_and c.from_residual.result c.from_residual.ensures.1 in
    let h : LinearTerm → ℚ × ℚ = λ t. (t.coefficient, numbers_of c.args.args.now t.argument t.entry) in
    let many : length (map linear_term c.args.terms.now) ≡ length c.args.terms.now = length-map c.args.terms.now linear_term in
    let b : c.loop-term.term-index < length (map linear_term c.args.terms.now) = omega (arith, many, c.loop-term-test.true) in
    rw (r.1, r.2) (sym (next_passes h (map linear_term c.args.terms.now) c.loop-term.term-index _
    (next_sum h (map linear_term c.args.terms.now) c.loop-term.term-index (linear_term c.term-item.result) c.term-item.result.coefficient c.entry_of.result c.loop-term.sum c.add_product.result b
    (item_of linear_term c.args.terms.now c.loop-term.term-index c.term-item.result c.term-item.is) refl c.entry_of.ensures c.loop-term.invariant c.add_product.ensures
    ∙ c.in_err-sum.was)))
