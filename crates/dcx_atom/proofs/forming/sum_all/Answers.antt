-- Each number is added to the sum of those before it.
use Rattle.std.proofs.Common.{◌≡◌, ◌+◌, ◌∙◌, sym, ap, Ok, take, arith}
use Rattle.std.proofs.lemmas.Result.{err_from_is_err_and}
use Rattle.std.proofs.lemmas.List.{take_all}
use Rattle.dcx_frac.specs.Results.{sum_of}
use Rattle.dcx_atom.specs.Formed.{zero_frac, sum_from}
use Rattle.dcx_atom.proofs.FormedSums.{zero_frac-unique, sum_from-next, sum_from-within, sum_in_order-fractions}
use Rattle.dcx_atom.proofs.forming.sum_all.Goals as goal

pub loop-number-init : goal.loop-number-init
loop-number-init c = ap Ok (sym (zero_frac-unique c.zero-sum.result c.zero-sum.ensures))

pub returns-in_err-sum : goal.returns-in_err-sum
returns-in_err-sum c =
    let p = err_from_is_err_and c.from_residual.result c.from_residual.ensures.1 in
    let x = c.number-item.result in
    rw (p.1, p.2) (sym (sum_in_order-fractions c.args.numbers.now ∙ sum_from-within zero_frac c.args.numbers.now (c.loop-number.number-index + 1) _
    (sum_from-next zero_frac c.args.numbers.now c.loop-number.number-index x c.loop-number.sum c.loop-number-test.true c.loop-number.invariant
    ∙ ap (sum_of c.loop-number.sum) (sym c.number-item.is) ∙ sym c.add.ensures.answer ∙ c.in_err-sum.was)))

pub loop-number-preserved : goal.loop-number-preserved
loop-number-preserved c =
    let x = c.number-item.result in
    sum_from-next zero_frac c.args.numbers.now c.loop-number.number-index x c.loop-number.sum c.loop-number-test.true c.loop-number.invariant
    ∙ ap (sum_of c.loop-number.sum) (sym c.number-item.is) ∙ sym c.add.ensures.answer ∙ c.in_ok-sum.was

pub returns : goal.returns
returns c =
    let end : take c.loop-number.number-index c.args.numbers.now ≡ c.args.numbers.now = take_all c.loop-number.number-index c.args.numbers.now (omega (arith, c.loop-number-test.false)) in
    sym (sum_in_order-fractions c.args.numbers.now ∙ ap (sum_from zero_frac) (sym end) ∙ c.loop-number.invariant)
