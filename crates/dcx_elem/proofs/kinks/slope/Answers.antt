-- The slope is formed of the weights.
use Rattle.std.proofs.Common.{◌∙◌, sym, ap, Ok, arith}
use Rattle.dcx_math.specs.Rational.{neg_ℚ}
use Rattle.dcx_atom.specs.Formed.{frac_at}
use Rattle.dcx_atom.proofs.FormedSums.{frac_at-value}
use Rattle.dcx_elem.specs.Kinks.{kink_rows}
use Rattle.dcx_atom.proofs.Lists.{number_is}
use Rattle.dcx_atom.proofs.Totals.{difference_formed}
use Rattle.dcx_elem.proofs.kinks.slope.Goals as goal

pub returns-in-Abs-clause-answer : goal.returns-in-Abs-clause-answer
returns-in-Abs-clause-answer c =
    let ws = c.args.weights.now in
    let n = c.requires ∙ ap kink_rows c.in-Abs.is in
    rw c.in-Abs.is (c.sub.ensures.answer
    ∙ difference_formed _ _ _ _ (number_is ws 0 c.index-weights-0.result (omega arith) c.index-weights-0.is) (number_is ws 1 c.index-weights-1.result (omega arith) c.index-weights-1.is))

pub returns-in-Pos-clause-answer : goal.returns-in-Pos-clause-answer
returns-in-Pos-clause-answer c =
    let ws = c.args.weights.now in
    let n = c.requires ∙ ap kink_rows c.in-Pos.is in
    let x = c.index-weights-0-in-Pos.result in
    rw c.in-Pos.is (sym (ap (λ y. Ok (frac_at y)) (sym (number_is ws 0 x (omega arith) c.index-weights-0-in-Pos.is)) ∙ ap Ok (frac_at-value x)))

pub returns-in-Neg-clause-answer : goal.returns-in-Neg-clause-answer
returns-in-Neg-clause-answer c =
    let ws = c.args.weights.now in
    let n = c.requires ∙ ap kink_rows c.in-Neg.is in
    let x = c.index-weights-0-in-Neg.result in
    rw c.in-Neg.is (sym (ap (λ y. Ok (frac_at y)) (ap neg_ℚ (sym (number_is ws 0 x (omega arith) c.index-weights-0-in-Neg.is)) ∙ sym c.neg.ensures) ∙ ap Ok (frac_at-value c.neg.result)))
