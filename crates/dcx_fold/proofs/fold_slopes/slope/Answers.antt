-- The slope is formed of the weights.
use Rattle.std.proofs.Common.{◌∙◌, sym, ap, Ok, arith}
use Rattle.dcx_math.specs.Rational.{neg_ℚ}
use Rattle.dcx_atom.specs.Formed.{frac_at}
use Rattle.dcx_atom.proofs.FormedSums.{frac_at-value}
use Rattle.dcx_atom.proofs.Lists.{number_is}
use Rattle.dcx_atom.proofs.Totals.{difference_formed}
use Rattle.dcx_fold.specs.Folds.{member_rows}
use Rattle.dcx_fold.proofs.fold_slopes.slope.Goals as goal

pub returns-in-Max-clause-answer : goal.returns-in-Max-clause-answer
returns-in-Max-clause-answer c =
    let ws = c.args.weights.now in
    let n = c.requires ∙ ap member_rows c.in-Max.is in
    let x = c.index-weights-0.result in
    rw c.in-Max.is (sym (ap (λ y. Ok (frac_at y)) (sym (number_is ws 0 x (omega arith) c.index-weights-0.is)) ∙ ap Ok (frac_at-value x)))

pub returns-in-Min-clause-answer : goal.returns-in-Min-clause-answer
returns-in-Min-clause-answer c =
    let ws = c.args.weights.now in
    let n = c.requires ∙ ap member_rows c.in-Min.is in
    let x = c.index-weights-0-in-Min.result in
    rw c.in-Min.is (sym (ap (λ y. Ok (frac_at y)) (ap neg_ℚ (sym (number_is ws 0 x (omega arith) c.index-weights-0-in-Min.is)) ∙ sym c.neg.ensures) ∙ ap Ok (frac_at-value c.neg.result)))

pub returns-in-Norm1-clause-answer : goal.returns-in-Norm1-clause-answer
returns-in-Norm1-clause-answer c =
    let ws = c.args.weights.now in
    let n = c.requires ∙ ap member_rows c.in-Norm1.is in
    rw c.in-Norm1.is (c.sub.ensures.answer
    ∙ difference_formed _ _ _ _ (number_is ws 0 c.index-weights-0-in-Norm1.result (omega arith) c.index-weights-0-in-Norm1.is)
    (number_is ws 1 c.index-weights-1.result (omega arith) c.index-weights-1.is))

pub returns-in-NormInf-clause-answer : goal.returns-in-NormInf-clause-answer
returns-in-NormInf-clause-answer c =
    let ws = c.args.weights.now in
    let n = c.requires ∙ ap member_rows c.in-NormInf.is in
    rw c.in-NormInf.is (c.sub-in-NormInf.ensures.answer
    ∙ difference_formed _ _ _ _ (number_is ws 0 c.index-weights-0-in-NormInf.result (omega arith) c.index-weights-0-in-NormInf.is)
    (number_is ws 1 c.index-weights-1-in-NormInf.result (omega arith) c.index-weights-1-in-NormInf.is))
