-- The sum is formed first, then the product, and both are compared.
use Rattle.std.proofs.Common.{◌∙◌, sym, ap, Ok, Err}
use Rattle.dcx_atom.specs.Bounding.{outward}
use Rattle.dcx_fold.proofs.LargestSteps.{all_tested, all_compared}
use Rattle.dcx_fold.proofs.largest.check_all.Goals as goal

pub returns-in-Ok-mul : goal.returns-in-Ok-mul
returns-in-Ok-mul c =
    let e = c.outward_of.ensures ∙ ap (outward c.args.bend) c.whole_number.ensures in
    c.check_equal.ensures
    ∙ sym (all_compared c.args.bend c.args.k c.args.coefficient c.outward_of.result c.args.weights.now c.in-Ok.sum c.in-Ok-mul.product e (sym c.in-Ok.ensures)
    (sym c.in-Ok-mul.ensures.answer) c.in-Ok-mul.ensures.product)

pub returns-in-Err-mul : goal.returns-in-Err-mul
returns-in-Err-mul c =
    let e = c.outward_of.ensures ∙ ap (outward c.args.bend) c.whole_number.ensures in
    sym (all_tested c.args.bend c.args.k c.args.coefficient c.outward_of.result c.args.weights.now (Ok c.in-Ok.sum) (Err c.in-Err-mul.passes) e (sym c.in-Ok.ensures) (sym c.in-Err-mul.ensures.answer))
