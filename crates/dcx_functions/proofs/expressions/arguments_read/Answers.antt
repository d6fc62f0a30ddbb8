-- What one more argument is comes behind the others.
use Rattle.std.proofs.Common.{[], ◌∷◌, ◌++◌, map, sym, ap, ap₂, ◌∙◌, arith, rules}
use Rattle.std.proofs.lemmas.List.{map_more, take_all}
use Rattle.std.proofs.lemmas.Result.{err_from_is_err_and}
use Rattle.dcx_script_values.specs.Kinds.{Reading, reading}
use Rattle.dcx_script_values.specs.Meant.{meant}
use Rattle.dcx_signature.specs.declared.matching.Argument.{Argument}
use Rattle.dcx_functions.proofs.expressions.arguments_read.Goals as goal

pub loop-argument-smaller : goal.loop-argument-smaller
loop-argument-smaller c = search rules

pub loop-argument-preserved : goal.loop-argument-preserved
loop-argument-preserved c =
    let f : Argument → Reading = λ a. reading (meant a.value) in
    c.in_ok-push_reading.ensures
    ∙ ap₂ (λ ys y. ys ++ y ∷ []) c.loop-argument.invariant (ap f c.argument-item.is)
    ∙ sym (map_more f c.args.arguments.now c.loop-argument.argument-index c.argument-item.result c.loop-argument-test.true)

pub returns-in_err-push_reading : goal.returns-in_err-push_reading
returns-in_err-push_reading c = let p = err_from_is_err_and c.from_residual-in_err-push_reading.result c.from_residual-in_err-push_reading.ensures.1 in rw p.1 tt

pub returns : goal.returns
returns c =
    let f : Argument → Reading = λ a. reading (meant a.value) in
    c.loop-argument.invariant ∙ ap (map f) (take_all c.loop-argument.argument-index c.args.arguments.now (omega arith))
