-- What one more value is comes behind the others.
use Rattle.std.proofs.Common.{[], ◌∷◌, ◌++◌, map, take, sym, ap, ap₂, ◌∙◌, arith, rules}
use Rattle.std.proofs.lemmas.List.{map_more, map-append, take_all}
use Rattle.std.proofs.lemmas.Result.{err_from_is_err_and}
use Rattle.dcx_script_values.specs.Kinds.{reading}
use Rattle.dcx_script_values.specs.Meant.{meant}
use Rattle.dcx_functions.proofs.expressions.values_read.Goals as goal

pub loop-value-smaller : goal.loop-value-smaller
loop-value-smaller c = search rules

pub loop-value-preserved : goal.loop-value-preserved
loop-value-preserved c =
    let vs = c.args.values.now in
    let k = c.loop-value.value-index in
    let v = c.value-item.result in
    c.in_ok-push_reading.ensures
    ∙ ap₂ (λ ys y. ys ++ y ∷ []) c.loop-value.invariant (ap (λ x. reading (meant x)) c.value-item.is)
    ∙ sym (ap (map reading) (map_more meant vs k v c.loop-value-test.true) ∙ map-append reading (map meant (take k vs)) _)

pub returns-in_err-push_reading : goal.returns-in_err-push_reading
returns-in_err-push_reading c = let p = err_from_is_err_and c.from_residual-in_err-push_reading.result c.from_residual-in_err-push_reading.ensures.1 in rw p.1 tt

pub returns : goal.returns
returns c = c.loop-value.invariant ∙ ap (λ xs. map reading (map meant xs)) (take_all c.loop-value.value-index c.args.values.now (omega arith))
