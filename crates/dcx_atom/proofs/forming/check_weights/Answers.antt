-- The weight that is tested is the next one.
use Rattle.std.proofs.Common.{◌+◌, sym, ap, ◌∙◌, [], ◌∷◌}
use Rattle.dcx_frac.specs.Frac.{value}
use Rattle.dcx_atom.specs.Steps.{weights_stop}
use Rattle.dcx_atom.proofs.FirstStops.{weight-kept, weight-refused, weights_stop-next, weights_stop-within}
use Rattle.dcx_atom.proofs.forming.check_weights.Goals as goal

pub returns-then-not-is_at_most : goal.returns-then-not-is_at_most
returns-then-not-is_at_most c =
    let w = c.weight-item.result in
    sym (weights_stop-within c.args.entry c.args.weights.now (c.loop-weight.weight-index + 1) _
    (weights_stop-next c.args.entry c.args.weights.now c.loop-weight.weight-index w c.loop-weight-test.true c.loop-weight.invariant
    ∙ ap (λ x. weights_stop c.args.entry (value x ∷ [])) (sym c.weight-item.is)
    ∙ weight-refused c.args.entry w c.zero-zero.result c.zero-zero.ensures (sym c.is_at_most.ensures ∙ c.if-not-is_at_most.true)))

pub loop-weight-preserved : goal.loop-weight-preserved
loop-weight-preserved c =
    let w = c.weight-item.result in
    weights_stop-next c.args.entry c.args.weights.now c.loop-weight.weight-index w c.loop-weight-test.true c.loop-weight.invariant
    ∙ ap (λ x. weights_stop c.args.entry (value x ∷ [])) (sym c.weight-item.is)
    ∙ weight-kept c.args.entry w c.zero-zero.result c.zero-zero.ensures (sym c.is_at_most.ensures ∙ c.if-not-is_at_most.false)
