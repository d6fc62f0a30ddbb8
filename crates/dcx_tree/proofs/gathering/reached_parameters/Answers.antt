-- A parameter is kept where its name is among those of the tree.
use Rattle.std.proofs.Common.{sym, ap, ◌∙◌, Vec, Global}
use Rattle.dcx_call.specs.declared.attribute.Parameter.{Parameter}
use Rattle.dcx_tree.specs.Gather.{has_parameter}
use Rattle.dcx_tree.proofs.Sublists.{filter_kept, filter_dropped}
use Rattle.dcx_tree.proofs.gathering.reached_parameters.Goals as goal
use Rattle.dcx_tree.proofs.gathering.reached_parameters.Goals.{then-contains+in_ok-copy_parameter+in_ok-push, else-contains}

pub loop-parameter-preserved : goal.loop-parameter-preserved
loop-parameter-preserved c = elim c.if-contains.branch [
  | then-contains+in_ok-copy_parameter+in_ok-push w ↦
      filter_kept (λ (x : Parameter). has_parameter c.args.tree.now x.name) c.args.declared.now c.loop-parameter.parameter-index c.parameter-item.result
      c.loop-parameter.reached.items c.if-contains.reached.items
      c.loop-parameter-test.true c.parameter-item.is c.loop-parameter.invariant w.in_ok-copy_parameter.field-0
      (sym (c.in_ok-names.ensures c.parameter-item.result.name) ∙ sym c.contains.ensures ∙ w.if-contains.true) w.in_ok-copy_parameter.ensures
      (ap (λ (v : Vec Parameter Global). v.items) w.reached-is ∙ w.in_ok-push.ensures.items)
  | else-contains w ↦
      filter_dropped (λ (x : Parameter). has_parameter c.args.tree.now x.name) c.args.declared.now c.loop-parameter.parameter-index c.parameter-item.result
      c.loop-parameter.reached.items c.if-contains.reached.items
      c.loop-parameter-test.true c.parameter-item.is c.loop-parameter.invariant
      (sym (c.in_ok-names.ensures c.parameter-item.result.name) ∙ sym c.contains.ensures ∙ w.if-contains.false)
      (ap (λ (v : Vec Parameter Global). v.items) w.reached-is)
]
