-- A variable is kept where its name is among those of the tree.
use Rattle.std.proofs.Common.{sym, ap, ◌∙◌, Vec, Global}
use Rattle.dcx_call.specs.declared.attribute.Variable.{Variable}
use Rattle.dcx_tree.specs.Gather.{has_variable}
use Rattle.dcx_tree.proofs.Sublists.{filter_kept, filter_dropped}
use Rattle.dcx_tree.proofs.gathering.reached_variables.Goals as goal
use Rattle.dcx_tree.proofs.gathering.reached_variables.Goals.{then-contains+in_ok-copy_variable+in_ok-push, else-contains}

pub loop-variable-preserved : goal.loop-variable-preserved
loop-variable-preserved c = elim c.if-contains.branch [
  | then-contains+in_ok-copy_variable+in_ok-push w ↦
      filter_kept (λ (x : Variable). has_variable c.args.tree.now x.name) c.args.declared.now c.loop-variable.variable-index c.variable-item.result
      c.loop-variable.reached.items c.if-contains.reached.items
      c.loop-variable-test.true c.variable-item.is c.loop-variable.invariant w.in_ok-copy_variable.field-0
      (sym (c.in_ok-names.ensures c.variable-item.result.name) ∙ sym c.contains.ensures ∙ w.if-contains.true) w.in_ok-copy_variable.ensures
      (ap (λ (v : Vec Variable Global). v.items) w.reached-is ∙ w.in_ok-push.ensures.items)
  | else-contains w ↦
      filter_dropped (λ (x : Variable). has_variable c.args.tree.now x.name) c.args.declared.now c.loop-variable.variable-index c.variable-item.result
      c.loop-variable.reached.items c.if-contains.reached.items
      c.loop-variable-test.true c.variable-item.is c.loop-variable.invariant
      (sym (c.in_ok-names.ensures c.variable-item.result.name) ∙ sym c.contains.ensures ∙ w.if-contains.false)
      (ap (λ (v : Vec Variable Global). v.items) w.reached-is)
]
