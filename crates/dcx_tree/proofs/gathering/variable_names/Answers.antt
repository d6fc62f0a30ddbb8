-- The name of each variable is put, and no other.
use Rattle.std.proofs.Common.{ap, ◌∙◌}
use Rattle.std.specs.HashSet.{contains}
use Rattle.dcx_point.specs.Pairs.{same_name}
use Rattle.dcx_tree.specs.Gather.{is_variable}
use Rattle.dcx_tree.proofs.Names.{tested_more, put_step, keep_step, no_variable}
use Rattle.dcx_tree.proofs.gathering.variable_names.Goals as goal
use Rattle.dcx_tree.proofs.gathering.variable_names.Goals.{in-Variable+in_ok-copy_name+in_ok-insert, in_default}

pub loop-i-preserved : goal.loop-i-preserved
loop-i-preserved c = elim c.match-call.branch [
  | in-Variable+in_ok-copy_name+in_ok-insert w ↦ λ name.
      let more = tested_more (is_variable name) c.args.tree.now c.loop-i.i c.call.result.now c.call.ensures in
      put_step w.in_ok-copy_name.field-0 w.in-Variable.variable.name name _ _ _ _ _ (ap (λ s. contains same_name s name) w.names-is ∙ w.in_ok-insert.ensures.updates.0 name)
      (c.loop-i.invariant name) w.in_ok-copy_name.ensures (ap (is_variable name) w.in-Variable.is) more
  | in_default w ↦ λ name.
      let more = tested_more (is_variable name) c.args.tree.now c.loop-i.i c.call.result.now c.call.ensures in
      keep_step _ _ _ _ _ (ap (λ s. contains same_name s name) w.names-is) (c.loop-i.invariant name) (no_variable c.call.result.now w.in_default.not-Variable name) more
]
