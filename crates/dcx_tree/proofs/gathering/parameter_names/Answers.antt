-- The name of each parameter is put, and no other.
use Rattle.std.proofs.Common.{ap, ◌∙◌}
use Rattle.std.specs.HashSet.{contains}
use Rattle.dcx_point.specs.Pairs.{same_name}
use Rattle.dcx_tree.specs.Gather.{is_parameter}
use Rattle.dcx_tree.proofs.Names.{tested_more, put_step, keep_step, no_parameter}
use Rattle.dcx_tree.proofs.gathering.parameter_names.Goals as goal
use Rattle.dcx_tree.proofs.gathering.parameter_names.Goals.{in-Parameter+in_ok-copy_name+in_ok-insert, in_default}

pub loop-i-preserved : goal.loop-i-preserved
loop-i-preserved c = elim c.match-call.branch [
  | in-Parameter+in_ok-copy_name+in_ok-insert w ↦ λ name.
      let more = tested_more (is_parameter name) c.args.tree.now c.loop-i.i c.call.result.now c.call.ensures in
      put_step w.in_ok-copy_name.field-0 w.in-Parameter.parameter.name name _ _ _ _ _ (ap (λ s. contains same_name s name) w.names-is ∙ w.in_ok-insert.ensures.updates.0 name)
      (c.loop-i.invariant name) w.in_ok-copy_name.ensures (ap (is_parameter name) w.in-Parameter.is) more
  | in_default w ↦ λ name.
      let more = tested_more (is_parameter name) c.args.tree.now c.loop-i.i c.call.result.now c.call.ensures in
      keep_step _ _ _ _ _ (ap (λ s. contains same_name s name) w.names-is) (c.loop-i.invariant name) (no_parameter c.call.result.now w.in_default.not-Parameter name) more
]
