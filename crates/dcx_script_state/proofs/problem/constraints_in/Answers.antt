-- A value that is a constraint is put behind the others.
use Rattle.std.proofs.Common.{ap, ◌∙◌, Vec, Global}
use Rattle.dcx_tree.specs.declared.constraint.Constraint.{Constraint}
use Rattle.dcx_script_state.proofs.Tested.{with_constraint, without_constraint}
use Rattle.dcx_script_state.proofs.problem.constraints_in.Goals as goal
use Rattle.dcx_script_state.proofs.problem.constraints_in.Goals.{in-Constraint+in_ok-push, in_default}

pub loop-value-preserved : goal.loop-value-preserved
loop-value-preserved c = elim c.match-value.branch [
  | in-Constraint+in_ok-push w ↦
      with_constraint c.args.values.now c.loop-value.value-index c.value-item.result w.in-Constraint.constraint c.loop-value.constraints.items c.match-value.constraints.items
      c.loop-value-test.true c.value-item.is c.loop-value.invariant w.in-Constraint.is (ap (λ (v : Vec Constraint Global). v.items) w.constraints-is ∙ w.in_ok-push.ensures.items)
  | in_default w ↦
      without_constraint c.args.values.now c.loop-value.value-index c.value-item.result c.loop-value.constraints.items c.match-value.constraints.items
      c.loop-value-test.true c.value-item.is c.loop-value.invariant w.in_default.not-Constraint (ap (λ (v : Vec Constraint Global). v.items) w.constraints-is)
]
