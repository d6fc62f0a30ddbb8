-- The name of each parameter is put, and no other.
use Rattle.std.proofs.Common.{sym, ap₂, ◌∙◌}
use Rattle.std.specs.Prelude.{◌||◌}
use Rattle.std.specs.HashSet.{contains}
use Rattle.dcx_point.specs.Pairs.{same_name}
use Rattle.dcx_call.specs.declared.attribute.Parameter.{Parameter}
use Rattle.dcx_tree.proofs.Names.{put_name}
use Rattle.dcx_script_state.proofs.Naming.{any_next}
use Rattle.dcx_script_state.proofs.problem.names_of.Goals as goal

pub loop-parameter-preserved : goal.loop-parameter-preserved
loop-parameter-preserved c = λ name.
    c.in_ok-insert.ensures.updates.0 name
    ∙ put_name c.in_ok-copy_name.field-0 name (contains same_name c.loop-parameter.names name)
    ∙ ap₂ (λ a k. a || same_name name k) (c.loop-parameter.invariant name) c.in_ok-copy_name.ensures
    ∙ sym (any_next (λ (p : Parameter). same_name name p.name) c.args.parameters.now c.loop-parameter.parameter-index c.parameter-item.result c.loop-parameter-test.true c.parameter-item.is)
