-- The call's value at the values of the arguments.
use Rattle.std.proofs.Common.{IsSome, slice_get, refl, sym, subst}
use Rattle.std.proofs.lemmas.Result.{IfOk-weaker, IfErr-weaker}
use Rattle.dcx_shape.specs.Sides.{entries_of}
use Rattle.dcx_atom.specs.Arrays.{array_sides}
use Rattle.dcx_arena.specs.Nodes.{sides_at}
use Rattle.dcx_call.specs.Calls.{shape_of}
use Rattle.dcx_call.specs.Values.{IsGiven, IsValueStop}
use Rattle.dcx_call.proofs.Entries.{some_fact}
use Rattle.dcx_tree.proofs.Names.{found_in}
use Rattle.dcx_tree.proofs.NodeValues.{apply_shape, apply_value, apply_stop}
use Rattle.dcx_tree.proofs.value.apply.Goals as goal

pub value-requires-clause-shape : goal.value-requires-clause-shape
value-requires-clause-shape c =
    subst IsSome (sym (apply_shape c.args.tree.now c.requires.nodes c.args.setting.now c.args.point.now c.args.node.0 c.call.result.now c.call.ensures c.args.args.now c.requires.args)) refl

pub value-requires-clause-given : goal.value-requires-clause-given
value-requires-clause-given c =
    let (n, at, is) = found_in (slice_get c.args.tree.now c.args.node.0) c.call.result.now c.call.ensures in
    subst (λ call. IsGiven call c.args.setting.now c.args.point.now) is (c.requires.given n at)

pub returns-clause-ok : goal.returns-clause-ok
returns-clause-ok c =
    IfOk-weaker c.value.result _ _
    (apply_value c.args.tree.now c.requires.nodes c.args.setting.now c.args.point.now c.args.node.0 c.call.result.now c.call.ensures c.args.args.now c.requires.args) c.value.ensures.ok

pub returns-clause-stop : goal.returns-clause-stop
returns-clause-stop c =
    let nodes = c.args.tree.now in
    let i = c.args.node.0 in
    let call = c.call.result.now in
    let args = c.args.args.now in
    let shape = apply_shape nodes c.requires.nodes c.args.setting.now c.args.point.now i call c.call.ensures args c.requires.args in
    IfErr-weaker c.value.result _ _
    (λ stop h. apply_stop nodes c.requires.nodes c.args.setting.now c.args.point.now i call c.call.ensures args c.requires.args stop
    (some_fact (λ s. IsValueStop call c.args.setting.now c.args.point.now args (entries_of s) stop) (shape_of call (array_sides args)) (sides_at nodes i) shape h)) c.value.ensures.stop
