-- What is kept stays so when a parameter is listed, and its node comes as in the definition.
use Rattle.std.proofs.Common.{[], ◌∷◌, ◌++◌, sym, ap, ◌∙◌, subst}
use Rattle.std.specs.List.{Contains}
use Rattle.std.proofs.lemmas.Result.{err_from_is_err_and}
use Rattle.dcx_arena.specs.declared.node.NodeId.{NodeId}
use Rattle.dcx_call.specs.declared.attribute.Parameter.{Parameter}
use Rattle.dcx_script_values.specs.Values.{State}
use Rattle.dcx_script_values.specs.View.{extent_sides, Gives}
use Rattle.dcx_script_values.proofs.Acts.{Gives-err}
use Rattle.dcx_script_state.specs.Lists.{Lists}
use Rattle.dcx_script_state.specs.Kept.{state_of, IsKept}
use Rattle.dcx_script_state.specs.Declarations.{parameter_with}
use Rattle.dcx_script_state.proofs.Declares.{parameter_pushed, parameter_unshaped}
use Rattle.dcx_script_state.proofs.Grown.{contains_last, kept_parameter}
use Rattle.dcx_script_state.proofs.state.State.new_parameter.Goals as goal

pub returns-in_err-shape : goal.returns-in_err-shape
returns-in_err-shape c =
    let p = err_from_is_err_and c.from_residual.result c.from_residual.ensures.1 in
    Gives-err (λ (i : NodeId). i.0) c.from_residual.result c.args.self.now _ p.0 c.in_err-shape.field-0.0 p.1 p.2
    (parameter_unshaped c.args.place c.args.name.now (extent_sides c.args.extent) c.args.flags.nonneg c.args.flags.nonpos c.args.self.now c.in_err-shape.field-0.0 c.in_err-shape.ensures)

pub invariant_of-self-2 : goal.invariant_of-self-2
invariant_of-self-2 c =
    subst (λ (d : Lists). IsKept c.self.inside.tree d.variables d.parameters c.self.inside.asked) (sym c.in_ok-add_parameter.ensures.ok)
    (kept_parameter c.self.inside.tree c.self.inside.declared.variables c.self.inside.declared.parameters c.self.inside.asked c.in_ok-listed.listed c.self.invariant)

pub put-requires : goal.put-requires
put-requires c =
    subst (λ (d : Lists). Contains d.parameters c.in_ok-made.made) (sym c.in_ok-add_parameter.ensures.ok)
    (subst (λ (x : Parameter). Contains (c.self.inside.declared.parameters ++ x ∷ []) c.in_ok-made.made) (c.in_ok-made.ensures ∙ sym c.in_ok-listed.ensures)
    (contains_last c.self.inside.declared.parameters c.in_ok-made.made))

pub returns : goal.returns
returns c =
    let listed =
    ap (λ (d : Lists). state_of (record c.self.inside { declared = d })) c.in_ok-add_parameter.ensures.ok
    ∙ ap (λ (x : Parameter). record (state_of c.self.inside) { parameters = c.self.inside.declared.parameters ++ x ∷ [] }) c.in_ok-listed.ensures
    ∙ ap (λ (s : State). record s { parameters = s.parameters ++ parameter_with c.args.name.now c.in_ok-shape.shape c.args.flags.nonneg c.args.flags.nonpos ∷ [] }) c.self.view_is in
    subst (Gives (λ (i : NodeId). i.0) c.put.result c.put.new.self)
    (sym (parameter_pushed c.args.place c.args.name.now (extent_sides c.args.extent) c.args.flags.nonneg c.args.flags.nonpos c.args.self.now
    (state_of (record c.self.inside { declared = c.add_parameter.new.self }))
    c.in_ok-shape.shape c.in_ok-made.made c.in_ok-shape.ensures c.in_ok-made.ensures listed))
    c.put.ensures
