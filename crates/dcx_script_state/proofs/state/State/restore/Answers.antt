-- The names without one are those of the entries without it.
use Rattle.std.proofs.Common.{◌≡◌, ℕ, List, Option, Ok, option_map, sym, ap, ◌∙◌}
use Rattle.std.specs.Map.{remove_entry}
use Rattle.dcx_point.specs.Pairs.{same_name}
use Rattle.dcx_script_values.specs.declared.value.Value as code_value
use Rattle.dcx_script_values.specs.Values.{Value, restore, unbind}
use Rattle.dcx_script_values.specs.Meant.{meant}
use Rattle.dcx_script_state.specs.Kept.{names_of, state_of}
use Rattle.dcx_script_state.proofs.Bindings.{remove-seen}
use Rattle.dcx_script_state.proofs.state.State.restore.Goals as goal

pub returns-in-None : goal.returns-in-None
returns-in-None c =
    let e : names_of c.shift_remove.new.self.entries ≡ remove_entry (same_name c.args.name.now) (names_of c.self.inside.names.entries) =
    ap names_of c.shift_remove.ensures.entries ∙ remove-seen meant (same_name c.args.name.now) c.self.inside.names.entries in
    ap (λ (b : Option code_value.Value). restore c.args.name.now (option_map meant b) c.args.self.now) c.in-None.is
    ∙ ap (unbind c.args.name.now) (sym c.self.view_is)
    ∙ ap (λ (es : List (List ℕ × Value)). Ok (tt, record (state_of c.self.inside) { names = es })) (sym e)
