-- A name is among the names exactly where it is among the entries.
use Rattle.std.proofs.Common.{◌≡◌, Option, Some, None, option_map, sym, ap, ◌∙◌}
use Rattle.std.specs.Map.{lookup}
use Rattle.dcx_point.specs.Pairs.{same_name}
use Rattle.dcx_script_values.specs.declared.fault.ElabFault.TheVariants.{UnknownName}
use Rattle.dcx_script_values.specs.Values.{Value, State, or_fault}
use Rattle.dcx_script_values.specs.Meant.{meant}
use Rattle.dcx_script_state.proofs.Bindings.{lookup-seen}
use Rattle.dcx_script_state.proofs.state.State.look.Goals as goal

pub returns-in_ok-share-in-Some : goal.returns-in_ok-share-in-Some
returns-in_ok-share-in-Some c =
    let e : lookup (same_name c.args.name.now.name) c.args.self.now.names ≡ Some (meant c.in_ok-share-in-Some.field-0) =
    ap (λ (s : State). lookup (same_name c.args.name.now.name) s.names) (sym c.self.view_is)
    ∙ lookup-seen meant (same_name c.args.name.now.name) c.self.inside.names.entries
    ∙ ap (option_map meant) (sym c.in-Some.ensures.value)
    ∙ ap Some (sym c.in_ok-share-in-Some.ensures) in
    ap (λ (o : Option Value). or_fault (UnknownName c.args.name.now.place) o c.args.self.now) e

pub returns-in-None : goal.returns-in-None
returns-in-None c =
    let e : lookup (same_name c.args.name.now.name) c.args.self.now.names ≡ None =
    ap (λ (s : State). lookup (same_name c.args.name.now.name) s.names) (sym c.self.view_is)
    ∙ lookup-seen meant (same_name c.args.name.now.name) c.self.inside.names.entries
    ∙ ap (option_map meant) (sym c.in-None.ensures.value) in
    ap (λ (o : Option Value). or_fault (UnknownName c.args.name.now.place) o c.args.self.now) e
