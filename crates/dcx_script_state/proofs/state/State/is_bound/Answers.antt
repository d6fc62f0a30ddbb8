-- A name is among the names exactly where it is among the entries.
use Rattle.std.proofs.Common.{is_some, sym, ap, ◌∙◌}
use Rattle.std.specs.Map.{lookup}
use Rattle.dcx_point.specs.Pairs.{same_name}
use Rattle.dcx_script_values.specs.Values.{State}
use Rattle.dcx_script_values.specs.Meant.{meant}
use Rattle.dcx_script_state.proofs.Bindings.{lookup-seen, is_some-seen}
use Rattle.dcx_script_state.proofs.state.State.is_bound.Goals as goal

pub returns : goal.returns
returns c =
    c.contains_key.ensures
    ∙ sym (is_some-seen meant (lookup (same_name c.args.name.now) c.self.inside.names.entries))
    ∙ sym (ap is_some (lookup-seen meant (same_name c.args.name.now) c.self.inside.names.entries))
    ∙ ap (λ (s : State). is_some (lookup (same_name c.args.name.now) s.names)) c.self.view_is
