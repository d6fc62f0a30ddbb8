-- The names with one that is bound are those of the entries with it.
use Rattle.std.proofs.Common.{◌≡◌, ℕ, List, Ok, sym, ap, ◌∙◌}
use Rattle.indexmap.specs.IndexMap.{insert_entry}
use Rattle.dcx_point.specs.Pairs.{same_name}
use Rattle.dcx_script_values.specs.Values.{Value, bind}
use Rattle.dcx_script_values.specs.Meant.{meant}
use Rattle.dcx_script_state.specs.Kept.{names_of, state_of}
use Rattle.dcx_script_state.proofs.Bindings.{insert-seen}
use Rattle.dcx_script_state.proofs.state.State.bind.Goals as goal

pub returns : goal.returns
returns c =
    let e : names_of c.insert.new.self.entries ≡ insert_entry same_name (names_of c.self.inside.names.entries) c.args.name.now (meant c.args.value) =
    ap names_of c.in_ok-insert.ensures.entries
    ∙ insert-seen meant same_name c.self.inside.names.entries c.in_ok-name.name c.args.value
    ∙ ap (λ k. insert_entry same_name (names_of c.self.inside.names.entries) k (meant c.args.value)) c.in_ok-name.ensures in
    ap (bind c.args.name.now (meant c.args.value)) (sym c.self.view_is)
    ∙ ap (λ (es : List (List ℕ × Value)). Ok (tt, record (state_of c.self.inside) { names = es })) (sym e)
