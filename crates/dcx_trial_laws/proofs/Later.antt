-- What an expression leaves: the names as they were, and the nodes in front of those that came.
use Rattle.std.proofs.Common.{ℕ, List, refl, ◌∙◌}
use Rattle.dcx_shape.specs.declared.place.Place.{Place}
use Rattle.dcx_script_values.specs.Values.{Value, State, Act}
use Rattle.dcx_elab.specs.Turns.{turn}
use Rattle.dcx_script_laws.proofs.Carried.{Moves, IsCarried}
use Rattle.dcx_script_laws.proofs.Unbound.{SameNames, names_are_carried}
use Rattle.dcx_script_laws.proofs.Pushed.{Grows, grows-on}
use Rattle.dcx_script_laws.proofs.Treed.{grows_is_carried}

-- both
abbrev pub Later : State → State → Type 0
Later s t = SameNames s t × Grows s t

pub later-from : (s : State) → Later s s
later-from s = (refl, grows_is_carried.same s)

pub later-on : (s t u : State) → Later s t → Later t u → Later s u
later-on s t u h k = (k.0 ∙ h.0, grows-on s t u h.1 k.1)

later-turns : (first : Place) (name : List ℕ) (element : Act Value) (v : Value) → Moves Later element → Moves Later (turn first name element v)
later-turns first name element v moves s t h = record {
  at = λ x u e. (
    (names_are_carried.turns first name element v same s t h.0).at x u e,
    (grows_is_carried.turns first name element v grows s t h.1).at x u e,
  );
}
  where
    same : Moves SameNames element
    same a b k = record { at = λ x u e. ((moves b b (later-from b)).at x u e).0 ∙ k }

    grows : Moves Grows element
    grows a b k = record { at = λ x u e. grows-on a b u k ((moves b b (later-from b)).at x u e).1 }

pub later_is_carried : IsCarried Later
later_is_carried = record {
  same = later-from;
  others = λ s t u h names nodes. (names ∙ h.0, grows_is_carried.others s t u h.1 names nodes);
  pushes = λ place call args s t h. record { at = λ x u e. ((names_are_carried.pushes place call args s t h.0).at x u e, (grows_is_carried.pushes place call args s t h.1).at x u e) };
  turns = later-turns;
}
