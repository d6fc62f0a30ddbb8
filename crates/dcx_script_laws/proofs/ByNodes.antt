-- Relations that ask of nodes alone are carried, where each node that comes keeps them.
use Rattle.std.proofs.Common.{◌≡◌, ℕ, List, Option, Some, None, refl}
use Rattle.dcx_shape.specs.declared.place.Place.{Place}
use Rattle.dcx_call.specs.declared.call.Call.{Call}
use Rattle.dcx_script_values.specs.Values.{Value, State, Act, restore, step}
use Rattle.dcx_script_values.specs.Nodes.{push}
use Rattle.dcx_elab.specs.Turns.{turn}
use Rattle.dcx_script_laws.proofs.Carried.{Moves, IsCarried, ok-moved, parts}
use Rattle.dcx_script_laws.proofs.CarriedLines.{IsCarriedByLines, by_expressions}
use Rattle.dcx_script_laws.proofs.Bound.{Any}

module _ (R : State → State → Type 0) (same : (s : State) → R s s) (by_nodes : (s t u : State) → R s t → u.nodes ≡ t.nodes → R s u)
    (pushes : (place : Place) (call : Call) (args : List ℕ) → Moves R (push place call args)) where
  steps : (place : Place) → Moves R (step place)
  steps place s t h = search parts

  restores : (name : List ℕ) (before : Option Value) → Moves R (restore name before)
  restores name (Some v) s t h = search parts
  restores name None s t h = search parts

  turn-moves : (first : Place) (name : List ℕ) (element : Act Value) (v : Value) → Moves R element → Moves R (turn first name element v)
  turn-moves first name element v moves s t h = search (steps, moves, restores, parts) depth 8

  pub by_pushes : IsCarried R
  by_pushes = record { same = same; others = λ s t u h names nodes. by_nodes s t u h nodes; pushes = pushes; turns = turn-moves }

  pub by_lines : IsCarriedByLines R Any
  by_lines = by_expressions R by_pushes Any (λ name v may s t h. ok-moved R s _ tt (by_nodes s t _ h refl))
