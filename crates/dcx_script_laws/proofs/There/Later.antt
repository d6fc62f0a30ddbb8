-- Whatever is carried out leaves no fewer nodes.
use Rattle.std.proofs.Common.{◌≡◌, ℕ, ◌≤◌, List, length, Option, Some, None, sym, ap, subst, arith}
use Rattle.std.proofs.lemmas.List.{length-append}
use Rattle.dcx_shape.specs.declared.place.Place.{Place}
use Rattle.dcx_call.specs.declared.call.Call.{Call}
use Rattle.dcx_script_values.specs.Values.{Value, State, restore}
use Rattle.dcx_script_values.specs.Nodes.{push}
use Rattle.dcx_script_laws.proofs.Carried.{Moves, IsCarried, parts}
use Rattle.dcx_script_laws.proofs.CarriedLines.{IsCarriedByLines}
use Rattle.dcx_script_laws.proofs.Bound.{Any}
use Rattle.dcx_script_laws.proofs.Pushed.{push-grows}
use Rattle.dcx_script_laws.proofs.ByNodes.{by_pushes, by_lines}
use Rattle.dcx_script_laws.proofs.There.Parts.{Later, later-from}

pub later-same : (s t u : State) → Later s t → u.nodes ≡ t.nodes → Later s u
later-same s t u h e = record { no_fewer = subst (λ ns. length s.nodes ≤ length ns) (sym e) h.no_fewer }

later-pushes : (place : Place) (call : Call) (args : List ℕ) → Moves Later (push place call args)
later-pushes place call args s t h = record {
  at = λ i u e.
      let more = push-grows t u place call args i e in
      let longer = length-append t.nodes more.0 in
      let nodes = ap length more.1 in
      let before = h.no_fewer in
      record { no_fewer = omega (arith, longer, nodes, before) };
}

pub later_is_carried : IsCarried Later
later_is_carried = by_pushes Later later-from later-same later-pushes

pub later_by_lines : IsCarriedByLines Later Any
later_by_lines = by_lines Later later-from later-same later-pushes

pub restore-later : (name : List ℕ) (before : Option Value) → Moves Later (restore name before)
restore-later name (Some v) s t h = search (parts, later-same)
restore-later name None s t h = search (parts, later-same)
