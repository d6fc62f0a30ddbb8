-- Each call has the sides of its node.
use Rattle.std.proofs.Common.{◌∙◌, sym, ap, ap₂, map, ℕ, List, Option, Some, Result, Ok}
use Rattle.dcx_atom.specs.Arrays.{sides_list}
use Rattle.dcx_arena.specs.declared.node.NodeId.{NodeId}
use Rattle.dcx_arena.specs.Nodes.{positions, sides_at}
use Rattle.dcx_call.specs.declared.call.Call.{Call}
use Rattle.dcx_call.specs.declared.call.Call.TheVariants as calls
use Rattle.dcx_shape.specs.declared.shape.Sides.{Sides}
use Rattle.dcx_call.specs.Atoms.{atom_meaning}
use Rattle.dcx_call.specs.Linears.{linear_meaning}
use Rattle.dcx_cert_collect.specs.Shares.{Share}
use Rattle.dcx_cert_collect.specs.Calls.{atom_shares, linear_shares}
use Rattle.dcx_cert_collect.specs.declared.stop.CollectStop.{CollectStop}
use Rattle.dcx_cert_collect.specs.Pass.{shares_if, node_shares}
use Rattle.dcx_cert_collect.proofs.Passing.{call_shaped, ok_as, stop_as}
use Rattle.dcx_cert_collect.proofs.node.hand_call.Goals as goal

pub hand_atom-requires-clause-shape : goal.hand_atom-requires-clause-shape
hand_atom-requires-clause-shape c =
    let nodes = c.args.given.now.tree.now in
    call_shaped nodes c.requires.nodes c.args.node.0 c.call.result.now (calls.Atom c.in-Atom.atom) c.call.ensures c.in-Atom.is c.deref-in-Atom.result.now
    (ap sides_list c.deref-in-Atom.ensures.value ∙ c.in-Ok-shapes_of.ensures ∙ ap (λ (xs : List NodeId). map (sides_at nodes) (positions xs)) c.deref.ensures.value
    ∙ ap (map (sides_at nodes)) c.in-Ok.ensures)
    c.args.coefficients.now c.requires.coefficients

pub hand_op-requires-clause-shape : goal.hand_op-requires-clause-shape
hand_op-requires-clause-shape c =
    let nodes = c.args.given.now.tree.now in
    call_shaped nodes c.requires.nodes c.args.node.0 c.call.result.now (calls.Linear c.in-Linear.op) c.call.ensures c.in-Linear.is c.deref-in-Linear.result.now
    (ap sides_list c.deref-in-Linear.ensures.value ∙ c.in-Ok-shapes_of.ensures ∙ ap (λ (xs : List NodeId). map (sides_at nodes) (positions xs)) c.deref.ensures.value
    ∙ ap (map (sides_at nodes)) c.in-Ok.ensures)
    c.args.coefficients.now c.requires.coefficients

pub hand_pairing-requires-clause-shape : goal.hand_pairing-requires-clause-shape
hand_pairing-requires-clause-shape c =
    let nodes = c.args.given.now.tree.now in
    call_shaped nodes c.requires.nodes c.args.node.0 c.call.result.now (calls.Pairing c.in-Pairing.pairing) c.call.ensures c.in-Pairing.is c.deref-in-Pairing.result.now
    (ap sides_list c.deref-in-Pairing.ensures.value ∙ c.in-Ok-shapes_of.ensures ∙ ap (λ (xs : List NodeId). map (sides_at nodes) (positions xs)) c.deref.ensures.value
    ∙ ap (map (sides_at nodes)) c.in-Ok.ensures)
    c.args.coefficients.now c.requires.coefficients

pub returns-in-Atom-clause-ok : goal.returns-in-Atom-clause-ok
returns-in-Atom-clause-ok c =
    let nodes = c.args.given.now.tree.now in
    let values = c.args.given.now.values.now in
    let i = c.args.node.0 in
    let cs = c.args.coefficients.now in
    let ws = c.args.weights.now in
    let shares : List ℕ → List Sides → Result (List Share) CollectStop = λ args sides. atom_shares nodes i args (atom_meaning c.in-Atom.atom) sides cs ws in
    let same = ap₂ shares (ap positions c.deref-2.ensures.value ∙ c.in-Ok.ensures)
    (ap sides_list c.deref-in-Atom.ensures.value ∙ c.in-Ok-shapes_of.ensures ∙ ap (λ (xs : List NodeId). map (sides_at nodes) (positions xs)) c.deref.ensures.value
    ∙ ap (map (sides_at nodes)) c.in-Ok.ensures)
    ∙ sym (ap (λ (o : Option Call). shares_if nodes values i o cs ws) (c.call.ensures ∙ ap Some c.in-Atom.is)) in
    ok_as c.hand_atom.result c.args.table.now.items c.hand_atom.new.table.items (shares (positions c.deref-2.result.now) (sides_list c.deref-in-Atom.result.now))
    (node_shares nodes values i cs ws) same c.hand_atom.ensures.ok

pub returns-in-Atom-clause-stop : goal.returns-in-Atom-clause-stop
returns-in-Atom-clause-stop c =
    let nodes = c.args.given.now.tree.now in
    let values = c.args.given.now.values.now in
    let i = c.args.node.0 in
    let cs = c.args.coefficients.now in
    let ws = c.args.weights.now in
    let shares : List ℕ → List Sides → Result (List Share) CollectStop = λ args sides. atom_shares nodes i args (atom_meaning c.in-Atom.atom) sides cs ws in
    let same = ap₂ shares (ap positions c.deref-2.ensures.value ∙ c.in-Ok.ensures)
    (ap sides_list c.deref-in-Atom.ensures.value ∙ c.in-Ok-shapes_of.ensures ∙ ap (λ (xs : List NodeId). map (sides_at nodes) (positions xs)) c.deref.ensures.value
    ∙ ap (map (sides_at nodes)) c.in-Ok.ensures)
    ∙ sym (ap (λ (o : Option Call). shares_if nodes values i o cs ws) (c.call.ensures ∙ ap Some c.in-Atom.is)) in
    stop_as c.hand_atom.result c.args.table.now.items (shares (positions c.deref-2.result.now) (sides_list c.deref-in-Atom.result.now)) (node_shares nodes values i cs ws) same c.hand_atom.ensures.stop

pub returns-in-Linear-clause-ok : goal.returns-in-Linear-clause-ok
returns-in-Linear-clause-ok c =
    let nodes = c.args.given.now.tree.now in
    let values = c.args.given.now.values.now in
    let i = c.args.node.0 in
    let cs = c.args.coefficients.now in
    let ws = c.args.weights.now in
    let shares : List ℕ → List Sides → Result (List Share) CollectStop = λ args sides. Ok (linear_shares nodes args cs ((linear_meaning c.in-Linear.op).terms sides)) in
    let same = ap₂ shares (ap positions c.deref-2.ensures.value ∙ c.in-Ok.ensures)
    (ap sides_list c.deref-in-Linear.ensures.value ∙ c.in-Ok-shapes_of.ensures ∙ ap (λ (xs : List NodeId). map (sides_at nodes) (positions xs)) c.deref.ensures.value
    ∙ ap (map (sides_at nodes)) c.in-Ok.ensures)
    ∙ sym (ap (λ (o : Option Call). shares_if nodes values i o cs ws) (c.call.ensures ∙ ap Some c.in-Linear.is)) in
    ok_as c.hand_op.result c.args.table.now.items c.hand_op.new.table.items (shares (positions c.deref-2.result.now) (sides_list c.deref-in-Linear.result.now))
    (node_shares nodes values i cs ws) same c.hand_op.ensures.ok

pub returns-in-Linear-clause-stop : goal.returns-in-Linear-clause-stop
returns-in-Linear-clause-stop c =
    let nodes = c.args.given.now.tree.now in
    let values = c.args.given.now.values.now in
    let i = c.args.node.0 in
    let cs = c.args.coefficients.now in
    let ws = c.args.weights.now in
    let shares : List ℕ → List Sides → Result (List Share) CollectStop = λ args sides. Ok (linear_shares nodes args cs ((linear_meaning c.in-Linear.op).terms sides)) in
    let same = ap₂ shares (ap positions c.deref-2.ensures.value ∙ c.in-Ok.ensures)
    (ap sides_list c.deref-in-Linear.ensures.value ∙ c.in-Ok-shapes_of.ensures ∙ ap (λ (xs : List NodeId). map (sides_at nodes) (positions xs)) c.deref.ensures.value
    ∙ ap (map (sides_at nodes)) c.in-Ok.ensures)
    ∙ sym (ap (λ (o : Option Call). shares_if nodes values i o cs ws) (c.call.ensures ∙ ap Some c.in-Linear.is)) in
    stop_as c.hand_op.result c.args.table.now.items (shares (positions c.deref-2.result.now) (sides_list c.deref-in-Linear.result.now)) (node_shares nodes values i cs ws) same c.hand_op.ensures.stop
