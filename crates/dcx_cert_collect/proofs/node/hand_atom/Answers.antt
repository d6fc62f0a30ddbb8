-- What a nonlinear call hands on by its slopes, or the slope that stops it.
use Rattle.std.proofs.Common.{◌≡◌, ◌∙◌, sym, length, subst}
use Rattle.std.proofs.lemmas.List.{length-map}
use Rattle.dcx_shape.specs.Shape.{sides_of}
use Rattle.dcx_atom.specs.Arrays.{sides_list}
use Rattle.dcx_atom.specs.Steps.{AreSlopesOf, IsSlopeStop}
use Rattle.dcx_arena.specs.Nodes.{positions}
use Rattle.dcx_arena.proofs.Results.{on_ok}
use Rattle.dcx_call.specs.Atoms.{atom_meaning}
use Rattle.dcx_cert_collect.specs.Calls.{atom_shares}
use Rattle.dcx_cert_collect.specs.Pass.{IsOrMemory, handed}
use Rattle.dcx_cert_collect.proofs.Handing.{slopes_fit, sized, atom_told, atom_stops, handed_ok, handed_stop}
use Rattle.dcx_cert_collect.proofs.node.hand_atom.Goals as goal

pub returns-in-Ok-clause-ok : goal.returns-in-Ok-clause-ok
returns-in-Ok-clause-ok c =
    let m = atom_meaning c.args.atom.now in
    let ss = sides_list c.args.shapes.now in
    let ids = c.args.places.now.args.now in
    let cs = c.args.coefficients.now in
    let ws = c.args.weights.now in
    let same : length (positions ids) ≡ length ss = length-map ids (λ i. i.0) ∙ sym c.requires.shapes ∙ sym (length-map c.args.shapes.now sides_of) in
    let are = sized (m.shape ss) (length cs) (λ n. AreSlopesOf m ss n cs ws c.in-Ok.slopes) c.requires.shape c.in-Ok.ensures.ok in
    handed_ok c.hand_slopes.result c.args.table.now.items _ _ _
    (atom_told c.args.places.now.tree.now c.args.node.0 (positions ids) m ss cs ws c.in-Ok.slopes c.as_slice.result.now same c.as_slice.ensures are) c.hand_slopes.ensures.ok c.or_passes.result
    c.or_passes.ensures

pub returns-in-Ok-clause-stop : goal.returns-in-Ok-clause-stop
returns-in-Ok-clause-stop c =
    let m = atom_meaning c.args.atom.now in
    let ss = sides_list c.args.shapes.now in
    let ids = c.args.places.now.args.now in
    let cs = c.args.coefficients.now in
    let ws = c.args.weights.now in
    let same : length (positions ids) ≡ length ss = length-map ids (λ i. i.0) ∙ sym c.requires.shapes ∙ sym (length-map c.args.shapes.now sides_of) in
    let are = sized (m.shape ss) (length cs) (λ n. AreSlopesOf m ss n cs ws c.in-Ok.slopes) c.requires.shape c.in-Ok.ensures.ok in
    handed_stop c.hand_slopes.result c.args.table.now.items _ _
    (atom_told c.args.places.now.tree.now c.args.node.0 (positions ids) m ss cs ws c.in-Ok.slopes c.as_slice.result.now same c.as_slice.ensures are) c.hand_slopes.ensures.passes c.or_passes.result
    c.or_passes.ensures

pub returns-in-Err-clause-stop : goal.returns-in-Err-clause-stop
returns-in-Err-clause-stop c =
    let m = atom_meaning c.args.atom.now in
    let ss = sides_list c.args.shapes.now in
    let cs = c.args.coefficients.now in
    let ws = c.args.weights.now in
    let shares = atom_shares c.args.places.now.tree.now c.args.node.0 (positions c.args.places.now.args.now) m ss cs ws in
    subst (IsOrMemory (handed c.args.table.now.items shares)) (sym c.stop_of.ensures)
    (atom_stops c.args.places.now.tree.now c.args.node.0 (positions c.args.places.now.args.now) m ss cs ws c.args.table.now.items c.in-Err.stop
    (sized (m.shape ss) (length cs) (λ n. IsSlopeStop m ss n cs ws c.in-Err.stop) c.requires.shape c.in-Err.ensures.stop))

pub returns-in-Ok-clause-fractions : goal.returns-in-Ok-clause-fractions
returns-in-Ok-clause-fractions c =
    let m = atom_meaning c.args.atom.now in
    let ss = sides_list c.args.shapes.now in
    let cs = c.args.coefficients.now in
    let ws = c.args.weights.now in
    on_ok c.or_passes.result (slopes_fit m ss (length cs) cs ws c.in-Ok.slopes (sized (m.shape ss) (length cs) (λ n. AreSlopesOf m ss n cs ws c.in-Ok.slopes) c.requires.shape c.in-Ok.ensures.ok))
