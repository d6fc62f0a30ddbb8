-- What a linear call hands on by its terms.
use Rattle.std.proofs.Common.{length}
use Rattle.dcx_atom.specs.Arrays.{sides_list}
use Rattle.dcx_atom.specs.Linear.{AreTermsOf}
use Rattle.dcx_arena.specs.Nodes.{positions}
use Rattle.dcx_call.specs.Linears.{linear_meaning}
use Rattle.dcx_cert_collect.proofs.Handing.{sized, linear_told, linear_count, told_ok, told_stop}
use Rattle.dcx_cert_collect.proofs.node.hand_op.Goals as goal

pub hand_linear-requires-clause-terms : goal.hand_linear-requires-clause-terms
hand_linear-requires-clause-terms c =
    let m = linear_meaning c.args.op.now in
    let ss = sides_list c.args.shapes.now in
    let cs = c.args.coefficients.now in
    linear_count m ss cs c.in-Ok.terms c.as_slice.result.now c.as_slice.ensures (sized (m.shape ss) (length cs) (λ n. AreTermsOf m ss n c.in-Ok.terms) c.requires.shape c.in-Ok.ensures)

pub returns-in-Ok-clause-ok : goal.returns-in-Ok-clause-ok
returns-in-Ok-clause-ok c =
    let m = linear_meaning c.args.op.now in
    let ss = sides_list c.args.shapes.now in
    let cs = c.args.coefficients.now in
    told_ok c.hand_linear.result c.args.table.now.items _ _ _
    (linear_told c.args.places.now.tree.now (positions c.args.places.now.args.now) m ss cs c.in-Ok.terms c.as_slice.result.now c.as_slice.ensures
    (sized (m.shape ss) (length cs) (λ n. AreTermsOf m ss n c.in-Ok.terms) c.requires.shape c.in-Ok.ensures)) c.hand_linear.ensures.ok c.or_passes.result c.or_passes.ensures

pub returns-in-Ok-clause-stop : goal.returns-in-Ok-clause-stop
returns-in-Ok-clause-stop c =
    let m = linear_meaning c.args.op.now in
    let ss = sides_list c.args.shapes.now in
    let cs = c.args.coefficients.now in
    told_stop c.hand_linear.result c.args.table.now.items _ _
    (linear_told c.args.places.now.tree.now (positions c.args.places.now.args.now) m ss cs c.in-Ok.terms c.as_slice.result.now c.as_slice.ensures
    (sized (m.shape ss) (length cs) (λ n. AreTermsOf m ss n c.in-Ok.terms) c.requires.shape c.in-Ok.ensures)) c.hand_linear.ensures.passes c.or_passes.result c.or_passes.ensures
