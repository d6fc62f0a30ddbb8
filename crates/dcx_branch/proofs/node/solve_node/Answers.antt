-- The bounds fit, and name known unknowns.
use Rattle.std.proofs.Common.{◌<◌, length, sym, ap, ◌∙◌, subst}
use Rattle.std.specs.List.{All}
use Rattle.dcx_frac.specs.Fits.{Fits}
use Rattle.dcx_branch.specs.declared.bound.BoundAt.{BoundAt}
use Rattle.dcx_branch.proofs.Rooms.{bounds_fit, bounds_known}
use Rattle.dcx_branch.proofs.node.solve_node.Goals as goal

pub node_rows-requires-clause-fit : goal.node_rows-requires-clause-fit
node_rows-requires-clause-fit c =
    subst (All (λ (b : BoundAt). Fits b.limit)) (sym (c.deref.ensures.value ∙ c.in_ok-bounds.ensures)) (bounds_fit c.args.places.now c.args.sides.now)

pub node_rows-requires-clause-known : goal.node_rows-requires-clause-known
node_rows-requires-clause-known c =
    let n = length c.args.reduced.now.program.kinds in
    let known = subst (All (λ (b : BoundAt). b.place.unknown < n)) (sym (c.deref.ensures.value ∙ c.in_ok-bounds.ensures)) (bounds_known n c.args.places.now c.args.sides.now c.requires) in
    subst (λ m. All (λ (b : BoundAt). b.place.unknown < m) c.deref.result.now) (sym (ap length c.rows.ensures.kinds)) known
