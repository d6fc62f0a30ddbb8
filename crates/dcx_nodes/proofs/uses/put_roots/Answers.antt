-- The sides of one constraint more.
use Rattle.std.proofs.Common.{◌≡◌, ◌<◌, [], ◌∷◌, length, get_or, ◌∙◌, subst}
use Rattle.dcx_nodes.specs.Uses.{IsPut}
use Rattle.dcx_nodes.proofs.LastUses.{sides_below, put_sides}
use Rattle.dcx_nodes.proofs.uses.put_roots.Goals as goal

pub put_last-requires-in-constraints : goal.put_last-requires-in-constraints
put_last-requires-in-constraints c =
    let k = c.constraints.constraint-index in
    let side = c.constraint-item.result in
    let e = c.as_slice-constraint-items.ensures in
    sides_below c.args.problem.now (length c.constraints.uses) (c.constraints.invariant.counted ∙ c.requires) k side (subst (λ cs. k < length cs) e c.constraints-test.true)
    (subst (λ cs. side ≡ get_or cs k side) e c.constraint-item.is)

pub constraints-preserved : goal.constraints-preserved
constraints-preserved c =
    let p = c.args.problem.now in
    let k = c.constraints.constraint-index in
    let side = c.constraint-item.result in
    let e = c.as_slice-constraint-items.ensures in
    put_sides c.args.place p.objective p.constraints k side c.args.uses.now c.constraints.uses c.put_last-in-constraints.new.uses
    (subst (λ cs. k < length cs) e c.constraints-test.true) c.constraints.invariant
    (subst (λ d. IsPut (d.left.0 ∷ d.right.0 ∷ []) c.args.place c.constraints.uses c.put_last-in-constraints.new.uses)
    (subst (λ cs. side ≡ get_or cs k side) e c.constraint-item.is) c.put_last-in-constraints.ensures)
