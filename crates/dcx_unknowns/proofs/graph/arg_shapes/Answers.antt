-- The arguments of a node are nodes.
use Rattle.std.proofs.Common.{◌≡◌, ℕ, ◌<◌, List, length, map, All, IfOk, sym, ap, subst, ◌∙◌}
use Rattle.dcx_shape.specs.Shape.{sides_of}
use Rattle.dcx_arena.specs.Nodes.{positions, args_at, sides_at}
use Rattle.dcx_unknowns.proofs.Layouts.{args_within}
use Rattle.dcx_unknowns.proofs.graph.arg_shapes.Goals as goal

pub shapes_of-requires : goal.shapes_of-requires
shapes_of-requires c =
    let p = c.args.problem.now in
    let are : positions c.deref.result.now ≡ args_at p.tree c.args.node.0 = ap positions c.deref.ensures.value ∙ c.in_ok-ids.ensures in
    subst (All (λ a. a < length p.tree)) (sym are) (args_within p c.args.node.0 c.requires)

pub returns : goal.returns
returns c =
    let p = c.args.problem.now in
    let are : positions c.deref.result.now ≡ args_at p.tree c.args.node.0 = ap positions c.deref.ensures.value ∙ c.in_ok-ids.ensures in
    subst (λ (xs : List ℕ). IfOk c.shapes_of.result (λ v. map sides_of v.items ≡ map (sides_at p.tree) xs)) are c.shapes_of.ensures
