-- The shape of each node is read.
use Rattle.std.proofs.Common.{◌≡◌, ℕ, ◌+◌, ◌<◌, List, [], ◌∷◌, ◌++◌, length, map, get_or, take, sym, ap, ap₂, ◌∙◌}
use Rattle.std.proofs.lemmas.List.{map_push, take_all, take_more}
use Rattle.dcx_shape.specs.declared.shape.Shape.{Shape}
use Rattle.dcx_shape.specs.declared.shape.Sides.{Sides}
use Rattle.dcx_shape.specs.Shape.{sides_of}
use Rattle.dcx_arena.specs.declared.node.NodeId.{NodeId}
use Rattle.dcx_arena.specs.Nodes.{positions, sides_at}
use Rattle.dcx_arena.proofs.Positions.{position_below}
use Rattle.dcx_tree.proofs.tree.Tree.shapes_of.Goals as goal

-- the shapes with the next one
shapes_next : (sides : ℕ → Sides) (ids : List NodeId) (k : ℕ) (d : NodeId) (xs ys : List Shape) (shape : Shape) → k < length ids
    → map sides_of xs ≡ map sides (positions (take k ids)) → ys ≡ xs ++ shape ∷ [] → sides_of shape ≡ sides (get_or ids k d).0 →
    map sides_of ys ≡ map sides (positions (take (k + 1) ids))
shapes_next sides ids k d xs ys shape lt so_far e is =
    ap (map sides_of) e ∙ map_push sides_of xs shape ∙ ap₂ (λ zs z. zs ++ z ∷ []) so_far is
    ∙ sym (ap (λ zs. map sides (positions zs)) (take_more ids k d lt) ∙ ap (map sides) (map_push (λ (a : NodeId). a.0) (take k ids) (get_or ids k d))
    ∙ map_push sides (positions (take k ids)) (get_or ids k d).0)

pub shape-requires : goal.shape-requires
shape-requires c = position_below c.args.nodes.now (length c.args.self.now) c.loop-node.node-index c.requires c.loop-node-test.true

pub loop-node-preserved : goal.loop-node-preserved
loop-node-preserved c =
    shapes_next (sides_at c.args.self.now) c.args.nodes.now c.loop-node.node-index
    (record { 0 = 0 }) c.loop-node.shapes.items c.push.new.self.items c.shape.result c.loop-node-test.true c.loop-node.invariant
    c.in_ok-push.ensures.items c.shape.ensures

pub returns : goal.returns
returns c = c.loop-node.invariant ∙ ap (λ xs. map (sides_at c.args.self.now) (positions xs)) (take_all c.loop-node.node-index c.args.nodes.now c.loop-node-test.false)
