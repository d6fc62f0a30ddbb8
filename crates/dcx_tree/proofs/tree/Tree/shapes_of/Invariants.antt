-- The shapes so far.
use Rattle.std.proofs.Common.{◌≡◌, map, take}
use Rattle.dcx_shape.specs.Shape.{sides_of}
use Rattle.dcx_arena.specs.Nodes.{positions, sides_at}
use Rattle.dcx_tree.proofs.tree.Tree.shapes_of.Given as goal

abbrev pub invariant-loop-node : goal.invariant-loop-node
invariant-loop-node l = map sides_of l.shapes.items ≡ map (sides_at l.self) (positions (take l.node-index l.nodes))
