-- The graph of an atom is made of the sides of its arguments.
use Rattle.std.proofs.Common.{◌≡◌, map, ap, ◌∙◌, Some}
use Rattle.dcx_shape.specs.Shape.{sides_of}
use Rattle.dcx_arena.specs.Nodes.{args_at, sides_at}
use Rattle.dcx_unknowns.proofs.Layouts.{atom_node, atom_has_value, atom_graph}
use Rattle.dcx_unknowns.proofs.graph.node_graph.Goals as goal

pub graph-requires : goal.graph-requires
graph-requires c =
    let p = c.args.problem.now in
    let sides : map sides_of c.deref.result.now ≡ map (sides_at p.tree) (args_at p.tree c.args.node.0) = ap (map sides_of) c.deref.ensures.value ∙ c.in_ok-shapes.ensures in
    atom_has_value p c.args.node.0 c.in-Atom.atom (map sides_of c.deref.result.now)
    (atom_node p c.args.node.0 c.in-Atom.atom (map sides_of c.deref.result.now) (c.call.ensures ∙ ap Some c.in-Atom.is) sides)

pub returns-in-Atom : goal.returns-in-Atom
returns-in-Atom c =
    let p = c.args.problem.now in
    let sides : map sides_of c.deref.result.now ≡ map (sides_at p.tree) (args_at p.tree c.args.node.0) = ap (map sides_of) c.deref.ensures.value ∙ c.in_ok-shapes.ensures in
    atom_graph p c.args.node.0 c.in-Atom.atom (map sides_of c.deref.result.now) c.in_ok-graph-in-Atom.field-0
    (atom_node p c.args.node.0 c.in-Atom.atom (map sides_of c.deref.result.now) (c.call.ensures ∙ ap Some c.in-Atom.is) sides) c.in_ok-graph-in-Atom.ensures
