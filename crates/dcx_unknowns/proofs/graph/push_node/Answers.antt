-- The kinds of a graph's unknowns are those of the node.
use Rattle.std.proofs.Common.{◌≡◌, ◌++◌, List, map, Option, Some, None, OnOk, sym, ap, subst, ◌∙◌}
use Rattle.std.proofs.lemmas.List.{append-nil}
use Rattle.dcx_atom.specs.declared.graph.AuxKind.{AuxKind}
use Rattle.dcx_atom.specs.declared.graph.Graph.{Graph}
use Rattle.dcx_unknowns.specs.Layout.{IsNodeGraph, aux_kind}
use Rattle.dcx_unknowns.proofs.Layouts.{node_none, node_some}
use Rattle.dcx_unknowns.proofs.graph.push_node.Goals as goal

pub returns-in-Some : goal.returns-in-Some
returns-in-Some c =
    let nodes = c.args.problem.now.tree in
    let graph : IsNodeGraph nodes c.args.node.0 (Some c.in-Some.graph) = subst (λ (o : Option Graph). IsNodeGraph nodes c.args.node.0 o) c.in-Some.is c.in_ok-graph.ensures in
    subst (λ (xs : List AuxKind). OnOk c.push_aux.result (c.push_aux.new.kinds.items ≡ c.args.kinds.now.items ++ map aux_kind xs))
    (c.as_slice.ensures ∙ (node_some nodes c.args.node.0 c.in-Some.graph c.requires graph).0) c.push_aux.ensures

pub returns-in-None : goal.returns-in-None
returns-in-None c =
    let nodes = c.args.problem.now.tree in
    let graph : IsNodeGraph nodes c.args.node.0 None = subst (λ (o : Option Graph). IsNodeGraph nodes c.args.node.0 o) c.in-None.is c.in_ok-graph.ensures in
    sym (ap (λ (xs : List AuxKind). c.args.kinds.now.items ++ map aux_kind xs) (node_none nodes c.args.node.0 graph).0 ∙ append-nil c.args.kinds.now.items)
