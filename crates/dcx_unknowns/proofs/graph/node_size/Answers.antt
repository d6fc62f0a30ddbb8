-- The rows and the columns of a graph are those of the node.
use Rattle.std.proofs.Common.{List, length, map, sum_by, Option, Some, None, sym, ap, subst, ◌∙◌}
use Rattle.dcx_atom.specs.declared.graph.AuxKind.{AuxKind}
use Rattle.dcx_atom.specs.declared.graph.Graph.{Graph}
use Rattle.dcx_atom.specs.declared.graph.GraphRow.{GraphRow}
use Rattle.dcx_atom.specs.Graph.{PlacedRow}
use Rattle.dcx_linear.specs.Size.{columns_for, capped}
use Rattle.dcx_unknowns.specs.Layout.{IsNodeGraph, aux_kind}
use Rattle.dcx_unknowns.proofs.Layouts.{node_none, node_some}
use Rattle.dcx_unknowns.proofs.graph.node_size.Goals as goal

pub returns-in-Some-clause-rows : goal.returns-in-Some-clause-rows
returns-in-Some-clause-rows c =
    let nodes = c.args.problem.now.tree in
    let graph : IsNodeGraph nodes c.args.node.0 (Some c.in-Some.graph) = subst (λ (o : Option Graph). IsNodeGraph nodes c.args.node.0 o) c.in-Some.is c.in_ok-graph.ensures in
    c.capped_length.ensures ∙ ap (λ (xs : List GraphRow). capped (length xs)) c.as_slice.ensures ∙ ap capped (node_some nodes c.args.node.0 c.in-Some.graph c.requires graph).1

pub returns-in-Some-clause-columns : goal.returns-in-Some-clause-columns
returns-in-Some-clause-columns c =
    let nodes = c.args.problem.now.tree in
    let graph : IsNodeGraph nodes c.args.node.0 (Some c.in-Some.graph) = subst (λ (o : Option Graph). IsNodeGraph nodes c.args.node.0 o) c.in-Some.is c.in_ok-graph.ensures in
    c.aux_columns.ensures
    ∙ ap (λ (xs : List AuxKind). capped (sum_by columns_for (map aux_kind xs))) (c.as_slice-in-Some.ensures ∙ (node_some nodes c.args.node.0 c.in-Some.graph c.requires graph).0)

pub returns-in-None-clause-rows : goal.returns-in-None-clause-rows
returns-in-None-clause-rows c =
    let nodes = c.args.problem.now.tree in
    let graph : IsNodeGraph nodes c.args.node.0 None = subst (λ (o : Option Graph). IsNodeGraph nodes c.args.node.0 o) c.in-None.is c.in_ok-graph.ensures in
    sym (ap (λ (xs : List PlacedRow). capped (length xs)) (node_none nodes c.args.node.0 graph).1)

pub returns-in-None-clause-columns : goal.returns-in-None-clause-columns
returns-in-None-clause-columns c =
    let nodes = c.args.problem.now.tree in
    let graph : IsNodeGraph nodes c.args.node.0 None = subst (λ (o : Option Graph). IsNodeGraph nodes c.args.node.0 o) c.in-None.is c.in_ok-graph.ensures in
    sym (ap (λ (xs : List AuxKind). capped (sum_by columns_for (map aux_kind xs))) (node_none nodes c.args.node.0 graph).0)
