-- The graph tells the rows.
use Rattle.std.proofs.Common.{length, ap, ◌∙◌, subst}
use Rattle.dcx_unknowns.specs.Layout.{IsNodeGraph}
use Rattle.dcx_cert_outline.proofs.Rows.{node_some, node_none}
use Rattle.dcx_cert_outline.proofs.atoms.atom_rows.Goals as goal

pub returns-in_ok-count_of-in-Some : goal.returns-in_ok-count_of-in-Some
returns-in_ok-count_of-in-Some c =
    let graph = subst (λ o. IsNodeGraph c.args.problem.now.tree c.args.node.0 o) c.in-Some.is (c.in_ok-graph.ensures {u = tt}) in
    node_some c.args.problem.now.tree c.args.node.0 c.in-Some.graph c.in_ok-count_of-in-Some.field-0 c.requires graph (c.in_ok-count_of-in-Some.ensures {u = tt} ∙ ap length c.as_slice.ensures)

pub returns-in-None : goal.returns-in-None
returns-in-None c = node_none c.args.problem.now.tree c.args.node.0 (subst (λ o. IsNodeGraph c.args.problem.now.tree c.args.node.0 o) c.in-None.is (c.in_ok-graph.ensures {u = tt}))
