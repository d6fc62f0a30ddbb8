-- A node that is reduced adds its kinds, and any other adds none.
use Rattle.std.proofs.Common.{ap, ◌∙◌, ◌++◌, arith, rules, map}
use Rattle.std.proofs.lemmas.Result.{err_from_is_err_and}
use Rattle.dcx_unknowns.specs.Layout.{marked, aux_kind, aux_below}
use Rattle.dcx_unknowns.proofs.Layouts.{kinds_more, kinds_no_more}
use Rattle.dcx_unknowns.proofs.graph.push_graphs.Goals as goal
use Rattle.dcx_unknowns.proofs.graph.push_graphs.Goals.{then-reduced-i+in_ok-push_node, else-reduced-i}

pub nodes-preserved : goal.nodes-preserved
nodes-preserved c =
    let nodes = c.args.problem.now.tree in
    let marks = marked c.args.reduced.now in
    elim c.if-reduced-i.branch [
      | then-reduced-i+in_ok-push_node w ↦
          ap (λ v. v.items) w.kinds-is ∙ kinds_more nodes marks c.nodes.i c.nodes.kinds.items c.args.kinds.now.items w.push_node.new.kinds.items w.if-reduced-i.true c.nodes.invariant
          w.in_ok-push_node.ensures
      | else-reduced-i w ↦ ap (λ v. v.items) w.kinds-is ∙ kinds_no_more nodes marks c.nodes.i c.nodes.kinds.items c.args.kinds.now.items w.if-reduced-i.false c.nodes.invariant
    ]

pub nodes-init : goal.nodes-init
nodes-init c = search rules

pub nodes-smaller : goal.nodes-smaller
nodes-smaller c = search rules

pub bounds-reduced-i : goal.bounds-reduced-i
bounds-reduced-i c = omega arith

pub push_node-requires : goal.push_node-requires
push_node-requires c = omega arith

pub returns : goal.returns
returns c =
    c.nodes.invariant ∙ ap (λ n. c.args.kinds.now.items ++ map aux_kind (aux_below c.args.problem.now.tree (marked c.args.reduced.now) n)) (omega arith)

pub returns-in_err-push_node : goal.returns-in_err-push_node
returns-in_err-push_node c = let p = err_from_is_err_and c.from_residual.result c.from_residual.ensures.1 in rw p.1 tt
