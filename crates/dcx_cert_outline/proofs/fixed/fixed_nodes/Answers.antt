-- One more node is marked.
use Rattle.std.proofs.Common.{◌∙◌, ap, ap₂, List, get_or, false, subst, arith}
use Rattle.std.specs.List.{list_all}
use Rattle.dcx_arena.specs.declared.node.NodeId.{NodeId}
use Rattle.dcx_cert_outline.specs.Drawn.{AreFixed, fixed_call}
use Rattle.dcx_cert_outline.proofs.Nodes.{none_fixed, next_fixed, more_fixed}
use Rattle.dcx_cert_outline.proofs.fixed.fixed_nodes.Goals as goal

pub nodes-init : goal.nodes-init
nodes-init c = none_fixed c.args.problem.now c.new-marks.result.items c.new-marks.ensures.items

pub nodes-preserved : goal.nodes-preserved
nodes-preserved c =
    let p = c.args.problem.now in
    let marks = c.nodes.marks.items in
    let call = c.call.result.now in
    let told = c.are_marked.ensures ∙ ap₂ (λ ms (ids : List NodeId). list_all (λ (a : NodeId). get_or ms a.0 false) ids) c.deref.ensures.value c.deref-in-nodes.ensures.value in
    let mark = c.is_fixed-mark.ensures ∙ ap (fixed_call call) told ∙ next_fixed p marks c.nodes.i c.nodes.invariant call c.call.ensures c.in_ok-args.args.items (c.in_ok-args.ensures {u = tt}) in
    more_fixed p marks c.push.new.self.items c.nodes.i c.is_fixed-mark.result c.nodes.invariant mark c.in_ok-push.ensures.items

pub returns : goal.returns
returns c = subst (λ n. AreFixed c.args.problem.now c.nodes.marks.items n) (omega (arith, c.nodes-test.false, c.nodes-i-end.ensures.count)) c.nodes.invariant
