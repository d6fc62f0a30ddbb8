-- The marks so far are those of the nodes passed: one more node is marked.
use Rattle.std.proofs.Common.{arith}
use Rattle.dcx_unknowns.specs.Layout.{is_reduced}
use Rattle.dcx_graph.proofs.Marked.{marked_more}
use Rattle.dcx_graph.proofs.marks.reduced_nodes.Goals as goal

pub nodes-preserved : goal.nodes-preserved
nodes-preserved c = record {
  count = omega (arith, c.in_ok-push.ensures.len);
  so_far = λ rules e. marked_more c.nodes.marks.items c.push.new.self.items c.is_reduced.result (is_reduced rules c.args.problem.now) c.nodes.i c.nodes.invariant.count
      (c.nodes.invariant.so_far rules e) (c.is_reduced.ensures rules e) c.in_ok-push.ensures.items;
}

pub returns-clause-marks : goal.returns-clause-marks
returns-clause-marks c = λ rules e i b. c.nodes.invariant.so_far rules e i (omega (arith, b))
