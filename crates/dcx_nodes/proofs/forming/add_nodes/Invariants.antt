-- The nodes so far are formed, with a step for each.
use Rattle.std.proofs.Common.{◌≡◌, ◌+◌}
use Rattle.dcx_nodes.specs.SoFar.{AreFormedTo}
use Rattle.dcx_nodes.proofs.forming.add_nodes.Given as goal

abbrev pub invariant-nodes : goal.invariant-nodes
invariant-nodes g l =
    let t = g.C.Coef in
    record {
      formed : AreFormedTo t.of_number t.number_of t.sum_gives t.change_gives t.parameter_gives l.given.problem.now l.given.setting.now l.given.reduced.now l.given.fixed.now l.i l.forming;
      counted : l.steps ≡ l.initial.steps + l.i;
    }
