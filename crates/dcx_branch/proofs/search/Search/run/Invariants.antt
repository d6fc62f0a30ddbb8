-- The search is under way or done, and no more nodes are taken than are allowed.
use Rattle.std.proofs.Common.{◌≤◌, ◌-◌}
use Rattle.dcx_branch.specs.Searches.{IsAt, IsAtOrDone}
use Rattle.dcx_branch.proofs.search.Search.run.Given as goal

abbrev pub invariant-nodes : goal.invariant-nodes
invariant-nodes l = record {
  under_way : IsAt l.problem l.reduced.program l.limit l.fn.self → IsAtOrDone l.problem l.reduced.program l.limit l.open l.self;
  few : l.self.taken ≤ l.nodes;
}

abbrev pub decreases-nodes : goal.decreases-nodes
decreases-nodes l = l.nodes - l.self.taken
