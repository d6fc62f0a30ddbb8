-- The arrays so far are spread, and those that are left are for the constraints that are.
use Rattle.std.specs.Vec.Iter.{into_iter_items}
use Rattle.dcx_iis.specs.Steps.{flagged}
use Rattle.dcx_iis.proofs.Loops.{AreSpreadSo}
use Rattle.dcx_iis.proofs.duals.spread.Given as goal

abbrev pub invariant-constraints : goal.invariant-constraints
invariant-constraints l = AreSpreadSo (flagged l.kept) l.constraints l.index l.fn.arrays l.duals.items (into_iter_items l.rest)
