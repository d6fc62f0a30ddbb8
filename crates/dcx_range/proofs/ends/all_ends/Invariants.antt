-- From the ends so far the rows that are left lead to all ends.
use Rattle.std.proofs.Common.{◌≡◌, ◌-◌}
use Rattle.dcx_range.specs.Operations.{ends_from, no_ends}
use Rattle.dcx_range.proofs.ends.all_ends.Given as goal

abbrev pub invariant-each : goal.invariant-each
invariant-each g l = ends_from (g.T.Tableau.table l.tableau) l.rates l.at l.i (l.count - l.i) l.ends ≡ ends_from (g.T.Tableau.table l.tableau) l.rates l.at 0 l.count no_ends
