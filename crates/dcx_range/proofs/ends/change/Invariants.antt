-- From the sum so far the products that are left lead to the change.
use Rattle.std.proofs.Common.{◌≡◌, drop, map}
use Rattle.dcx_atom.specs.Entrywise.{products_from}
use Rattle.dcx_range.specs.Operations.{factors_at, change_at}
use Rattle.dcx_range.proofs.ends.change.Given as goal

abbrev pub invariant-rates : goal.invariant-rates
invariant-rates g l = products_from l.sum (map (factors_at (g.T.Tableau.table l.tableau) l.i) (drop l.rate-index l.rates)) ≡ change_at (g.T.Tableau.table l.tableau) l.i l.rates
