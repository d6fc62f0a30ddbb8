-- The second phase, over the columns that aren't artificial.
use Rattle.std.proofs.Common.{arith, ◌≡◌}
use Rattle.dcx_simplex.specs.Whole.{objective_row}
use Rattle.dcx_simplex.proofs.Stages.{second_is}
use Rattle.dcx_simplex.proofs.run.second_phase.Goals as goal

pub returns : goal.returns
returns g c = λ t s.
    let v = g.T.Tableau.table c.args.tableau.now in
    let u = g.T.Tableau.table c.phase.new.tableau in
    let ec : c.rows-cost.result ≡ objective_row v = omega (arith, c.rows-cost.ensures.count) in
    second_is c.args.limit t v u c.args.pivots.now c.phase.new.pivots c.rows-cost.result c.plain-plain.result c.phase.result ec c.plain-plain.ensures s c.phase.ensures.leads c.phase.ensures.ends
