-- The first phase, over all columns, from no pivot.
use Rattle.std.proofs.Common.{arith, ◌≡◌, ◌+◌}
use Rattle.dcx_simplex.specs.Whole.{phase_row}
use Rattle.dcx_simplex.proofs.Stages.{first_is}
use Rattle.dcx_simplex.proofs.run.first_phase.Goals as goal

pub overflow_add-cost : goal.overflow_add-cost
overflow_add-cost g c = record { fits = omega (arith, c.rows-cost.ensures.few) }

pub returns : goal.returns
returns g c =
    let t = g.T.Tableau.table c.args.tableau.now in
    let u = g.T.Tableau.table c.phase.new.tableau in
    let ec : c.rows-cost.result + 1 ≡ phase_row t = omega (arith, c.rows-cost.ensures.count) in
    first_is c.args.limit t u c.phase.new.pivots (c.rows-cost.result + 1) c.columns-columns.result c.args.pivots.now c.phase.result ec c.columns-columns.ensures c.requires.none
    c.requires.artificials c.phase.ensures.leads c.phase.ensures.ends
