-- What is read at the tableau of an optimal basis is right.
use Rattle.std.proofs.lemmas.Result.{IfOk-weaker}
use Rattle.dcx_lp_answer.specs.declared.answer.LpStatus.TheVariants as status
use Rattle.dcx_lp_answer.specs.Right.{IsRight}
use Rattle.dcx_simplex.specs.Reading.{IsReading}
use Rattle.dcx_warm.proofs.Ending.{is_readable, rows_are, columns_are, is_right}
use Rattle.dcx_warm.proofs.read.read_warm.Goals as goal

pub read_costs-requires-clause-readable : goal.read_costs-requires-clause-readable
read_costs-requires-clause-readable g c = is_readable c.args.program.now (g.T.Tableau.table c.args.tableau.now) c.requires

pub read_costs-requires-clause-rows : goal.read_costs-requires-clause-rows
read_costs-requires-clause-rows g c = rows_are c.args.program.now (g.T.Tableau.table c.args.tableau.now) c.requires

pub read_costs-requires-clause-columns : goal.read_costs-requires-clause-columns
read_costs-requires-clause-columns g c = columns_are c.args.program.now (g.T.Tableau.table c.args.tableau.now) c.requires

pub returns-clause-right : goal.returns-clause-right
returns-clause-right g c =
    IfOk-weaker c.read_costs.result (IsReading c.args.program.now.rows c.args.program.now.columns (g.T.Tableau.table c.args.tableau.now) status.Optimal) (IsRight c.args.program.now)
    (is_right c.args.program.now (g.T.Tableau.table c.args.tableau.now) c.requires) c.read_costs.ensures.reading
