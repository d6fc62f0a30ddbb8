-- Columns that can't start a run lead nowhere.
use Rattle.std.proofs.Common.{rules}
use Rattle.dcx_tab.specs.First.{first_tableau}
use Rattle.dcx_warm.specs.Install.{IsColumnList}
use Rattle.dcx_lp_solve.proofs.warming.solve_warm.Goals as goal

pub returns-then-not-can_start-clause-runs : goal.returns-then-not-can_start-clause-runs
returns-then-not-can_start-clause-runs c =
    let n : ¬ (IsColumnList (first_tableau c.args.program.now).plain c.args.columns.now) = search rules in
    λ list t k w. n list
