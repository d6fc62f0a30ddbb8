-- Different columns that are no artificials can start a run, and no others can.
use Rattle.std.proofs.Common.{rules}
use Rattle.dcx_tab.specs.First.{first_tableau}
use Rattle.dcx_lp_solve.proofs.WarmRuns.{can_start}
use Rattle.dcx_lp_solve.proofs.warming.can_start.Goals as goal

pub returns : goal.returns
returns c = can_start c.are_plain.result (first_tableau c.args.program.now).plain c.plain_of-plain.result c.args.columns.now c.as_slice-2.result.now c.requires
    (search rules) c.as_slice-2.ensures c.are_plain.ensures
