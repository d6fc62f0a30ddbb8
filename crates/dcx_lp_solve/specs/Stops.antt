-- What stops a setting, a node or a step whose rows aren't solved.
use Rattle.dcx_answer.specs.declared.stop.Stop.{Stop}
use Rattle.dcx_answer.specs.declared.stop.Stop.TheVariants.{TooLarge, Wide, PivotLimit, Memory}
use Rattle.dcx_lp_solve.specs.declared.stop.SolveStop.{SolveStop}
use Rattle.dcx_lp_solve.specs.declared.stop.SolveStop.TheVariants as solves

-- the same, with the same numbers
abbrev pub run_stop : SolveStop → Stop
run_stop (solves.TooLarge rows columns) = TooLarge rows columns
run_stop (solves.Wide site) = Wide site
run_stop (solves.PivotLimit count) = PivotLimit count
run_stop solves.Memory = Memory
