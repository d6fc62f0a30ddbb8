-- The settings that the filter lets through are those that aren't answered.
use Rattle.std.proofs.Common.{rules}
use Rattle.std.proofs.iter.runs.Made.{chains}
use Rattle.dcx_report.proofs.counts.stops.Goals as goal

pub returns : goal.returns
returns g c = search (rules, chains)
