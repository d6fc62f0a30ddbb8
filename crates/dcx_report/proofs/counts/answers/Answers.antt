-- The settings that the filter lets through are those that are answered.
use Rattle.std.proofs.Common.{rules}
use Rattle.std.proofs.iter.runs.Made.{chains}
use Rattle.dcx_report.proofs.counts.answers.Goals as goal

pub returns : goal.returns
returns g c = search (rules, chains)
