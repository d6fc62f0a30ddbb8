-- Runs of one command over the same contents have the same report, or a file or memory was lacking.
use Rattle.dcx_top.proofs.SameReport as holds
use Rattle.dcx_top.proofs.laws.same_contents_same_report.Goals as goal

pub returns : goal.returns
returns c = holds.same_contents_same_report
