-- Each number is asked once.
use Rattle.std.proofs.Common.{length}
use Rattle.dcx_case_files.proofs.fronts.+refuses_any.Given as goal

abbrev pub decreases-refuses_any : goal.decreases-refuses_any
decreases-refuses_any l = length l.numbers.now
