-- The rows are those of the program.
use Rattle.std.proofs.Common.{◌≡◌}
use Rattle.dcx_listing.proofs.programs.push_rows.Given as goal

abbrev pub invariant-loop-i : goal.invariant-loop-i
invariant-loop-i g l = l.rows ≡ l.reduced.program.rows
