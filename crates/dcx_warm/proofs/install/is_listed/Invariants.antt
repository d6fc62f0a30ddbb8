-- None of the columns so far is the one that is looked for.
use Rattle.std.proofs.Common.{ℕ, ◌<◌, ◌≢◌, get_or}
use Rattle.dcx_warm.proofs.install.is_listed.Given as goal

abbrev pub invariant-columns : goal.invariant-columns
invariant-columns l = (k : ℕ) → k < l.listed-index → get_or l.columns k 0 ≢ l.column
