-- Each column so far is below the bound.
use Rattle.std.proofs.Common.{ℕ, ◌<◌, get_or}
use Rattle.dcx_lp_solve.proofs.warming.are_plain.Given as goal

abbrev pub invariant-columns : goal.invariant-columns
invariant-columns l = (k : ℕ) → k < l.column-index → get_or l.columns k 0 < l.plain
