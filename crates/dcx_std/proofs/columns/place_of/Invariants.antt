-- No column so far is the one that is looked for.
use Rattle.std.proofs.Common.{◌≢◌, ℕ, ◌<◌, Some}
use Rattle.std.specs.Prelude.{slice_get}
use Rattle.dcx_std.proofs.columns.place_of.Given as goal

abbrev pub invariant-columns : goal.invariant-columns
invariant-columns l = (k : ℕ) → k < l.place → slice_get l.columns k ≢ Some l.column
