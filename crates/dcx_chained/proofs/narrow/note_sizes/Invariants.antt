-- The rows so far are narrow by their sizes.
use Rattle.std.proofs.Common.{ℕ, ◌<◌}
use Rattle.dcx_links.specs.Matrix.{row_of}
use Rattle.dcx_chained.specs.Narrow.{IsSized, size_at}
use Rattle.dcx_chained.proofs.narrow.note_sizes.Given as goal

abbrev pub invariant-rows : goal.invariant-rows
invariant-rows l = record {
  sized : (k : ℕ) → k < l.i → IsSized (size_at l.sizes k) (row_of l.links k);
}
