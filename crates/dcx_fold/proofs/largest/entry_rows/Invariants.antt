-- So many entries have their row.
use Rattle.std.proofs.Common.{◌≡◌, map}
use Rattle.dcx_atom.specs.Arrays.{list_below}
use Rattle.dcx_atom.specs.Graph.{placed_row}
use Rattle.dcx_fold.specs.Largest.{level_row}
use Rattle.dcx_fold.proofs.largest.entry_rows.Given as goal

abbrev pub invariant-loop-i : goal.invariant-loop-i
invariant-loop-i l = map placed_row l.rows.items ≡ list_below l.i (λ i. record { entry = 0; row = level_row l.bend i })
