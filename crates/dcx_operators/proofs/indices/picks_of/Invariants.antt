-- All picks are those so far and those of the indices that are left.
use Rattle.std.proofs.Common.{◌≡◌, map, drop}
use Rattle.std.specs.List.{All}
use Rattle.dcx_shape.specs.Index.{HasStep}
use Rattle.dcx_operators.specs.View.{evaluated}
use Rattle.dcx_operators.proofs.Picked.{picked_by, behind}
use Rattle.dcx_operators.proofs.indices.picks_of.Given as goal

abbrev pub invariant-loop-index : goal.invariant-loop-index
invariant-loop-index l = record {
  whole : behind l.picks.items (picked_by (map evaluated (drop l.index-index l.indices))) ≡ picked_by (map evaluated l.indices);
  steps : All HasStep l.picks.items;
}
