-- The constraints that are passed, and their sides.
use Rattle.std.proofs.Common.{◌≡◌, ◌*◌, take, map}
use Rattle.dcx_arena.specs.Nodes.{positions}
use Rattle.dcx_tree.specs.Problems.{sides_in}
use Rattle.dcx_tree.specs.Gather.{demand_of}
use Rattle.dcx_tree.proofs.gathering.moved.Given as goal

abbrev pub invariant-loop-i : goal.invariant-loop-i
invariant-loop-i l = record {
  demands : map demand_of l.moved.items ≡ map demand_of (take l.i l.constraints);
  sides : sides_in l.moved.items ≡ positions (take (2 * l.i) l.sides);
}
