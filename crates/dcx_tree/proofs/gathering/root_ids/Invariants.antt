-- The objective, and the sides of the constraints that are passed.
use Rattle.std.proofs.Common.{◌≡◌, take}
use Rattle.dcx_arena.specs.Nodes.{positions}
use Rattle.dcx_tree.specs.Problems.{roots_of}
use Rattle.dcx_tree.proofs.gathering.root_ids.Given as goal

abbrev pub invariant-loop-constraint : goal.invariant-loop-constraint
invariant-loop-constraint l = positions l.ids.items ≡ roots_of l.fn.objective (take l.constraint-index l.constraints)
