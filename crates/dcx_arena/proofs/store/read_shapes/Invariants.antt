-- The shapes so far have the sides of the arguments that are passed.
use Rattle.std.proofs.Common.{◌≡◌, map, take}
use Rattle.dcx_shape.specs.Shape.{sides_of}
use Rattle.dcx_arena.specs.Nodes.{positions}
use Rattle.dcx_arena.specs.Chains.{sides_in}
use Rattle.dcx_arena.proofs.store.read_shapes.Given as goal

abbrev pub invariant-loop-a : goal.invariant-loop-a
invariant-loop-a g l = map sides_of l.shapes.items ≡ map (sides_in l.stored) (take l.a-index (positions l.args))
