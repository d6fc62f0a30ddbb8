-- The shape so far is that of the shapes passed.
use Rattle.std.proofs.Common.{◌≡◌, Some, map, take}
use Rattle.dcx_shape.specs.Shape.{sides_of}
use Rattle.dcx_array.specs.Shapes.{common_with}
use Rattle.dcx_array.proofs.shapes.common_with.Given as goal

abbrev pub invariant-loop-shape : goal.invariant-loop-shape
invariant-loop-shape l = common_with (Some (sides_of l.fn.first)) (map sides_of (take l.shape-index l.others)) ≡ Some (sides_of l.common)
