-- What a shape shows: its sides.
use Rattle.dcx_shape.specs.declared.shape.Shape.{Shape}
use Rattle.dcx_shape.specs.declared.shape.Sides.{Sides}

-- the sides of the shape
abbrev pub sides_of : Shape → Sides
sides_of s = s.sides
