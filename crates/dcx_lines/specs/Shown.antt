-- What the lines of a problem's answer show of the problem: names and shapes.
use Rattle.std.specs.Prelude.{ℕ, List, map}
use Rattle.dcx_shape.specs.declared.shape.Shape.{Shape}
use Rattle.dcx_atom.specs.declared.array.Array.{Array}
use Rattle.dcx_point.specs.Pairs.{Pairs}

-- the name and the shape of each variable of a point
abbrev pub variables_of : Pairs → List (List ℕ × Shape)
variables_of point = map (λ p. (p.0, p.1.shape)) point

-- the shape of each constraint's multipliers
abbrev pub constraints_of : List Array → List Shape
constraints_of duals = map (λ a. a.shape) duals
