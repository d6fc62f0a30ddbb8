-- That an array keeps what an attribute demands is told in one way at most.
use Rattle.std.proofs.Props.{props}
use Rattle.dcx_math.proofs.Orders.{≤ℚ_prop, ≡ℚ_prop}
use Rattle.dcx_shape.specs.declared.shape.Sides.{Sides}
use Rattle.dcx_convex.specs.Nodes.{Attribute, Free, Nonneg, Nonpos, Symmetric, Diag, Head, Variable, Parameter, Constant, Apply, Numbers, Point, Keeps, VariableKeeps}

pub keeps_prop : (a : Attribute) (s : Sides) (x : Numbers) → IsProp (Keeps a s x)
keeps_prop Free s x = hlevel props
keeps_prop Nonneg s x = hlevel ≤ℚ_prop
keeps_prop Nonpos s x = hlevel ≤ℚ_prop
keeps_prop Symmetric s x = hlevel ≡ℚ_prop
keeps_prop Diag s x = hlevel ≡ℚ_prop

pub variable_prop : (x : Point) (h : Head) → IsProp (VariableKeeps x h)
variable_prop x (Variable d) = keeps_prop d.attribute d.sides (x d.number)
variable_prop x (Parameter d) = hlevel props
variable_prop x (Constant ys) = hlevel props
variable_prop x (Apply c) = hlevel props
