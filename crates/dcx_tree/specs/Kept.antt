-- What the nodes of a tree, and the variables of a problem, keep is kept in one way only.
use Rattle.std.specs.Prelude.{List, get_or}
use Rattle.std.proofs.Props.{props}
use Rattle.dcx_arena.specs.Nodes.{AreNodes}
use Rattle.dcx_shape.specs.declared.shape.Sides.{Sides}
use Rattle.dcx_shape.specs.Shape.{sides_of}
use Rattle.dcx_call.specs.declared.attribute.Attribute.{Attribute}
use Rattle.dcx_call.specs.declared.attribute.Attribute.TheVariants.{Free, Nonneg, Nonpos, Symmetric, Diag}
use Rattle.dcx_call.specs.declared.attribute.Variable.{Variable}
use Rattle.dcx_call.specs.Attributes.{counted, IsSquareFor, AreSquare}
use Rattle.dcx_call.specs.Calls.{shape_of}
use Rattle.dcx_tree.specs.Nodes.{Node}

pub AreNodes-prop : (nodes : List Node) → IsProp (AreNodes shape_of nodes)
AreNodes-prop nodes = hlevel props

pub IsSquareFor-prop : (a : Attribute) (s : Sides) → IsProp (IsSquareFor a s)
IsSquareFor-prop Free s = hlevel props
IsSquareFor-prop Nonneg s = hlevel props
IsSquareFor-prop Nonpos s = hlevel props
IsSquareFor-prop Symmetric s = hlevel props
IsSquareFor-prop Diag s = hlevel props

pub AreSquare-prop : (vs : List Variable) → IsProp (AreSquare vs)
AreSquare-prop vs f g = λ z k d lt. let v = get_or vs k d in IsSquareFor-prop (counted v.whole v.attribute) (sides_of v.shape) (f k d lt) (g k d lt) z
