-- Shapes with the same sides are one shape.
use Rattle.std.proofs.Common.{◌≡◌}
use Rattle.std.proofs.Props.{props}
use mathlib.Core.HLevel.{is_prop→PathP}
use Rattle.dcx_shape.specs.declared.shape.Sides.{Sides}
use Rattle.dcx_shape.specs.declared.shape.Shape.{Shape}
use Rattle.dcx_shape.specs.Shape.{sides_of}
use Rattle.dcx_shape.specs.Sides.{HasFewEntries}

few_prop : (s : Sides) → IsProp (HasFewEntries s)
few_prop s = hlevel props

pub shape_from_sides : (a b : Shape) → sides_of a ≡ sides_of b → a ≡ b
shape_from_sides a b p = λ i. record { sides = p i; few = is_prop→PathP (λ j. HasFewEntries (p j)) (λ j. few_prop (p j)) a.few b.few i }
