-- The shapes are those of the constraints so far.
use Rattle.std.proofs.Common.{◌≡◌, map, take}
use Rattle.dcx_cert_outline.proofs.drawing.shapes_of.Given as goal

abbrev pub invariant-loop-constraint : goal.invariant-loop-constraint
invariant-loop-constraint l = l.list.items ≡ map (λ c. c.shape) (take l.constraint-index l.constraints)
