-- The parameters so far have arrays.
use Rattle.std.proofs.Common.{take}
use Rattle.std.specs.List.{All}
use Rattle.dcx_shape.specs.Shape.{sides_of}
use Rattle.dcx_call.specs.Values.{HasArray}
use Rattle.dcx_listing.proofs.given.have_arrays.Given as goal

abbrev pub invariant-parameters : goal.invariant-parameters
invariant-parameters l = All (λ q. HasArray l.setting q.name (sides_of q.shape)) (take l.parameter-index l.parameters)
