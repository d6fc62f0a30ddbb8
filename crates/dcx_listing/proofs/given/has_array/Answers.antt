-- The array is the one of the name.
use Rattle.std.proofs.Common.{◌≡◌, IsTrue, ◌↔◌, subst}
use Rattle.std.specs.Option.{option_copied, IsSomeAnd}
use Rattle.dcx_shape.specs.declared.shape.Sides.{Sides}
use Rattle.dcx_shape.specs.Shape.{sides_of}
use Rattle.dcx_call.proofs.Given.{has_array, tested}
use Rattle.dcx_listing.proofs.given.has_array.Goals as goal

pub returns : goal.returns
returns c =
    let p = c.args.parameter.now in
    let found = option_copied c.get.result in
    let told = subst (λ (s : Sides). IsTrue c.has_sides.result ↔ IsSomeAnd found (λ x. sides_of x.shape ≡ s)) c.sides.ensures c.has_sides.ensures in
    tested c.has_sides.result told (has_array c.args.setting.now p.name (sides_of p.shape) found c.get.ensures)
