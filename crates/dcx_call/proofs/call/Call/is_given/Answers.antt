-- A leaf is given where its array is there, and other calls always.
use Rattle.std.proofs.Common.{◌≡◌, IsTrue, ◌↔◌, sym, subst}
use Rattle.std.specs.Option.{option_copied, IsSomeAnd}
use Rattle.dcx_shape.specs.declared.shape.Sides.{Sides}
use Rattle.dcx_shape.specs.Shape.{sides_of}
use Rattle.dcx_call.specs.Values.{IsGiven}
use Rattle.dcx_call.proofs.Given.{has_array, tested}
use Rattle.dcx_call.proofs.call.Call.is_given.Goals as goal

pub returns-in-Variable : goal.returns-in-Variable
returns-in-Variable c =
    let setting = c.args.setting.now in
    let point = c.args.point.now in
    let v = c.in-Variable.variable in
    let found = option_copied c.get.result in
    let told = subst (λ (s : Sides). IsTrue c.has_sides.result ↔ IsSomeAnd found (λ x. sides_of x.shape ≡ s)) c.sides.ensures c.has_sides.ensures in
    subst (λ call. IsTrue c.has_sides.result ↔ IsGiven call setting point) (sym c.in-Variable.is)
    (tested c.has_sides.result told (has_array point v.name (sides_of v.shape) found c.get.ensures))

pub returns-in-Parameter : goal.returns-in-Parameter
returns-in-Parameter c =
    let setting = c.args.setting.now in
    let point = c.args.point.now in
    let p = c.in-Parameter.parameter in
    let found = option_copied c.get-in-Parameter.result in
    let told = subst (λ (s : Sides). IsTrue c.has_sides-in-Parameter.result ↔ IsSomeAnd found (λ x. sides_of x.shape ≡ s)) c.sides-in-Parameter.ensures c.has_sides-in-Parameter.ensures in
    subst (λ call. IsTrue c.has_sides-in-Parameter.result ↔ IsGiven call setting point) (sym c.in-Parameter.is)
    (tested c.has_sides-in-Parameter.result told (has_array setting p.name (sides_of p.shape) found c.get-in-Parameter.ensures))
