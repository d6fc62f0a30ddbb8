-- The mirror of an entry of a square variable that has no unknown of its own stands before it.
use Rattle.std.proofs.Common.{◌≡◌, ◌<◌, false, arith, sym, subst}
use Rattle.dcx_shape.specs.Sides.{rows_of, cols_of}
use Rattle.dcx_call.specs.declared.attribute.Attribute.{Attribute}
use Rattle.dcx_call.specs.declared.attribute.Attribute.TheVariants.{Symmetric}
use Rattle.dcx_unknowns.specs.Own.{is_own, mirror_of}
use Rattle.dcx_unknowns.specs.Unknowns.{demanded, sides_in}
use Rattle.dcx_call.specs.Attributes.{IsSquareFor}
use Rattle.dcx_unknowns.proofs.Sources.{mirror_before}
use Rattle.dcx_unknowns.proofs.variable.mirrored.Goals as goal

pub bounds-unknowns-mirror : goal.bounds-unknowns-mirror
bounds-unknowns-mirror c =
    let v = c.args.variable.now in
    let s = sides_in v in
    let symmetric : demanded v ≡ Symmetric = sym c.in-Symmetric.ensures in
    let square : rows_of s ≡ cols_of s = subst (λ (a : Attribute). IsSquareFor a s) symmetric c.requires.square in
    let other : is_own Symmetric s c.args.entry ≡ false = subst (λ (a : Attribute). is_own a s c.args.entry ≡ false) symmetric c.requires.other in
    let before : mirror_of s c.args.entry < c.args.entry = mirror_before s square c.args.entry c.requires.there other in
    omega (arith, before, c.mirror.ensures, c.requires.listed)
