-- The setting has an array of one entry for the parameter.
use Rattle.std.proofs.Common.{◌≡◌, ◌<◌, length, List, Some, slice_get, sym, ap, ◌∙◌, subst, arith, refl}
use Rattle.std.specs.Option.{option_copied}
use Rattle.std.proofs.lemmas.Option.{none-some, same_Some, slice_get-get_or}
use Rattle.dcx_frac.specs.declared.fraction.Frac.{Frac}
use Rattle.dcx_shape.specs.Shape.{sides_of}
use Rattle.dcx_shape.specs.Sides.{entries_of}
use Rattle.dcx_atom.specs.declared.array.Array.{Array}
use Rattle.dcx_call.specs.declared.attribute.Parameter.{Parameter}
use Rattle.dcx_right.specs.Ranges.{place_of}
use Rattle.dcx_range.proofs.Named.{place_low, array_there, is_asked}
use Rattle.dcx_range.proofs.finding.asked.Goals as goal

pub unreachable-requires-in_default-get : goal.unreachable-requires-in_default-get
unreachable-requires-in_default-get c =
    let has = array_there c.args.problem.now c.args.setting.now c.args.name.now c.requires.arrays c.requires.number in
    none-some has.array (sym (ap option_copied c.in_default-get.is) ∙ c.get.ensures ∙ has.there)

pub bounds-as_slice-0 : goal.bounds-as_slice-0
bounds-as_slice-0 c =
    let has = array_there c.args.problem.now c.args.setting.now c.args.name.now c.requires.arrays c.requires.number in
    let array = c.in-Some-get.array.now in
    let same : array ≡ has.array = same_Some array has.array ((c.in-Some-get.ensures {u = tt}) ∙ has.there) in
    let sides = ap entries_of (ap (λ (a : Array). sides_of a.shape) same ∙ has.shape) in
    let full = array.full in
    let size = ap length c.as_slice.ensures in
    omega (arith, size, full, sides)

pub returns : goal.returns
returns c =
    let name = c.args.name.now in
    let k = c.in-Some.position in
    let q = c.index-parameters-position.result in
    let x = c.index-as_slice-0.result in
    let place = c.place_of.ensures ∙ ap (λ xs. place_of xs name) c.as_slice-parameters.ensures in
    let low = place_low c.as_slice-parameters.result.now name k (sym c.place_of.ensures ∙ c.in-Some.is) in
    let has = array_there c.args.problem.now c.args.setting.now name c.requires.arrays c.requires.number in
    let array = c.in-Some-get.array.now in
    let same : array ≡ has.array = same_Some array has.array ((c.in-Some-get.ensures {u = tt}) ∙ has.there) in
    let sides = ap entries_of (ap (λ (a : Array). sides_of a.shape) same ∙ has.shape) in
    let full = array.full in
    let size = ap length c.as_slice.ensures in
    let long : 0 < length c.as_slice.result.now = omega (arith, size, full, sides) in
    is_asked c.args.problem.now c.args.setting.now name c.requires.arrays c.requires.number k q c.in-Some-get.array.now x (sym place ∙ c.in-Some.is)
    (subst (λ (ys : List Parameter). slice_get ys k ≡ Some q) c.as_slice-parameters.ensures (slice_get-get_or c.as_slice-parameters.result.now k q low ∙ ap Some (sym c.index-parameters-position.is)))
    (sym (c.in-Some-get.ensures {u = tt}))
    (subst (λ (ys : List Frac). slice_get ys 0 ≡ Some x) c.as_slice.ensures (slice_get-get_or c.as_slice.result.now 0 x long ∙ ap Some (sym c.index-as_slice-0.is)))
    _ refl refl refl
