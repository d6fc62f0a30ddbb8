-- Item k of a list, a range and a vector.
use Rattle.std.proofs.Common.{◌≡◌, ◌<◌, length, map, refl, sym, subst, rules, ℤ, pos, ◌+ℤ◌, ◌*ℤ◌, slice_get, Some, IfOk, SFits}
use Rattle.std.proofs.lemmas.Int.{to_z-of_z}
use Rattle.std.proofs.lemmas.List.{length-map}
use mir.Syntax.{w128}
use Rattle.dcx_frac.specs.declared.fraction.Frac.{Frac}
use Rattle.dcx_array.specs.Arrays.{number}
use Rattle.dcx_script_values.specs.Values.{Value, plain}
use Rattle.dcx_script_values.specs.Meant.{meant}
use Rattle.dcx_signature.specs.Turns.{whole_value}
use Rattle.dcx_signature.specs.View.{through_seen}
use Rattle.dcx_signature.proofs.Ranges.{range_items-length, range_item}
use Rattle.dcx_signature.proofs.ItemsSeen.{item_seen, item_given}
use Rattle.dcx_signature.proofs.turns.Through.item.Goals as goal

pub number_of-requires : goal.number_of-requires
number_of-requires c =
    let r = c.in-Range.range.value in
    rw c.deref-in-Range.ensures (rw range_items-length at (rw c.in-Range.is at c.requires))

pub returns-in-Items : goal.returns-in-Items
returns-in-Items c =
    let xs = c.values.result.now in
    let seen : through_seen c.args.self.now ≡ map meant xs = rw (c.in-Items.is, ← c.deref.ensures) (sym c.values.ensures.values) in
    let within : c.args.k < length xs = rw length-map at (rw seen at c.requires) in
    item_given (through_seen c.args.self.now) c.args.k (meant c.index-values-k.result) c.share.result
    (rw seen (item_seen meant xs c.args.k c.index-values-k.result within c.index-values-k.is)) c.share.ensures

pub returns-in-Range : goal.returns-in-Range
returns-in-Range c =
    let r = c.in-Range.range.value in
    let fits : SFits w128 c.number_of.result = search rules in
    let within : c.args.k < r.count = rw range_items-length at (rw c.in-Range.is at c.requires) in
    let value : c.number_of.result ≡ r.first +ℤ pos c.args.k *ℤ r.step = rw c.deref-in-Range.ensures at c.number_of.ensures.value in
    let item : slice_get (through_seen c.args.self.now) c.args.k ≡ Some (whole_value c.number_of.result) = rw (c.in-Range.is, value) (range_item r.first r.step r.count c.args.k within) in
    item_given (through_seen c.args.self.now) c.args.k (whole_value c.number_of.result) c.whole_value.result item
    (subst (λ (z : ℤ). IfOk c.whole_value.result (λ v. meant v ≡ whole_value z)) (to_z-of_z w128 c.number_of.result fits) c.whole_value.ensures)

pub returns-in-Numbers : goal.returns-in-Numbers
returns-in-Numbers c =
    let xs = c.as_slice.result.now in
    let f : Frac → Value = λ x. plain (number x) in
    let seen : through_seen c.args.self.now ≡ map f xs = rw (c.in-Numbers.is, c.as_slice.ensures, c.deref-in-Numbers.ensures) refl in
    let within : c.args.k < length xs = rw length-map at (rw seen at c.requires) in
    item_given (through_seen c.args.self.now) c.args.k (plain (number c.index-as_slice-k.result)) c.number_value.result
    (rw seen (item_seen f xs c.args.k c.index-as_slice-k.result within c.index-as_slice-k.is)) c.number_value.ensures
