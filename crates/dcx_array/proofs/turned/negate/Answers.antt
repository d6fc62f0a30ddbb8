-- Each number is turned.
use Rattle.std.proofs.Common.{◌<◌, ◌≤◌, ap, ◌∙◌, refl, arith, length}
use Rattle.std.proofs.lemmas.List.{get_or_default}
use Rattle.dcx_atom.specs.Formed.{zero_frac}
use Rattle.dcx_array.specs.Operators.{negated_number, negated}
use Rattle.dcx_atom.proofs.OneArray.{array_from_parts}
use Rattle.dcx_array.proofs.GivenArrays.{negated_is, turned_more, turned_all}
use Rattle.dcx_array.proofs.turned.negate.Goals as goal

pub loop-k-preserved : goal.loop-k-preserved
loop-k-preserved c =
    let within : c.loop-k.k < length c.loop-k.entries.items = omega (arith, c.loop-k-test.true, c.len-k-end.ensures, c.loop-k.invariant.0) in
    turned_more c.loop-k.entries.items c.into_vec-entries.result.items c.loop-k.k c.neg.result within c.loop-k.invariant
    (negated_is c.index.result.now c.neg.result c.neg.ensures ∙ ap negated_number (c.index.ensures ∙ get_or_default c.loop-k.entries.items c.loop-k.k c.index.result.now zero_frac within))

pub returns : goal.returns
returns c =
    let passed : length c.loop-k.entries.items ≤ c.loop-k.k = omega (arith, c.loop-k-test.false, c.len-k-end.ensures, c.loop-k.invariant.0) in
    array_from_parts _ (negated c.args.a) refl
    (c.from_vec.ensures ∙ turned_all c.args.a c.loop-k.entries.items c.into_vec-entries.result.items c.loop-k.k c.into_vec-entries.ensures passed c.loop-k.invariant)
