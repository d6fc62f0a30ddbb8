-- The next slope is the weight of its argument's row in its entry.
use Rattle.std.proofs.Common.{◌<◌, ◌+◌, ◌*◌, ◌/◌, ◌%◌, ◌∙◌, sym, ap, map, length, subst}
use Rattle.dcx_frac.specs.Frac.{value}
use Rattle.dcx_atom.specs.Arrays.{number_at}
use Rattle.dcx_atom.specs.Bounding.{outward}
use Rattle.dcx_atom.proofs.Lists.{number_is, list_below-push}
use Rattle.dcx_elem.proofs.ExtremeSteps.{spot_within}
use Rattle.dcx_elem.proofs.extremes.by_argument.Goals as goal

pub loop-place-preserved : goal.loop-place-preserved
loop-place-preserved c =
    let bend = c.args.extreme.bend in
    let count = c.args.extreme.count in
    let n = c.args.size in
    let ws = c.args.weights.now in
    let p = c.loop-place.place in
    let x = c.index-weights-entry.result in
    let b : p % n * count + p / n < length ws = subst (λ k. p % n * count + p / n < k) (sym c.requires.weights) (spot_within p n count c.requires.some c.loop-place-test.true) in
    ap (map value) c.in_ok-push.ensures.items
    ∙ list_below-push p (λ p. outward bend (number_at ws (p % n * count + p / n))) value c.loop-place.slopes.items c.outward_of.result c.loop-place.invariant
    (c.outward_of.ensures ∙ ap (outward bend) (number_is ws (p % n * count + p / n) x b c.index-weights-entry.is))
