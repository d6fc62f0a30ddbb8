-- The next entry is compared with the farthest so far.
use Rattle.std.proofs.Common.{◌∙◌, sym, ap}
use Rattle.dcx_frac.specs.Frac.{value}
use Rattle.dcx_atom.specs.Arrays.{number_at}
use Rattle.dcx_atom.specs.Farthest.{farther}
use Rattle.dcx_atom.proofs.Lists.{one_farther}
use Rattle.dcx_elem.proofs.ExtremeSteps.{entry_is}
use Rattle.dcx_elem.proofs.extremes.farthest.Goals as goal

pub loop-other-preserved : goal.loop-other-preserved
loop-other-preserved c =
    let place = c.args.place in
    let others = c.args.others.now in
    let i = c.loop-other.other-index in
    let y = c.other-item.result in
    let here = entry_is others i place y c.as_slice.result.now c.index-as_slice-place.result c.requires c.loop-other-test.true c.other-item.is c.as_slice.ensures c.index-as_slice-place.is in
    c.farther_of-far.ensures ∙ ap (λ x. farther c.args.bend x (value c.index-as_slice-place.result)) c.loop-other.invariant
    ∙ ap (farther c.args.bend _) here
    ∙ sym (one_farther c.args.bend (value c.args.first) (λ x. number_at x.entries place) others i y c.loop-other-test.true c.other-item.is)
