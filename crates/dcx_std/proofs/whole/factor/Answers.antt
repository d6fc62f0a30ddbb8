-- A quotient of positive numbers below 2 ^ 127 is representable, so the fraction is there.
use Rattle.std.proofs.Common.{sym, ap, ◌∙◌, to_z-of_z}
use Rattle.dcx_math.proofs.IntegerLaws.{positive_some}
use Rattle.dcx_frac.proofs.Representable.{representable_quotient}
use Rattle.dcx_tab.proofs.LineSteps.{positive-small}
use Rattle.dcx_atom.specs.Formed.{frac_at}
use Rattle.dcx_atom.proofs.FormedSums.{frac_at-value}
use Rattle.dcx_std.proofs.whole.factor.Goals as goal

pub unreachable-requires : goal.unreachable-requires
unreachable-requires c =
    let fm = c.ranges.multiple in
    let fd = c.ranges.divisor in
    let h = simp to_z-of_z at c.in-None.ensures.exists in
    let some = positive_some c.args.divisor c.requires.divisor in
    let z = h.1 (some, representable_quotient c.args.multiple c.args.divisor (positive-small c.args.multiple c.requires.multiple fm) (positive-small c.args.divisor c.requires.divisor fd) some) in cc

pub returns : goal.returns
returns c =
    let fm = c.ranges.multiple in
    let fd = c.ranges.divisor in
    let v = simp to_z-of_z at c.in-Some.ensures.value in
    sym (frac_at-value c.in-Some.factor) ∙ ap frac_at v
