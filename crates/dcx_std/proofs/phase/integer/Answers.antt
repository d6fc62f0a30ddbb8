-- A number of less than 2 ^ 127 over 1 is representable, so the fraction is there and is the number.
use Rattle.std.proofs.Common.{◌≢◌, pos, sym, ap, ◌∙◌, arith, to_z-of_z, unsigned_abs, ◌<◌, ◌^◌}
use Rattle.std.proofs.lemmas.Int.{ints}
use Rattle.dcx_math.specs.Rational.{whole}
use Rattle.dcx_frac.proofs.Representable.{representable_quotient}
use Rattle.dcx_atom.specs.Formed.{frac_at}
use Rattle.dcx_atom.proofs.FormedSums.{frac_at-value}
use Rattle.dcx_lp_answer.proofs.Fractions.{over_one}
use Rattle.dcx_std.proofs.phase.integer.Goals as goal

pub unreachable-requires : goal.unreachable-requires
unreachable-requires c =
    let f = c.ranges.number in
    let one : unsigned_abs (pos 1) < 2 ^ 127 = omega arith in
    let some : pos 1 ≢ pos 0 = λ e. absurd (omega (arith, ints, e)) in
    let h = simp to_z-of_z at c.in-None.ensures.exists in
    let z = h.1 (some, representable_quotient c.args.number (pos 1) c.requires one some) in cc

pub returns : goal.returns
returns c =
    let f = c.ranges.number in
    let v = simp to_z-of_z at c.in-Some.ensures.value in
    sym (frac_at-value c.in-Some.fraction) ∙ ap frac_at (v ∙ over_one (whole c.args.number))
