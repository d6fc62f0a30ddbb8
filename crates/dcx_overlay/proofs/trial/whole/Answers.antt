-- A number of 32 bits over 1 is representable, so the fraction is there and is the number.
use Rattle.std.proofs.Common.{◌≡◌, pos, to_z, sym, ap, ◌∙◌, subst, arith}
use Rattle.std.specs.Int.{w128}
use Rattle.std.proofs.lemmas.Int.{to_z_pos}
use Rattle.dcx_math.specs.Rational.{whole, ◌/ℚ◌}
use Rattle.dcx_frac.specs.Fits.{IsRepresentable}
use Rattle.dcx_frac.proofs.Integers.{over_unit}
use Rattle.dcx_overlay.proofs.Wholes.{one_is_some, small_is_fraction}
use Rattle.dcx_overlay.proofs.trial.whole.Goals as goal

pub returns : goal.returns
returns c =
    let read : to_z w128 c.args.number ≡ pos c.args.number = to_z_pos w128 c.args.number (omega arith) in
    c.in-Some.ensures.value ∙ ap (λ z. whole z /ℚ whole (pos 1)) read ∙ over_unit (pos c.args.number)

pub unreachable-requires : goal.unreachable-requires
unreachable-requires c =
    let read : to_z w128 c.args.number ≡ pos c.args.number = to_z_pos w128 c.args.number (omega arith) in
    let h = subst (λ z. IsRepresentable (whole z /ℚ whole (pos 1))) (sym read) (small_is_fraction c.args.number c.ranges.number.fits) in
    let z = c.in-None.ensures.exists.1 (one_is_some, h) in absurd cc
