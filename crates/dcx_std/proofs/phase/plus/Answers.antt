-- A sum with 0 is the other number, which fits.
use Rattle.std.proofs.Common.{◌≡◌, Ok, inl, inr, pos, refl, sym, ap, ◌∙◌, subst, to_z, to_z-of_z, SFits, unsigned_abs, ◌<◌, ◌^◌}
use Rattle.std.specs.Int.{w128}
use Rattle.dcx_math.specs.Rational.{whole, ◌+ℚ◌}
use Rattle.dcx_math.proofs.Orders.{+ℚ_idr}
use Rattle.dcx_frac.specs.Frac.{value}
use Rattle.dcx_frac.proofs.Parts.{value_representable}
use Rattle.dcx_frac.proofs.Results.{is_sum_of}
use Rattle.dcx_frac.specs.Fits.{IsRepresentable}
use Rattle.dcx_atom.specs.Formed.{frac_at, zero_frac}
use Rattle.dcx_atom.proofs.Fractions.{value-frac_at}
use Rattle.dcx_atom.proofs.FormedSums.{value-zero_frac}
use Rattle.dcx_std.proofs.phase.plus.Goals as goal

pub returns-then-number-eq0 : goal.returns-then-number-eq0
returns-then-number-eq0 c =
    let x = c.args.sum in
    let y = frac_at (whole c.args.number) in
    let f : SFits w128 c.args.number = c.ranges.number in
    let e : c.args.number ≡ pos 0 = sym (to_z-of_z f) ∙ ap (to_z w128) c.if-number-eq0.true in
    let zero : value y ≡ whole (pos 0) = ap (λ z. value (frac_at (whole z))) e ∙ value-frac_at (whole (pos 0)) (subst IsRepresentable value-zero_frac (value_representable zero_frac)) in
    is_sum_of x y (Ok x) (record { exact = sym (ap (λ q. value x +ℚ q) zero ∙ +ℚ_idr (value x)); fits = ((λ s. inr (inl zero)), (λ k. refl)); told = tt })
