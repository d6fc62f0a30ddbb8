-- A whole number of 128 bits is a fraction over 1.
use Rattle.std.proofs.Common.{◌≡◌, ◌∙◌, sym, ap, subst, rules, pos, to_z, of_z, SFits}
use Rattle.std.proofs.lemmas.Int.{to_z-of_z}
use mir.Syntax.{w128}
use Rattle.dcx_math.specs.Rational.{whole, ◌/ℚ◌}
use Rattle.dcx_frac.specs.Frac.{value}
use Rattle.dcx_frac.specs.Fits.{IsRepresentable}
use Rattle.dcx_signature.proofs.Ranges.{one_is_some, is_fraction, frac_at-is}
use Rattle.dcx_signature.proofs.turns.whole_fraction.Goals as goal

pub unwrap-requires : goal.unwrap-requires
unwrap-requires c =
    let fits : SFits w128 c.args.number = search rules in
    let read : to_z w128 (of_z w128 c.args.number) ≡ c.args.number = to_z-of_z w128 c.args.number fits in
    c.of.ensures.exists.1 (one_is_some, subst (λ z. IsRepresentable (whole z /ℚ whole (pos 1))) (sym read) (is_fraction c.args.number c.requires))

pub returns : goal.returns
returns c =
    let fits : SFits w128 c.args.number = search rules in
    let read : to_z w128 (of_z w128 c.args.number) ≡ c.args.number = to_z-of_z w128 c.args.number fits in
    let is : value c.unwrap.result ≡ whole (to_z w128 (of_z w128 c.args.number)) /ℚ whole (pos 1) = rw c.unwrap.ensures at c.of.ensures.value in
    sym (frac_at-is c.args.number c.unwrap.result (is ∙ ap (λ z. whole z /ℚ whole (pos 1)) read))
