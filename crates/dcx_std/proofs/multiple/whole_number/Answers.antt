-- A number below 2 ^ 127 over 1 is representable, so the fraction is there and is the number.
use Rattle.std.proofs.Common.{◌≡◌, pos, to_z, sym, ap, ◌∙◌, subst, arith}
use Rattle.std.specs.Int.{w128}
use Rattle.std.proofs.lemmas.Int.{ints, to_z_pos}
use Rattle.dcx_math.specs.Rational.{whole, ◌/ℚ◌}
use Rattle.dcx_frac.specs.Fits.{IsRepresentable}
use Rattle.dcx_atom.specs.Formed.{frac_at}
use Rattle.dcx_atom.proofs.FormedSums.{frac_at-value}
use Rattle.dcx_std.proofs.Multiples.{whole_representable, whole_over_one}
use Rattle.dcx_std.proofs.multiple.whole_number.Goals as goal

pub unreachable-requires : goal.unreachable-requires
unreachable-requires c =
    let read : to_z w128 c.args.n ≡ pos c.args.n = to_z_pos w128 c.args.n (omega arith) in
    let h = subst (λ z. IsRepresentable (whole z /ℚ whole (pos 1))) (sym read) (whole_representable c.args.n c.requires) in
    let z = (c.in-None.ensures {u = tt}).exists.1 ((λ e. absurd (omega (arith, ints, e))), h) in cc

pub returns : goal.returns
returns c =
    let read : to_z w128 c.args.n ≡ pos c.args.n = to_z_pos w128 c.args.n (omega arith) in
    sym (frac_at-value c.in-Some.number) ∙ ap frac_at ((c.in-Some.ensures {u = tt}).value ∙ ap (λ z. whole z /ℚ whole (pos 1)) read ∙ whole_over_one c.args.n)
