-- 1 / n is in lowest terms and fits.
use Rattle.std.proofs.Common.{◌≡◌, ℕ, ◌<◌, ◌^◌, ◌∙◌, sym, ap, subst, rules, pos, to_z, of_z, SFits, arith}
use Rattle.std.proofs.lemmas.Int.{ints, to_z-of_z}
use mir.Syntax.{w128}
use Rattle.dcx_math.specs.Rational.{whole, ◌/ℚ◌}
use Rattle.dcx_atom.specs.Frac.{value}
use Rattle.dcx_atom.specs.Fits.{IsRepresentable}
use Rattle.dcx_affine.proofs.Reciprocals.{reciprocal_fits, reciprocal_is}
use Rattle.dcx_affine.proofs.sums.reciprocal.Goals as goal

positive : (n : ℕ) → 0 < n → ¬ (pos n ≡ pos 0)
positive n some e = absurd (omega (arith, ints, e))

pub unwrap-requires : goal.unwrap-requires
unwrap-requires c =
    let fits : SFits w128 c.from.result = search rules in
    let read : to_z w128 (of_z w128 c.from.result) ≡ pos c.args.n = to_z-of_z w128 c.from.result fits ∙ c.from.ensures in
    let small : c.args.n < 2 ^ 32 = omega (arith, c.ranges.n.fits) in
    c.of.ensures.exists.1 (
      (λ e. positive c.args.n c.requires (sym read ∙ e)),
      subst (λ z. IsRepresentable (whole (pos 1) /ℚ whole z)) (sym read) (reciprocal_fits c.args.n c.requires small),
    )

pub returns : goal.returns
returns c =
    let fits : SFits w128 c.from.result = search rules in
    let read : to_z w128 (of_z w128 c.from.result) ≡ pos c.args.n = to_z-of_z w128 c.from.result fits ∙ c.from.ensures in
    let is : value c.unwrap.result ≡ whole (pos 1) /ℚ whole (to_z w128 (of_z w128 c.from.result)) = rw c.unwrap.ensures at c.of.ensures.value in
    is ∙ ap (λ z. whole (pos 1) /ℚ whole z) read ∙ reciprocal_is c.args.n
