-- A whole number is in lowest terms and fits.
use Rattle.std.proofs.Common.{◌≡◌, ℕ, ◌<◌, ◌^◌, ◌∙◌, sym, ap, subst, rules, pos, to_z, of_z, SFits, arith}
use Rattle.std.proofs.lemmas.Int.{ints, to_z-of_z}
use native.Mathlib.Nat.{eq-one_of_dvd-one}
use mir.Syntax.{w128}
use Rattle.dcx_math.specs.Rational.{whole, ◌/ℚ◌}
use Rattle.dcx_math.specs.LowestTerms.{IsInLowestTerms}
use Rattle.dcx_math.proofs.Ratios.{ratio-is-/ℚ}
use Rattle.dcx_math.proofs.Products.{/ℚ-unique, whole-suc_positive}
use Rattle.dcx_math.proofs.Orders.{<ℚ-≢, *ℚ_idr}
use Rattle.dcx_frac.specs.Frac.{value}
use Rattle.dcx_frac.specs.Fits.{IsRepresentable, representable}
use Rattle.dcx_fold.proofs.largest.whole_number.Goals as goal

not_zero : ¬ (pos 1 ≡ pos 0)
not_zero e = absurd (omega (arith, ints, e))

lowest : (k : ℕ) → IsInLowestTerms (whole (pos k) /ℚ whole (pos 1)) (pos k) (pos 1)
lowest k = record { positive = omega (arith, ints); coprime = λ d z h. eq-one_of_dvd-one h; is = ratio-is-/ℚ (pos k) (pos 1) (omega (arith, ints)) }

over_one : (k : ℕ) → whole (pos k) /ℚ whole (pos 1) ≡ whole (pos k)
over_one k = /ℚ-unique (whole (pos k)) (whole (pos 1)) (whole (pos k)) (λ e. <ℚ-≢ (whole-suc_positive 0) (sym e)) (*ℚ_idr (whole (pos k)))

pub unwrap-requires : goal.unwrap-requires
unwrap-requires c =
    let fits : SFits w128 c.from.result = search rules in
    let read : to_z w128 (of_z w128 c.from.result) ≡ pos c.args.k = to_z-of_z w128 c.from.result fits ∙ c.from.ensures in
    let small : c.args.k < 2 ^ 32 = omega (arith, c.ranges.k.fits) in
    c.of.ensures.exists.1 (
      not_zero,
      subst (λ z. IsRepresentable (whole z /ℚ whole (pos 1))) (sym read) (representable (whole (pos c.args.k) /ℚ whole (pos 1)) (pos c.args.k) (pos 1) (lowest c.args.k) (omega arith) (omega arith)),
    )

pub returns : goal.returns
returns c =
    let fits : SFits w128 c.from.result = search rules in
    let read : to_z w128 (of_z w128 c.from.result) ≡ pos c.args.k = to_z-of_z w128 c.from.result fits ∙ c.from.ensures in
    let is : value c.unwrap.result ≡ whole (to_z w128 (of_z w128 c.from.result)) /ℚ whole (pos 1) = rw c.unwrap.ensures at c.of.ensures.value in
    is ∙ ap (λ z. whole z /ℚ whole (pos 1)) read ∙ over_one c.args.k
