-- A common divisor of a positive number is positive, and fits.
use Rattle.std.proofs.Common.{arith, ◌≡◌, pos, ap, ap₂, ◌∙◌, to_z-of_z, unsigned_abs}
use Rattle.std.specs.Int.{w128}
use Rattle.std.proofs.lemmas.Int.{ints, fits_signed_from_abs, to_z_pos}
use Rattle.dcx_math.specs.Divisors.{gcd}
use Rattle.dcx_tab.proofs.LineSteps.{shared-pos, shared-below, positive-small}
use Rattle.dcx_chained.proofs.factors.shared_by.Goals as goal

value : (c : goal.After-gcd) → c.gcd.result ≡ gcd (unsigned_abs c.args.p) (unsigned_abs c.args.a)
value c =
    let fp = c.ranges.p in
    let fa = c.ranges.a in
    c.gcd.ensures ∙ ap₂ gcd (simp to_z-of_z at c.unsigned_abs.ensures.value) (simp to_z-of_z at c.unsigned_abs-2.ensures.value)

pub overflow_cast-result : goal.overflow_cast-result
overflow_cast-result c = fits_signed_from_abs w128 _ (rw (value c) (shared-below c.args.p c.args.a _ c.requires (positive-small c.args.p c.requires c.ranges.p)))

pub returns-clause-divisor : goal.returns-clause-divisor
returns-clause-divisor c = to_z_pos w128 c.gcd.result (rw (value c) (shared-below c.args.p c.args.a _ c.requires (positive-small c.args.p c.requires c.ranges.p))) ∙ ap pos (value c)

pub returns-clause-positive : goal.returns-clause-positive
returns-clause-positive c =
    let q = shared-pos c.args.p c.args.a c.requires in
    rw (to_z_pos w128 c.gcd.result (rw (value c) (shared-below c.args.p c.args.a _ c.requires (positive-small c.args.p c.requires c.ranges.p))), value c) (omega (arith, ints))
