-- The common divisor of 1 and any number is 1.
use Rattle.std.proofs.Common.{rules, ◌≡◌, pos, unsigned_abs, sym, ap, ap₂, ◌∙◌, to_z, to_z-of_z, SFits}
use Rattle.std.specs.Int.{w128}
use native.Mathlib.Nat.{eq-one_of_dvd-one}
use Rattle.dcx_math.specs.Divisors.{gcd, divided}
use Rattle.dcx_math.proofs.Divisors.{gcd-dvd_left}
use Rattle.dcx_math.proofs.Divisors.{divided-one}
use Rattle.dcx_chained.proofs.factors.least_factors.Goals as goal

pub returns-then-p-eq1-clause-row : goal.returns-then-p-eq1-clause-row
returns-then-p-eq1-clause-row c =
    let f : SFits w128 c.args.p = search rules in
    let e : c.args.p ≡ pos 1 = sym (to_z-of_z f) ∙ ap (to_z w128) c.if-p-eq1.true in
    let g : gcd (unsigned_abs c.args.p) (unsigned_abs c.args.a) ≡ 1 = ap (λ z. gcd (unsigned_abs z) (unsigned_abs c.args.a)) e ∙ eq-one_of_dvd-one (gcd-dvd_left 1 (unsigned_abs c.args.a)) in
    sym (ap₂ divided g e)

pub returns-then-p-eq1-clause-by : goal.returns-then-p-eq1-clause-by
returns-then-p-eq1-clause-by c =
    let f : SFits w128 c.args.p = search rules in
    let h : SFits w128 c.args.a = search rules in
    let e : c.args.p ≡ pos 1 = sym (to_z-of_z f) ∙ ap (to_z w128) c.if-p-eq1.true in
    let g : gcd (unsigned_abs c.args.p) (unsigned_abs c.args.a) ≡ 1 = ap (λ z. gcd (unsigned_abs z) (unsigned_abs c.args.a)) e ∙ eq-one_of_dvd-one (gcd-dvd_left 1 (unsigned_abs c.args.a)) in
    simp to_z-of_z (sym (ap (λ g. divided g c.args.a) g ∙ divided-one c.args.a))
