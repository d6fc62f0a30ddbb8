-- The least factors of the row and of the turned row.
use Rattle.std.proofs.Common.{rules, arith, ◌-ℤ◌, ◌<ℤ◌, pos, unsigned_abs, refl, to_z-of_z, SFits}
use Rattle.std.specs.Int.{w128}
use Rattle.std.proofs.lemmas.Int.{ints, fits_signed_from_abs}
use Rattle.dcx_math.specs.Divisors.{gcd}
use Rattle.dcx_tab.proofs.LineSteps.{abs-zero-minus}
use Rattle.dcx_chained.proofs.Signs.{clears_positive, clears_negative, is_negative, small_quotient, some_factor}
use Rattle.dcx_chained.proofs.factors.factors_of.Goals as goal

pub least_factors-requires : goal.least_factors-requires
least_factors-requires c =
    let f : SFits w128 c.args.p = search rules in
    let h = c.if-p-gt0.true in
    grind (arith, ints)

pub returns-then-p-gt0-clause-some : goal.returns-then-p-gt0-clause-some
returns-then-p-gt0-clause-some c =
    let f : SFits w128 c.args.p = search rules in
    let g : SFits w128 c.args.a = search rules in
    let h = c.if-p-gt0.true in
    let positive : pos 0 <ℤ c.args.p = grind (arith, ints) in
    some_factor c.args.p c.args.a c.least_factors.result.row positive (simp to_z-of_z at c.least_factors.ensures.row)

pub returns-then-p-gt0-clause-clears : goal.returns-then-p-gt0-clause-clears
returns-then-p-gt0-clause-clears c = λ column pivot row is_p is_a.
    let f : SFits w128 c.args.p = search rules in
    let g : SFits w128 c.args.a = search rules in
    let h = c.if-p-gt0.true in
    let positive : pos 0 <ℤ c.args.p = grind (arith, ints) in
    clears_positive column pivot row c.args.p c.args.a c.least_factors.result.row c.least_factors.result.by positive is_p is_a (simp to_z-of_z at c.least_factors.ensures.row)
    (simp to_z-of_z at c.least_factors.ensures.by)

pub overflow_sub-p : goal.overflow_sub-p
overflow_sub-p c =
    let f : SFits w128 c.args.p = search rules in
    let e = abs-zero-minus c.args.p in
    let s = c.requires.small_pivot in
    simp to_z-of_z (fits_signed_from_abs w128 (pos 0 -ℤ c.args.p) (omega (arith, e, s)))

pub least_factors-factors-requires : goal.least_factors-factors-requires
least_factors-factors-requires c =
    let f : SFits w128 c.args.p = search rules in
    let h = c.if-p-gt0.false in
    let n : c.args.p <ℤ pos 0 = is_negative c.args.p c.requires.some (grind (arith, ints)) in
    let e = abs-zero-minus c.args.p in
    let s = c.requires.small_pivot in
    let q : SFits w128 (pos 0 -ℤ c.args.p) = fits_signed_from_abs w128 (pos 0 -ℤ c.args.p) (omega (arith, e, s)) in
    simp to_z-of_z (omega (arith, ints, n))

pub overflow_sub-result : goal.overflow_sub-result
overflow_sub-result c =
    let f : SFits w128 c.args.p = search rules in
    let g : SFits w128 c.args.a = search rules in
    let b : SFits w128 c.least_factors-factors.result.by = search rules in
    let e = abs-zero-minus c.args.p in
    let s = c.requires.small_pivot in
    let q : SFits w128 (pos 0 -ℤ c.args.p) = fits_signed_from_abs w128 (pos 0 -ℤ c.args.p) (omega (arith, e, s)) in
    let is_b = simp to_z-of_z at c.least_factors-factors.ensures.by in
    let small = small_quotient (gcd (unsigned_abs (pos 0 -ℤ c.args.p)) (unsigned_abs c.args.a)) c.args.a c.least_factors-factors.result.by is_b c.requires.small in
    let m = abs-zero-minus c.least_factors-factors.result.by in
    simp to_z-of_z (fits_signed_from_abs w128 (pos 0 -ℤ c.least_factors-factors.result.by) (omega (arith, m, small)))

pub returns-clause-some : goal.returns-clause-some
returns-clause-some c =
    let f : SFits w128 c.args.p = search rules in
    let g : SFits w128 c.args.a = search rules in
    let h = c.if-p-gt0.false in
    let n : c.args.p <ℤ pos 0 = is_negative c.args.p c.requires.some (grind (arith, ints)) in
    let r : SFits w128 c.least_factors-factors.result.row = search rules in
    let e = abs-zero-minus c.args.p in
    let s = c.requires.small_pivot in
    let q : SFits w128 (pos 0 -ℤ c.args.p) = fits_signed_from_abs w128 (pos 0 -ℤ c.args.p) (omega (arith, e, s)) in
    let is_r = simp to_z-of_z at c.least_factors-factors.ensures.row in
    simp to_z-of_z (some_factor (pos 0 -ℤ c.args.p) c.args.a c.least_factors-factors.result.row (omega (arith, ints, n)) is_r)

pub returns-clause-clears : goal.returns-clause-clears
returns-clause-clears c = λ column pivot row is_p is_a.
    let f : SFits w128 c.args.p = search rules in
    let g : SFits w128 c.args.a = search rules in
    let h = c.if-p-gt0.false in
    let n : c.args.p <ℤ pos 0 = is_negative c.args.p c.requires.some (grind (arith, ints)) in
    let b : SFits w128 c.least_factors-factors.result.by = search rules in
    let r : SFits w128 c.least_factors-factors.result.row = search rules in
    let e = abs-zero-minus c.args.p in
    let s = c.requires.small_pivot in
    let q : SFits w128 (pos 0 -ℤ c.args.p) = fits_signed_from_abs w128 (pos 0 -ℤ c.args.p) (omega (arith, e, s)) in
    let is_r = simp to_z-of_z at c.least_factors-factors.ensures.row in
    let is_b = simp to_z-of_z at c.least_factors-factors.ensures.by in
    let small = small_quotient (gcd (unsigned_abs (pos 0 -ℤ c.args.p)) (unsigned_abs c.args.a)) c.args.a c.least_factors-factors.result.by is_b c.requires.small in
    let m = abs-zero-minus c.least_factors-factors.result.by in
    let t : SFits w128 (pos 0 -ℤ c.least_factors-factors.result.by) = fits_signed_from_abs w128 (pos 0 -ℤ c.least_factors-factors.result.by) (omega (arith, m, small)) in
    simp to_z-of_z (clears_negative column pivot row c.args.p (pos 0 -ℤ c.args.p) c.args.a c.least_factors-factors.result.row (pos 0 -ℤ c.least_factors-factors.result.by)
    c.least_factors-factors.result.by n refl is_p is_a is_r is_b refl)
