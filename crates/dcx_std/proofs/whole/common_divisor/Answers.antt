-- One more number is taken into the divisor.
use Rattle.std.proofs.Common.{rules, ◌+◌, drop, sym, ap, ◌∙◌, arith, pos, slice_index_or, SFits, to_z-of_z}
use Rattle.std.specs.Int.{w128}
use native.Mathlib.Nat.{eq-one_of_dvd-one}
use Rattle.dcx_math.specs.Divisors.{gcd, gcd_of}
use Rattle.dcx_math.proofs.Divisors.{gcd-dvd_left}
use Rattle.dcx_std.proofs.WholeRows.{gcd_first, gcd_next, gcd_last}
use Rattle.dcx_std.proofs.whole.common_divisor.Goals as goal

pub numbers-init : goal.numbers-init
numbers-init c = gcd_first c.args.numbers.now

pub numbers-preserved : goal.numbers-preserved
numbers-preserved c =
    let xs = c.args.numbers.now in
    let j = c.numbers.number-index in
    let fx : SFits w128 (slice_index_or xs j (pos 0)) = search rules in
    let v = simp to_z-of_z at c.unsigned_abs.ensures.value in
    ap (λ g. gcd g (gcd_of (drop (j + 1) xs))) (c.gcd-found.ensures ∙ ap (gcd c.numbers.found) v) ∙ gcd_next c.numbers.found xs j (omega arith) ∙ c.numbers.invariant

pub returns : goal.returns
returns c = sym (gcd_last c.numbers.found c.args.numbers.now c.numbers.number-index (omega arith)) ∙ c.numbers.invariant

pub returns-then-found-eq1 : goal.returns-then-found-eq1
returns-then-found-eq1 c =
    let xs = c.args.numbers.now in
    let j = c.numbers.number-index in
    let fx : SFits w128 (slice_index_or xs j (pos 0)) = search rules in
    let v = simp to_z-of_z at c.unsigned_abs.ensures.value in
    let rest = gcd_of (drop (j + 1) xs) in
    let all = ap (λ g. gcd g rest) (c.gcd-found.ensures ∙ ap (gcd c.numbers.found) v) ∙ gcd_next c.numbers.found xs j (omega arith) ∙ c.numbers.invariant in
    sym (eq-one_of_dvd-one (gcd-dvd_left 1 rest)) ∙ ap (λ g. gcd g rest) (sym c.if-found-eq1.true) ∙ all
