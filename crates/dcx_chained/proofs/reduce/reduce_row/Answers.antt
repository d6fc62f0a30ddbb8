-- A divisor of 0 or 1 leaves the row as it is.
use Rattle.std.proofs.Common.{arith, ◌∙◌, ap, subst, unsigned_abs, map}
use Rattle.std.specs.Int.{w128}
use Rattle.std.proofs.lemmas.Int.{ints, fits_signed_from_abs, to_z_pos}
use Prim.Native.Nat.{◌∣◌}
use Rattle.dcx_math.specs.Divisors.{divided, gcd_of}
use Rattle.dcx_tab.proofs.LineSteps.{gcd_of-below, primitive_same}
use Rattle.dcx_tab.proofs.RowLaws.{gcd_of-dvd_entry}
use Rattle.dcx_links.specs.Matrix.{row_of}
use Rattle.dcx_chained.proofs.RowReads.{entry-row_of}
use Rattle.dcx_chained.proofs.Divisors.{divided_row}
use Rattle.dcx_chained.proofs.reduce.reduce_row.Goals as goal

pub overflow_cast-found : goal.overflow_cast-found
overflow_cast-found c = fits_signed_from_abs w128 _ (rw c.row_divisor-found.ensures (gcd_of-below _ _ (omega arith) c.requires.small))

pub divide-requires-clause-positive : goal.divide-requires-clause-positive
divide-requires-clause-positive c =
    let e = to_z_pos w128 c.row_divisor-found.result (rw c.row_divisor-found.ensures (gcd_of-below _ _ (omega arith) c.requires.small)) in
    let g = c.if-found-gt1.true in
    rw e (omega (arith, ints, g))

pub divide-requires-clause-divides : goal.divide-requires-clause-divides
divide-requires-clause-divides c = λ k lt.
    let m = c.args.links.now in
    let row = row_of m c.args.i in
    let e = to_z_pos w128 c.row_divisor-found.result (rw c.row_divisor-found.ensures (gcd_of-below _ _ (omega arith) c.requires.small)) in
    rw (e, c.row_divisor-found.ensures) (subst (λ z. gcd_of row ∣ unsigned_abs z) (entry-row_of m c.args.i k lt) (gcd_of-dvd_entry row k))

pub returns-then-found-gt1-clause-row : goal.returns-then-found-gt1-clause-row
returns-then-found-gt1-clause-row c =
    let m = c.args.links.now in
    let row = row_of m c.args.i in
    let e = to_z_pos w128 c.row_divisor-found.result (rw c.row_divisor-found.ensures (gcd_of-below _ _ (omega arith) c.requires.small)) in
    let d = ap unsigned_abs e ∙ c.row_divisor-found.ensures in
    divided_row m c.divide.new.self c.args.i _ c.divide.ensures.width c.divide.ensures.there ∙ ap (λ n. map (divided n) row) d

pub returns-else-found-gt1-clause-row : goal.returns-else-found-gt1-clause-row
returns-else-found-gt1-clause-row c = let g = c.if-found-gt1.false in let e = c.row_divisor-found.ensures in primitive_same (row_of c.args.links.now c.args.i) (omega (arith, g, e))
