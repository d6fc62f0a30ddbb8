-- A quotient of numbers that fit is a fraction.
use Rattle.std.proofs.Common.{to_z-of_z}
use Rattle.dcx_math.proofs.IntegerLaws.{positive_some}
use Rattle.dcx_frac.proofs.Representable.{representable_quotient}
use Rattle.dcx_simplex.proofs.read.quotient.Goals as goal

pub unreachable-requires : goal.unreachable-requires
unreachable-requires c =
    let fn = c.ranges.num in
    let fd = c.ranges.den in
    let h = simp to_z-of_z at c.in-None.ensures.exists in
    let some = positive_some c.args.den c.requires.positive in
    let z = h.1 (some, representable_quotient c.args.num c.args.den c.requires.num c.requires.den some) in
    cc
