-- A quotient of numbers up to 10^30 fits in 128 bits, so there is always one.
use Rattle.std.proofs.Common.{◌≡◌, ◌≢◌, ◌<◌, ◌^◌, pos, arith, subst, IsSome}
use Rattle.std.proofs.lemmas.Int.{ints, to_z_pos}
use Rattle.std.specs.Int.{w128}
use Rattle.dcx_frac.proofs.Representable.{representable_quotient}
use Rattle.dcx_tokens.proofs.number.quotient.Goals as goal

pub unreachable-requires : goal.unreachable-requires
unreachable-requires c =
    let n = c.args.num in
    let d = c.args.den in
    let num_fits : n < 2 ^ 127 = omega arith in
    let den_fits : d < 2 ^ 127 = omega arith in
    let exists = rw (to_z_pos w128 n num_fits, to_z_pos w128 d den_fits) at c.of.ensures.exists in
    let some : pos d ≢ pos 0 = λ e. let z : d ≡ 0 = omega (arith, ints) in absurd (omega arith) in
    let r = representable_quotient (pos n) (pos d) num_fits den_fits some in
    let is = exists.1 (some, r) in
    let none = subst IsSome c.in-None.is is in
    cc
