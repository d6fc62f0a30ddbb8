-- The numbers so far are divided.
use Rattle.std.proofs.Common.{◌≡◌, map, take, unsigned_abs}
use Rattle.dcx_math.specs.Divisors.{divided}
use Rattle.dcx_std.proofs.whole.quotients.Given as goal

abbrev pub invariant-numbers : goal.invariant-numbers
invariant-numbers l = l.quotients.items ≡ map (divided (unsigned_abs l.by)) (take l.number-index l.numbers)
