-- The number so far, mixed with the fractions that are left, is that of all fractions.
use Rattle.std.proofs.Common.{◌≡◌, drop}
use Rattle.dcx_call.specs.Buckets.{fractions_mixed}
use Rattle.dcx_call.proofs.buckets.numbers_number.Given as goal

abbrev pub invariant-loop-x : goal.invariant-loop-x
invariant-loop-x l = fractions_mixed l.n (drop l.x-index l.numbers) ≡ fractions_mixed 0 l.numbers
