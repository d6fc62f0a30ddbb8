-- The number so far, mixed with the bytes that are left, is that of the whole name.
use Rattle.std.proofs.Common.{◌≡◌, drop}
use Rattle.dcx_call.specs.Buckets.{all_mixed}
use Rattle.dcx_call.proofs.buckets.name_number.Given as goal

abbrev pub invariant-loop-byte : goal.invariant-loop-byte
invariant-loop-byte l = all_mixed l.n (drop l.byte-index l.name) ≡ all_mixed 0 l.name
