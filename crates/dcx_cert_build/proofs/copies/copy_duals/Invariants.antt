-- The arrays so far are copied.
use Rattle.std.proofs.Common.{◌≡◌, take}
use Rattle.dcx_cert_build.proofs.copies.copy_duals.Given as goal

abbrev pub invariant-arrays : goal.invariant-arrays
invariant-arrays l = l.copies.items ≡ take l.array-index l.array-items
