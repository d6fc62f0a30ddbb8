-- There are so many places without an array as there were turns.
use Rattle.std.proofs.Common.{◌≡◌, None, replicate}
use Rattle.dcx_cert_rays.proofs.table.no_arrays.Given as goal

abbrev pub invariant-loop : goal.invariant-loop
invariant-loop l = l.arrays.items ≡ replicate l.counter None
