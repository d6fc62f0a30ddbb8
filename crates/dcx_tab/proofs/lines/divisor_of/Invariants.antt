-- The divisor so far is that of the last entries.
use Rattle.std.proofs.Common.{◌≡◌, ◌≤◌, drop, length}
use Rattle.dcx_math.specs.Divisors.{gcd_of}
use Rattle.dcx_tab.proofs.lines.divisor_of.Given as goal

abbrev pub invariant-entries : goal.invariant-entries
invariant-entries l = record { within : l.rest ≤ length l.row; found : l.found ≡ gcd_of (drop l.rest l.row) }

abbrev pub decreases-entries : goal.decreases-entries
decreases-entries l = l.rest
