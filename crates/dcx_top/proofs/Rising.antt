-- A count of faults that rose in a part of a run rose in the run.
use Rattle.std.proofs.Common.{ℕ, ◌≤◌, arith}
use Rattle.dcx_host.specs.Faults.{Rose}

pub rose_before : (a b c : ℕ) → Rose a b → b ≤ c → Rose a c
rose_before a b c h le = omega (arith, h, le)

pub rose_behind : (a b c : ℕ) → a ≤ b → Rose b c → Rose a c
rose_behind a b c le h = omega (arith, h, le)
