-- The sum so far is that of the numbers passed.
use Rattle.std.proofs.Common.{◌≡◌, Ok, take}
use Rattle.dcx_atom.specs.Formed.{zero_frac, sum_from}
use Rattle.dcx_atom.proofs.forming.sum_all.Given as goal

abbrev pub invariant-loop-number : goal.invariant-loop-number
invariant-loop-number l = sum_from zero_frac (take l.number-index l.numbers) ≡ Ok l.sum
