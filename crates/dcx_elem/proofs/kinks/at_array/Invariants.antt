-- So many entries are made.
use Rattle.std.proofs.Common.{◌≡◌, map, take}
use Rattle.dcx_frac.specs.Frac.{value}
use Rattle.dcx_elem.specs.Kinks.{kink_at}
use Rattle.dcx_elem.proofs.kinks.at_array.Given as goal

abbrev pub invariant-loop-number : goal.invariant-loop-number
invariant-loop-number l = map value l.entries.items ≡ map (λ y. kink_at l.kink (value y)) (take l.number-index l.numbers)
