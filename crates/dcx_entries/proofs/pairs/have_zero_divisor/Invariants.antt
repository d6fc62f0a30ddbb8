-- None of the pairs so far is divided by 0.
use Rattle.std.proofs.Common.{◌≡◌, false, take}
use Rattle.std.specs.List.{list_any}
use Rattle.dcx_entries.specs.Parts.{has_zero_divisor}
use Rattle.dcx_entries.specs.Standing.{args_of}
use Rattle.dcx_entries.proofs.pairs.have_zero_divisor.Given as goal

abbrev pub invariant-pairs : goal.invariant-pairs
invariant-pairs g l = list_any (has_zero_divisor g.C.Coef.number_of l.scaling (args_of g.C.Coef.of_number l.args)) (take l.pair-index l.pairs) ≡ false
