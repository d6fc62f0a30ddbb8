-- The sum so far is that of the pairs passed.
use Rattle.std.proofs.Common.{◌≡◌, Ok, take, map}
use Rattle.dcx_atom.specs.Arrays.{number_at}
use Rattle.dcx_atom.specs.Formed.{zero_frac}
use Rattle.dcx_call.specs.Forming.{products_from, factors_at}
use Rattle.dcx_call.proofs.value.sum_of_pairs.Given as goal

abbrev pub invariant-loop-pair : goal.invariant-loop-pair
invariant-loop-pair l =
    products_from zero_frac (take l.pair-index (map factors_at (map (λ p. (number_at l.left p.left, number_at l.right p.right)) l.pairs))) ≡ Ok l.sum
