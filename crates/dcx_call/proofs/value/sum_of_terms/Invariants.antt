-- The sum so far is that of the terms passed.
use Rattle.std.proofs.Common.{◌≡◌, Ok, take, map}
use Rattle.dcx_atom.specs.Arrays.{numbers_of}
use Rattle.dcx_atom.specs.Formed.{zero_frac}
use Rattle.dcx_atom.specs.Linear.{linear_term}
use Rattle.dcx_call.specs.Forming.{products_from, factors_at}
use Rattle.dcx_call.proofs.value.sum_of_terms.Given as goal

abbrev pub invariant-loop-term : goal.invariant-loop-term
invariant-loop-term l =
    products_from zero_frac (take l.term-index (map factors_at (map (λ t. (t.coefficient, numbers_of l.args t.argument t.entry)) (map linear_term l.terms)))) ≡ Ok l.sum
