-- What the pairs that are left give of the sum so far, all pairs give of the first form.
use Rattle.dcx_entries.specs.Sums.{adds_pair}
use Rattle.dcx_entries.specs.Standing.{args_of}
use Rattle.dcx_entries.proofs.Folds.{GoesOn}
use Rattle.dcx_entries.proofs.pairs.add_pairs.Given as goal

abbrev pub invariant-pairs : goal.invariant-pairs
invariant-pairs g l =
    let t = g.C.Coef in
    GoesOn (adds_pair t.number_of t.sum_gives t.change_gives l.scaling (args_of t.of_number l.args)) l.initial.sum l.pairs l.pair-index l.sum
