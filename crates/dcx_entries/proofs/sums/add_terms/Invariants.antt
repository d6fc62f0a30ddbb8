-- What the terms that are left give of the sum so far, all terms give of the first form.
use Rattle.dcx_atom.specs.Linear.{linear_term}
use Rattle.dcx_entries.specs.Parts.{term_part}
use Rattle.dcx_entries.specs.Standing.{args_of}
use Rattle.dcx_entries.proofs.Folds.{MadeGoOn}
use Rattle.dcx_entries.proofs.sums.add_terms.Given as goal

abbrev pub invariant-terms : goal.invariant-terms
invariant-terms g l =
    let t = g.C.Coef in
    MadeGoOn t.number_of t.sum_gives t.change_gives linear_term (term_part (args_of t.of_number l.args)) l.initial.sum l.terms l.term-index l.sum
