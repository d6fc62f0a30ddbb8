-- What the terms that are left give of the sum so far, all terms give of the first form.
use Rattle.dcx_atom.specs.Graph.{form_term}
use Rattle.dcx_entries.specs.Parts.{aux_part}
use Rattle.dcx_entries.proofs.Folds.{MadeGoOn}
use Rattle.dcx_entries.proofs.sums.add_result.Given as goal

abbrev pub invariant-terms : goal.invariant-terms
invariant-terms g l =
    let t = g.C.Coef in
    MadeGoOn t.number_of t.sum_gives t.change_gives form_term (aux_part t.of_number l.first) l.initial.sum l.terms l.term-index l.sum
