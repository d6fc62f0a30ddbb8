-- So many unknowns are listed.
use Rattle.std.proofs.Common.{◌≡◌, map}
use Rattle.dcx_atom.specs.Graph.{form_term}
use Rattle.dcx_fold.specs.Folds.{unknowns_form}
use Rattle.dcx_fold.proofs.fold_graphs.run_of_unknowns.Given as goal

abbrev pub invariant-loop-i : goal.invariant-loop-i
invariant-loop-i l = map form_term l.terms.items ≡ unknowns_form l.i l.first
