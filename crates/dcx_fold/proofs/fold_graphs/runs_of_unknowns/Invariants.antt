-- So many groups have their form.
use Rattle.std.proofs.Common.{◌≡◌, ◌*◌, map}
use Rattle.dcx_atom.specs.Arrays.{list_below}
use Rattle.dcx_atom.specs.Graph.{form_term}
use Rattle.dcx_fold.specs.Folds.{unknowns_form}
use Rattle.dcx_fold.proofs.fold_graphs.runs_of_unknowns.Given as goal

abbrev pub invariant-loop-k : goal.invariant-loop-k
invariant-loop-k l = map (map form_term) l.forms.items ≡ list_below l.k (λ k. unknowns_form l.count (k * l.count))
