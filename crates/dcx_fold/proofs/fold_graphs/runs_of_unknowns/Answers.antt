-- The form of one more group is listed.
use Rattle.std.proofs.Common.{◌*◌, ◌∙◌, ap, map}
use Rattle.dcx_atom.specs.Graph.{form_term}
use Rattle.dcx_atom.proofs.Lists.{list_below-push}
use Rattle.dcx_fold.specs.Folds.{unknowns_form}
use Rattle.dcx_fold.proofs.fold_graphs.runs_of_unknowns.Goals as goal

pub loop-k-preserved : goal.loop-k-preserved
loop-k-preserved c =
    ap (map (map form_term)) c.in_ok-push.ensures.items
    ∙ list_below-push c.loop-k.k (λ k. unknowns_form c.args.count (k * c.args.count))
    (map form_term) c.loop-k.forms.items c.in_ok-run_of_unknowns.field-0 c.loop-k.invariant c.in_ok-run_of_unknowns.ensures
