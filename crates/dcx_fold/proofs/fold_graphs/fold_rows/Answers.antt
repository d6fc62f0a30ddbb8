-- The rows of one more group stand behind those so far.
use Rattle.std.proofs.Common.{ℕ, ◌++◌, ◌∙◌, ap, sym, map}
use Rattle.dcx_shape.specs.Shape.{sides_of}
use Rattle.dcx_atom.specs.Rows.{Row}
use Rattle.dcx_fold.specs.Folds.{group_rows}
use Rattle.dcx_atom.proofs.Lists.{joined_below-next}
use Rattle.dcx_fold.proofs.fold_graphs.fold_rows.Goals as goal

pub loop-entry-preserved : goal.loop-entry-preserved
loop-entry-preserved c =
    let rows = λ (k : ℕ). map (λ (row : Row). record { entry = k; row = row }) (group_rows c.args.folding.fold c.args.folding.axis (sides_of c.args.from) k) in
    c.in_ok-push_group_rows.ensures ∙ ap (λ xs. xs ++ rows c.loop-entry.entry) c.loop-entry.invariant ∙ sym (joined_below-next c.loop-entry.entry rows)
