-- The slopes by groups are put in order.
use Rattle.std.proofs.Common.{◌*◌, ◌∙◌, ap, length, map}
use Rattle.dcx_shape.specs.Shape.{sides_of}
use Rattle.dcx_frac.specs.Frac.{value}
use Rattle.dcx_atom.specs.Axis.{folded_count}
use Rattle.dcx_fold.proofs.FoldSlopes.{fold_weights, by_group_counted, fold_slopes_are}
use Rattle.dcx_fold.proofs.fold_slopes.fold_slopes.Goals as goal

pub slopes_by_group-requires-clause-weights : goal.slopes_by_group-requires-clause-weights
slopes_by_group-requires-clause-weights c = fold_weights c.args.folding.fold c.args.folding.axis (sides_of c.args.from) c.args.size c.args.weights.now c.requires.weights

pub by_entry-requires : goal.by_entry-requires
by_entry-requires c =
    ap length c.as_slice.ensures.value
    ∙ by_group_counted c.args.folding.fold c.args.folding.axis (sides_of c.args.from) c.args.size c.args.weights.now c.in_ok-slopes.slopes.items c.in_ok-slopes.ensures.slopes
    ∙ ap (λ k. k * folded_count c.args.folding.axis (sides_of c.args.from)) c.requires.size

pub returns-in-Ok-clause-ok : goal.returns-in-Ok-clause-ok
returns-in-Ok-clause-ok c =
    fold_slopes_are c.args.folding.fold c.args.folding.axis (sides_of c.args.from) c.args.size c.args.coefficients.now c.args.weights.now c.as_slice.result.now c.in-Ok.ordered c.requires.size
    c.in_ok-slopes.ensures.ok (ap (map value) c.as_slice.ensures.value ∙ c.in_ok-slopes.ensures.slopes) c.in-Ok.ensures
