-- The next group is folded, or stops.
use Rattle.std.proofs.Common.{◌∙◌, ap, map, below_more, rules}
use Rattle.std.proofs.lemmas.Result.{err_from_is_err_and}
use Rattle.dcx_frac.specs.Frac.{value}
use Rattle.dcx_shape.specs.Shape.{sides_of}
use Rattle.dcx_atom.specs.Arrays.{number_at}
use Rattle.dcx_atom.proofs.Lists.{list_below-push}
use Rattle.dcx_fold.specs.Folds.{parts, fold_of, fold_summands}
use Rattle.dcx_fold.proofs.FoldValues.{first_of_sums}
use Rattle.dcx_fold.proofs.fold_values.group_values.Goals as goal

pub returns-in_err-number-clause-stop : goal.returns-in_err-number-clause-stop
returns-in_err-number-clause-stop c =
    let p = err_from_is_err_and c.from_residual.result c.from_residual.ensures.1 in
    let fold = c.args.folding.fold in
    rw (p.1, p.2) (first_of_sums c.args.size c.loop-entry.entry (λ k. fold_summands fold (parts fold c.args.folding.axis (sides_of c.args.x.now.shape) (number_at c.args.x.now.entries) k)) _
    c.loop-entry-test.true c.loop-entry.invariant.forms c.in_err-number.ensures.stop)

pub loop-entry-preserved : goal.loop-entry-preserved
loop-entry-preserved c =
    let fold = c.args.folding.fold in
    record {
      entries = ap (map value) c.in-Ok.ensures.items
          ∙ list_below-push c.loop-entry.entry (λ k. fold_of fold (parts fold c.args.folding.axis (sides_of c.args.x.now.shape) (number_at c.args.x.now.entries) k)) value
          c.loop-entry.entries.items c.in_ok-number.number
          c.loop-entry.invariant.entries c.in_ok-number.ensures.ok;
      forms = below_more _ _ c.loop-entry.invariant.forms c.in_ok-number.ensures.forms;
    }

pub loop-entry-init : goal.loop-entry-init
loop-entry-init c = search rules

pub loop-entry-smaller : goal.loop-entry-smaller
loop-entry-smaller c = search rules
