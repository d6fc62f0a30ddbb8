-- The groups of the only argument are folded.
use Rattle.std.proofs.Common.{◌≡◌, ◌∙◌, sym, ap, length, option_map, Some}
use Rattle.std.proofs.lemmas.Result.{err_from_is_err_and}
use Rattle.std.proofs.lemmas.List.{length-map}
use Rattle.dcx_frac.specs.Frac.{value}
use Rattle.dcx_shape.specs.Shape.{sides_of}
use Rattle.dcx_atom.specs.Axis.{folded}
use Rattle.dcx_atom.proofs.BoundRows.{length-list_below}
use Rattle.dcx_fold.proofs.FoldValues.{fold_value_is, fold_value_stop}
use Rattle.dcx_fold.proofs.fold_values.fold_value.Goals as goal

pub returns-in_err-entries-clause-stop : goal.returns-in_err-entries-clause-stop
returns-in_err-entries-clause-stop c =
    let p = err_from_is_err_and c.from_residual.result c.from_residual.ensures.1 in
    let x = c.index-args-0.result in
    let is : folded c.args.folding.axis (sides_of x.shape) ≡ Some (sides_of c.unwrap-shape.result) = sym c.folded.ensures ∙ ap (option_map sides_of) c.unwrap-shape.ensures in
    rw (p.1, p.2) (fold_value_stop c.args.folding.fold c.args.folding.axis c.args.args.now x (sides_of c.unwrap-shape.result) c.size.result _ c.requires c.index-args-0.is is c.size.ensures.value
    c.in_err-entries.ensures.stop)

pub invariant_of-result : goal.invariant_of-result
invariant_of-result c = record { full = sym (length-map c.in_ok-entries.entries value) ∙ ap length c.in_ok-entries.ensures.ok ∙ length-list_below c.size.result _ ∙ c.size.ensures.value }

pub returns-clause-ok : goal.returns-clause-ok
returns-clause-ok c =
    let x = c.index-args-0.result in
    let is : folded c.args.folding.axis (sides_of x.shape) ≡ Some (sides_of c.unwrap-shape.result) = sym c.folded.ensures ∙ ap (option_map sides_of) c.unwrap-shape.ensures in
    fold_value_is c.args.folding.fold c.args.folding.axis c.args.args.now x _ c.size.result c.requires c.index-args-0.is is c.size.ensures.value
    c.in_ok-entries.ensures.ok c.in_ok-entries.ensures.forms
