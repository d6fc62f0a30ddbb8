-- The parts of the group are listed and folded.
use Rattle.std.proofs.Common.{◌∙◌, sym, ap, subst, refl, map, length, List, IsOk}
use Rattle.dcx_frac.specs.declared.fraction.Frac.{Frac}
use Rattle.dcx_frac.specs.Frac.{value}
use Rattle.dcx_shape.specs.Shape.{sides_of}
use Rattle.dcx_atom.specs.Arrays.{number_at}
use Rattle.dcx_atom.specs.Formed.{sum_in_order}
use Rattle.dcx_fold.specs.Folds.{parts, fold_summands}
use Rattle.dcx_fold.proofs.FoldValues.{stride_within, parts_are, some_parts}
use Rattle.dcx_fold.proofs.fold_values.group_value.Goals as goal

pub parts_of-requires : goal.parts_of-requires
parts_of-requires c =
    stride_within c.args.folding.axis (sides_of c.args.x.now.shape) c.args.entry c.stride-stride.result (length c.as_slice.result.now) c.stride-stride.ensures c.requires
    (ap length c.as_slice.ensures ∙ c.args.x.now.full)

pub folded-requires : goal.folded-requires
folded-requires c =
    let p = c.args.folding.fold in
    let axis = c.args.folding.axis in
    let s = sides_of c.args.x.now.shape in
    some_parts p axis s c.args.entry c.as_slice.result.now c.as_slice-2.result.now c.args.x.now.shape.few.some
    (parts_are p axis s c.args.entry c.stride-stride.result c.as_slice.result.now c.as_slice-2.result.now c.stride-stride.ensures (ap (map value) c.as_slice-2.ensures.value ∙ c.in-Ok.ensures))

pub returns-in-Ok-folded-clause-forms : goal.returns-in-Ok-folded-clause-forms
returns-in-Ok-folded-clause-forms c =
    let p = c.args.folding.fold in
    let axis = c.args.folding.axis in
    let s = sides_of c.args.x.now.shape in
    let same = parts_are p axis s c.args.entry c.stride-stride.result c.as_slice.result.now c.as_slice-2.result.now c.stride-stride.ensures
    (ap (map value) c.as_slice-2.ensures.value ∙ c.in-Ok.ensures)
    ∙ ap (λ (xs : List Frac). parts p axis s (number_at xs) c.args.entry) c.as_slice.ensures in
    subst (λ xs. IsOk (sum_in_order (fold_summands p xs))) same (subst IsOk c.in-Ok-folded.ensures.answer refl)

pub returns-clause-stop : goal.returns-clause-stop
returns-clause-stop c =
    let p = c.args.folding.fold in
    let axis = c.args.folding.axis in
    let s = sides_of c.args.x.now.shape in
    let same = parts_are p axis s c.args.entry c.stride-stride.result c.as_slice.result.now c.as_slice-2.result.now c.stride-stride.ensures
    (ap (map value) c.as_slice-2.ensures.value ∙ c.in-Ok.ensures)
    ∙ ap (λ (xs : List Frac). parts p axis s (number_at xs) c.args.entry) c.as_slice.ensures in
    (refl, ap (λ xs. sum_in_order (fold_summands p xs)) (sym same) ∙ sym c.in-Err-folded.ensures.answer)
