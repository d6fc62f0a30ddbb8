-- The unknowns, the rows and the result are made for the only argument.
use Rattle.std.proofs.Common.{◌∙◌, ap, [], ◌∷◌}
use Rattle.dcx_atom.specs.Arrays.{sides_list}
use Rattle.dcx_fold.proofs.LargestCalls.{first_size, largest_graph_is}
use Rattle.dcx_fold.proofs.chosen.largest_graph.Goals as goal

pub returns : goal.returns
returns c =
    let k = c.args.largest.k in
    let n = first_size k c.args.args.now c.index-args-0.result c.size-size.result c.requires c.index-args-0.is c.size-size.ensures.value in
    largest_graph_is c.args.largest.bend k (sides_list c.args.args.now) c.size-size.result _ n c.in_ok-level_kinds.ensures c.in_ok-entry_rows.ensures
    (c.in_ok-one_result.ensures ∙ ap (λ f. f ∷ []) c.in_ok-form.ensures)
