-- All groups together have no more members than the argument has entries.
use Rattle.dcx_shape.specs.Shape.{sides_of}
use Rattle.dcx_fold.proofs.FoldGraphs.{small_product}
use Rattle.dcx_fold.proofs.fold_graphs.fold_graph.Goals as goal

pub group_forms-requires : goal.group_forms-requires
group_forms-requires c =
    small_product c.args.folding.axis (sides_of c.args.from) c.args.size c.folded_count-count.result c.args.from.few c.requires c.folded_count-count.ensures.count
