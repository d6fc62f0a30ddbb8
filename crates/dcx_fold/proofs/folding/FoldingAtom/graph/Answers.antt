-- The graph is made for the only argument.
use Rattle.dcx_shape.specs.Shape.{sides_of}
use Rattle.dcx_atom.specs.Graph.{IsGraphOf}
use Rattle.dcx_fold.specs.Folds.{fold_meaning}
use Rattle.dcx_fold.proofs.FoldShapes.{ok_at_fold, fold_graph_is}
use Rattle.dcx_fold.proofs.folding.FoldingAtom.graph.Goals as goal

pub returns : goal.returns
returns c =
    let p = c.args.self.now.fold in
    let axis = c.args.self.now.axis in
    let x = c.index-args-0.result in
    ok_at_fold axis c.args.args.now x c.unwrap.result c.folded.result c.size-size.result
    (IsGraphOf (fold_meaning p axis)) c.fold_graph.result c.requires c.index-args-0.is c.unwrap.ensures c.folded.ensures c.size-size.ensures.value
    (fold_graph_is p axis (sides_of x) c.size-size.result c.fold_graph.result c.fold_graph.ensures.kinds c.fold_graph.ensures.rows c.fold_graph.ensures.results)
