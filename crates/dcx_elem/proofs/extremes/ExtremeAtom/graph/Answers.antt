-- Each argument bounds the unknown of its entry.
use Rattle.std.proofs.Common.{◌≡◌, ◌∙◌, sym, ap, subst, map, IfOk}
use Rattle.dcx_shape.specs.Sides.{entries_of}
use Rattle.dcx_atom.specs.Arrays.{sides_list}
use Rattle.dcx_atom.specs.Graph.{placed_row, rows_below}
use Rattle.dcx_elem.specs.Rows.{piece_rows}
use Rattle.dcx_elem.proofs.ExtremeSteps.{first_sides, some_arguments, graph_at}
use Rattle.dcx_elem.proofs.extremes.ExtremeAtom.graph.Goals as goal

pub returns : goal.returns
returns c =
    let bend = c.args.self.now.bend in
    let count = c.args.self.now.count in
    let r = c.entrywise_graph.result in
    let size = c.size-size.result in
    let some = some_arguments count c.args.args.now c.requires in
    let n = c.size-size.ensures.value ∙ ap entries_of (sym (first_sides c.args.args.now c.index-args-0.result some c.index-args-0.is)) in
    graph_at bend count (sides_list c.args.args.now) size c.in_ok-pieces.pieces.items r n c.in_ok-pieces.ensures c.entrywise_graph.ensures.kinds
    (subst (λ pieces. IfOk r (λ g. map placed_row g.rows ≡ rows_below size (piece_rows bend pieces))) c.as_slice.ensures.value c.entrywise_graph.ensures.rows)
    c.entrywise_graph.ensures.results
