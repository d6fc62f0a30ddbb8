-- A node that is reduced has its rows and columns, and any other has none.
use Rattle.std.proofs.Common.{◌+◌, min, length, true, map, sum_by, slice_get, sym, ap, ap₂, ◌∙◌}
use Rattle.dcx_linear.specs.Size.{columns_for, capped}
use Rattle.dcx_unknowns.specs.Layout.{marked, rows_counted, rows_if, aux_if, aux_kind}
use Rattle.dcx_unknowns.proofs.Layouts.{capped_sum, aux_columns_at, rows_more, rows_no_more, columns_more, columns_no_more}
use Rattle.dcx_unknowns.proofs.graph.graph_size.Goals as goal
use Rattle.dcx_unknowns.proofs.graph.graph_size.Goals.{then-reduced-i+in_ok-own, else-reduced-i}

pub nodes-preserved : goal.nodes-preserved
nodes-preserved c =
    let nodes = c.args.problem.now.tree in
    let marks = marked c.args.reduced.now in
    let i = c.nodes.i in
    elim c.if-reduced-i.branch [
      | then-reduced-i+in_ok-own w ↦ record {
        rows_are = w.rows-is ∙ w.saturating_add-rows.ensures ∙ ap₂ (λ m n. min (m + n) 4294967295) c.nodes.invariant.rows_are w.in_ok-own.ensures.rows
            ∙ capped_sum (rows_counted nodes marks i) (length (rows_if nodes true (slice_get nodes i))) ∙ ap capped (sym (rows_more nodes marks i w.if-reduced-i.true));
        columns_are = w.columns-is ∙ w.saturating_add-columns.ensures ∙ ap₂ (λ m n. min (m + n) 4294967295) c.nodes.invariant.columns_are w.in_ok-own.ensures.columns
            ∙ capped_sum (aux_columns_at nodes marks i) (sum_by columns_for (map aux_kind (aux_if nodes true (slice_get nodes i)))) ∙ ap capped (sym (columns_more nodes marks i w.if-reduced-i.true));
      }
      | else-reduced-i w ↦ record {
        rows_are = w.rows-is ∙ c.nodes.invariant.rows_are ∙ ap capped (sym (rows_no_more nodes marks i w.if-reduced-i.false));
        columns_are = w.columns-is ∙ c.nodes.invariant.columns_are ∙ ap capped (sym (columns_no_more nodes marks i w.if-reduced-i.false));
      }
    ]
