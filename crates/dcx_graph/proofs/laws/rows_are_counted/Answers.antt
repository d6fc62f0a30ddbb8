-- Formed nodes have the rows that the layout counts, and the program those of the constraints besides.
use Rattle.std.proofs.Common.{◌+◌, ap₂, ◌∙◌}
use Rattle.dcx_unknowns.specs.Layout.{unknown_kinds}
use Rattle.dcx_entries.specs.Nodes.{table_forms}
use Rattle.dcx_entries.specs.Kept.{graph_rows}
use Rattle.dcx_graph.proofs.Entries.{entries-length}
use Rattle.dcx_graph.proofs.Sizes.{rows-length}
use Rattle.dcx_graph.proofs.Counted.{graph-counted}
use Rattle.dcx_graph.proofs.laws.rows_are_counted.Goals as goal

pub returns-clause-graph : goal.returns-clause-graph
returns-clause-graph g c =
    let t = g.C.Coef in
    λ rules p setting table formed. graph-counted t.of_number t.number_of t.sum_gives t.change_gives t.parameter_gives rules p setting table formed

pub returns-clause-program : goal.returns-clause-program
returns-clause-program g c =
    let t = g.C.Coef in
    λ rules p setting table q formed is.
    rows-length t.of_number t.number_of t.sum_gives t.change_gives p (table_forms table) (graph_rows t.of_number table) (unknown_kinds rules p) q is
    ∙ ap₂ ◌+◌ (entries-length 0 p.constraints) (graph-counted t.of_number t.number_of t.sum_gives t.change_gives t.parameter_gives rules p setting table formed)
