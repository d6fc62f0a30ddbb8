-- Formed nodes have one program, or one operation that passes first.
use Rattle.dcx_unknowns.specs.Layout.{unknown_kinds}
use Rattle.dcx_entries.specs.Nodes.{table_forms}
use Rattle.dcx_entries.specs.Kept.{graph_rows}
use Rattle.dcx_graph.proofs.OneProgram.{one_program_with}
use Rattle.dcx_graph.proofs.laws.one_program.Goals as goal

pub returns : goal.returns
returns g c =
    let t = g.C.Coef in
    let m = g.met.C.Coef in
    λ rules p table r s h k. one_program_with t.of_number t.number_of t.sum_gives t.change_gives m.one_sum m.one_change (table_forms table) p (graph_rows t.of_number table)
    (unknown_kinds rules p) r s h k
