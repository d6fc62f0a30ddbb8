-- The rows so far are formed.
use Rattle.std.proofs.Common.{Ok}
use Rattle.dcx_entries.specs.Forming.{FormsEach}
use Rattle.dcx_entries.specs.Standing.{all_forms}
use Rattle.dcx_graph.specs.Program.{RowOf}
use Rattle.dcx_graph.proofs.rows.entry_rows.Given as goal

abbrev pub invariant-entries : goal.invariant-entries
invariant-entries g l =
    let t = g.C.Coef in
    FormsEach (RowOf t.of_number t.number_of t.sum_gives t.change_gives (all_forms t.of_number l.standing) l.entries) l.index (Ok l.rows.items)
