-- Where the difference stops the row stops, with its number.
use Rattle.dcx_entries.specs.Standing.{all_forms}
use Rattle.dcx_graph.specs.Program.{EntryRow}
use Rattle.dcx_graph.proofs.Told.{stops_row}
use Rattle.dcx_graph.proofs.rows.entry_row.Goals as goal

pub returns-in-Err : goal.returns-in-Err
returns-in-Err g c =
    let t = g.C.Coef in
    stops_row c.args.number (EntryRow t.of_number t.number_of t.sum_gives t.change_gives (all_forms t.of_number c.args.standing.now) c.args.entry.now) c.in-Err.stop c.stop_at_row.result
    c.stop_at_row.ensures c.in-Err.ensures
