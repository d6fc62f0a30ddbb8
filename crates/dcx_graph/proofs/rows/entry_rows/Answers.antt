-- The rows so far are formed: one more row is formed, or it is the first that stops.
use Rattle.std.proofs.Common.{Err, get_or, arith}
use Rattle.std.proofs.lemmas.Result.{err_from_is_err_and}
use Rattle.dcx_answer.specs.declared.site.Site.TheVariants as sites
use Rattle.dcx_entries.specs.Standing.{all_forms}
use Rattle.dcx_graph.specs.Program.{AtRow, EntryRow, EntryRows}
use Rattle.dcx_graph.proofs.Told.{IsWideAt-weaker}
use Rattle.dcx_graph.proofs.RowsFormed.{row_more, row_stops, none}
use Rattle.dcx_graph.proofs.rows.entry_rows.Goals as goal

pub returns-in_err-row : goal.returns-in_err-row
returns-in_err-row g c =
    let t = g.C.Coef in
    let forms = all_forms t.of_number c.args.standing.now in
    let x = get_or c.args.entries.now c.entries.index none in
    let p = err_from_is_err_and c.from_residual.result c.from_residual.ensures.1 in
    rw (p.1, p.2)
    (IsWideAt-weaker (λ row passes. sites.Row row passes) _ (λ s. AtRow c.entries.index (EntryRow t.of_number t.number_of t.sum_gives t.change_gives forms x) (Err s))
    (λ s. EntryRows t.of_number t.number_of t.sum_gives t.change_gives forms c.args.entries.now (Err s))
    (λ s h. row_stops t.of_number t.number_of t.sum_gives t.change_gives forms c.args.entries.now c.entries.index none (omega arith) c.entries.rows.items s h c.entries.invariant)
    c.in_err-row.ensures)

pub entries-preserved : goal.entries-preserved
entries-preserved g c =
    let t = g.C.Coef in
    let forms = all_forms t.of_number c.args.standing.now in
    row_more t.of_number t.number_of t.sum_gives t.change_gives forms c.args.entries.now c.entries.index none (omega arith) c.entries.rows.items
    c.in_ok-row.row c.push.new.self.items c.in_ok-push.ensures.items c.in_ok-row.ensures c.entries.invariant
