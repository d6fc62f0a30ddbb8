-- The rows and the objective are formed or stop at their row, and the origins stand beside them, all below 2 ^ 32.
use Rattle.std.proofs.Common.{◌≡◌, ◌+◌, length, Err, sym, ap, ◌∙◌, arith}
use Rattle.std.proofs.lemmas.Result.{err_from_is_err_and}
use Rattle.dcx_answer.specs.declared.site.Site.TheVariants as sites
use Rattle.dcx_entries.specs.Standing.{all_forms}
use Rattle.dcx_graph.specs.Program.{constraint_entries, entries_from, origins_of, AtRow, EntryRows, Objective, GivesProgramWith}
use Rattle.dcx_graph.proofs.Told.{IsWideAt-weaker}
use Rattle.dcx_graph.proofs.Entries.{entries-length}
use Rattle.dcx_graph.proofs.Programs.{rows_stop, objective_stops, asked_is}
use Rattle.dcx_graph.proofs.program.what_is_asked.Goals as goal

pub entry_rows-requires : goal.entry_rows-requires
entry_rows-requires g c =
    let p = c.args.problem.now in
    let all : length c.deref-2.result.now ≡ length (constraint_entries p) = ap length (c.deref-2.ensures.value ∙ c.in_ok-entries.ensures ∙ ap (entries_from 0) c.as_slice.ensures) in
    let count = entries-length 0 p.constraints in
    let few = c.requires in
    omega (arith, all, count, few)

pub returns-in_err-rows : goal.returns-in_err-rows
returns-in_err-rows g c = λ kinds.
    let t = g.C.Coef in
    let q = c.args.problem.now in
    let forms = all_forms t.of_number c.args.standing.now in
    let all : c.deref-2.result.now ≡ constraint_entries q = c.deref-2.ensures.value ∙ c.in_ok-entries.ensures ∙ ap (entries_from 0) c.as_slice.ensures in
    let p = err_from_is_err_and c.from_residual-in_err-rows.result c.from_residual-in_err-rows.ensures.1 in
    rw (p.1, p.2)
    (IsWideAt-weaker (λ row passes. sites.Row row passes) _ (λ s. EntryRows t.of_number t.number_of t.sum_gives t.change_gives forms c.deref-2.result.now (Err s))
    (λ s. GivesProgramWith t.of_number t.number_of t.sum_gives t.change_gives q forms c.args.graph.now kinds (Err s))
    (λ s h. rows_stop t.of_number t.number_of t.sum_gives t.change_gives q forms c.args.graph.now c.deref-2.result.now all s h) c.in_err-rows.ensures)

pub overflow_cast-number : goal.overflow_cast-number
overflow_cast-number g c =
    let p = c.args.problem.now in
    let all : c.len.result ≡ length (constraint_entries p) = c.len.ensures ∙ sym c.deref-2.ensures.len
    ∙ ap length (c.deref-2.ensures.value ∙ c.in_ok-entries.ensures ∙ ap (entries_from 0) c.as_slice.ensures) in
    let count = entries-length 0 p.constraints in
    let few = c.requires in
    omega (arith, all, count, few)

pub returns-in-Err : goal.returns-in-Err
returns-in-Err g c = λ kinds.
    let t = g.C.Coef in
    let q = c.args.problem.now in
    let forms = all_forms t.of_number c.args.standing.now in
    let graph = c.args.graph.now in
    let xs = c.deref-2.result.now in
    let all : xs ≡ constraint_entries q = c.deref-2.ensures.value ∙ c.in_ok-entries.ensures ∙ ap (entries_from 0) c.as_slice.ensures in
    let count : c.len.result + length graph ≡ length xs + length graph = ap (λ n. n + length graph) (c.len.ensures ∙ sym c.deref-2.ensures.len) in
    IsWideAt-weaker (λ row passes. sites.Row row passes) c.in-Err.stop (λ s. AtRow (c.len.result + length graph) (Objective t.of_number t.number_of t.sum_gives t.change_gives q forms) (Err s))
    (λ s. GivesProgramWith t.of_number t.number_of t.sum_gives t.change_gives q forms graph kinds (Err s))
    (λ s h. objective_stops t.of_number t.number_of t.sum_gives t.change_gives q forms graph xs all c.in_ok-rows.rows.items c.in_ok-rows.ensures (c.len.result + length graph) s count h)
    c.in-Err.ensures

pub returns-in-Ok : goal.returns-in-Ok
returns-in-Ok g c = λ kinds.
    let t = g.C.Coef in
    let q = c.args.problem.now in
    let forms = all_forms t.of_number c.args.standing.now in
    let graph = c.args.graph.now in
    let xs = c.deref-2.result.now in
    let all : xs ≡ constraint_entries q = c.deref-2.ensures.value ∙ c.in_ok-entries.ensures ∙ ap (entries_from 0) c.as_slice.ensures in
    let come : c.in_ok-origins.origins.items ≡ origins_of xs graph = c.in_ok-origins.ensures ∙ ap (λ ys. origins_of ys graph) (c.deref.ensures.value ∙ sym c.deref-2.ensures.value) in
    asked_is t.of_number t.number_of t.sum_gives t.change_gives q forms graph xs all c.in_ok-rows.rows.items c.in_ok-rows.ensures kinds c.in-Ok.objective c.in_ok-origins.origins.items
    c.in-Ok.ensures come
