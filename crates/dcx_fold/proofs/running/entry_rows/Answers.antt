-- The rows of the next entry stand behind those so far.
use Rattle.std.proofs.Common.{◌≡◌, ◌∙◌, ap, map, arith, rules}
use Rattle.std.proofs.lemmas.Result.{err_from_is_err_and}
use Rattle.dcx_atom.specs.Graph.{placed_row, rows_below}
use Rattle.dcx_fold.specs.Running.{running_rows}
use Rattle.dcx_fold.proofs.RunningSteps.{rows_of_next}
use Rattle.dcx_fold.proofs.running.entry_rows.Goals as goal

pub loop-entry-init : goal.loop-entry-init
loop-entry-init c = search rules

pub loop-entry-smaller : goal.loop-entry-smaller
loop-entry-smaller c = search rules

pub loop-entry-preserved : goal.loop-entry-preserved
loop-entry-preserved c = c.in_ok-push_entry_rows.ensures ∙ rows_of_next c.loop-entry.entry (map placed_row c.loop-entry.rows.items) c.loop-entry.invariant

pub returns : goal.returns
returns c =
    let end : c.loop-entry.entry ≡ c.args.size = omega (arith, c.loop-entry-test.false, c.loop-entry.auto.entry-end) in
    ap (map placed_row) c.from_vec.ensures ∙ c.loop-entry.invariant ∙ ap (λ n. rows_below n running_rows) end

pub returns-in_err-push_entry_rows : goal.returns-in_err-push_entry_rows
returns-in_err-push_entry_rows c = let p = err_from_is_err_and c.from_residual.result c.from_residual.ensures.1 in rw p.1 tt
