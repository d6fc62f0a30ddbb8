-- What the answer of a run has: a note of each row, and a number of each column.
use Rattle.std.proofs.Common.{◌≡◌, length, sym, ◌∙◌}
use Rattle.dcx_tab.specs.declared.program.Program.{Program}
use Rattle.dcx_tab.specs.Table.{Table}
use Rattle.dcx_lp_answer.specs.declared.answer.LpAnswer.{LpAnswer}
use Rattle.dcx_lp_answer.specs.declared.answer.LpStatus.TheVariants as status
use Rattle.dcx_simplex.specs.declared.run.LpEnd.{LpEnd}
use Rattle.dcx_simplex.specs.declared.run.LpEnd.TheVariants as ends
use Rattle.dcx_simplex.specs.Reading.{IsRead}

-- a note of each row, and a number of each column
pub record HasCounts (q : Program) (a : LpAnswer) : Type 0 where
  pub rows : length a.rows ≡ length q.rows
  pub columns : length a.columns ≡ length q.columns
  pub ray : a.status ≡ status.Unbounded → length a.ray ≡ length q.columns

-- an answer that is read at a tableau has them
pub counts_of : (q : Program) (t : Table) (end : LpEnd) (a : LpAnswer) → IsRead q.rows q.columns t end a → HasCounts q a
counts_of q t (ends.Optimal n) a h = record { rows = h.0.notes; columns = h.0.columns; ray = λ e. absurd (let d = sym h.0.status ∙ e in cc) }
counts_of q t (ends.Infeasible n) a h = record { rows = h.0.notes; columns = h.0.columns; ray = λ e. absurd (let d = sym h.0.status ∙ e in cc) }
counts_of q t (ends.Unbounded n c) a h = record { rows = h.0.notes; columns = h.0.columns; ray = λ e. h.1.ray }
counts_of q t (ends.Wide n r c) a h = absurd h
counts_of q t (ends.PivotLimit n) a h = absurd h
