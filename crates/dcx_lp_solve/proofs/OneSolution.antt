-- Rows have one solution, or one stop.
use Rattle.std.proofs.Common.{◌≡◌, ◌≢◌, ℕ, ◌+◌, ◌<◌, ◌^◌, length, refl, sym, ap, ◌∙◌, subst, ◌⊎◌, inl, inr}
use Rattle.dcx_answer.specs.declared.site.Site.TheVariants as sites
use Rattle.dcx_tab.specs.declared.program.Program.{Program}
use Rattle.dcx_tab.specs.Table.{Table}
use Rattle.dcx_tab.specs.First.{first_tableau}
use Rattle.dcx_chained.specs.Tables.{table_of}
use Rattle.dcx_lp_answer.specs.declared.answer.LpAnswer.{LpAnswer}
use Rattle.dcx_simplex.specs.declared.run.LpEnd.{LpEnd}
use Rattle.dcx_simplex.specs.declared.run.LpEnd.TheVariants as ends
use Rattle.dcx_simplex.specs.Whole.{RunEnds}
use Rattle.dcx_simplex.specs.Reading.{IsRead}
use Rattle.dcx_simplex.proofs.OneEnd.{ends_once}
use Rattle.dcx_simplex.proofs.Runs.{programs_run_short}
use Rattle.dcx_simplex.proofs.Starts.{starts}
use Rattle.dcx_std.specs.declared.stop.RowStop.{RowStop}
use Rattle.dcx_std.specs.declared.stop.RowStop.TheVariants as rows
use Rattle.dcx_std.specs.GivenRows.{GivenRows}
use Rattle.dcx_std.specs.IntegerRows.{IsMade, IsStopOf}
use Rattle.dcx_std.proofs.OneProgram as programs
use Rattle.dcx_lp_solve.specs.declared.solving.Solved.{Solved}
use Rattle.dcx_lp_solve.specs.declared.stop.SolveStop.{SolveStop}
use Rattle.dcx_lp_solve.specs.declared.stop.SolveStop.TheVariants as stops
use Rattle.dcx_lp_solve.specs.Solved.{EndsAt, IsSolved, rows_stop, Stops}
use Rattle.dcx_lp_solve.specs.OneSolution.{IsSameSolution}
use Rattle.dcx_lp_solve.proofs.OneReading.{one_reading}

-- ---- one run
-- runs on the programs of the same rows end once
one_end : (limit : ℕ) (given : GivenRows) (q r : Program) (u v : Table) (e f : LpEnd) → IsMade given q → IsMade given r → RunEnds limit (first_tableau q) u e → RunEnds limit (first_tableau r) v f
    → (u ≡ v) × (e ≡ f)
one_end limit given q r u v e f made other run second =
    let same : q ≡ r = programs.programs_are_one given q r made other in
    ends_once (first_tableau q).rows limit (first_tableau q) u v e f (starts q.rows q.columns q.objective q.phase q.form) run (subst (λ p. RunEnds limit (first_tableau p) v f) (sym same) second)

pub answers_are_one : (limit : ℕ) (given : GivenRows) (s t : Solved) → IsSolved limit given s → IsSolved limit given t → IsSameSolution s t
answers_are_one limit given s t h k =
    let program : s.program ≡ t.program = programs.programs_are_one given s.program t.program h.made k.made in
    let end = one_end limit given s.program t.program (table_of s.tableau) (table_of t.tableau) h.solved.end k.solved.end h.made k.made h.solved.run k.solved.run in
    let at_program = subst (λ p. IsRead p.rows p.columns (table_of t.tableau) k.solved.end t.answer) (sym program) k.solved.read in
    let at_table = subst (λ u. IsRead s.program.rows s.program.columns u k.solved.end t.answer) (sym end.0) at_program in
    let read = subst (λ e. IsRead s.program.rows s.program.columns (table_of s.tableau) e t.answer) (sym end.1) at_table in
    record { program = program; table = end.0; answer = one_reading s.program (table_of s.tableau) s.answer t.answer h.solved.end h.solved.read read }

-- ---- one stop
-- what a run that has no answer is stopped with
abbrev stop_of : LpEnd → SolveStop
stop_of (ends.Optimal n) = stops.Memory
stop_of (ends.Infeasible n) = stops.Memory
stop_of (ends.Unbounded n c) = stops.Memory
stop_of (ends.Wide n r c) = stops.Wide (sites.Pivot n r c)
stop_of (ends.PivotLimit n) = stops.PivotLimit n

-- the rows have no program
record HasNoProgram (given : GivenRows) (s : SolveStop) : Type 0 where
  stop : RowStop
  is : IsStopOf given stop
  some : stop ≢ rows.Memory
  same : s ≡ rows_stop stop

-- the run on their program has no answer
record HasNoAnswer (limit : ℕ) (given : GivenRows) (s : SolveStop) : Type 0 where
  program : Program
  made : IsMade given program
  end : LpEnd
  run : EndsAt limit program end
  none : (t : Table) (a : LpAnswer) → ¬ (IsRead program.rows program.columns t end a)
  same : s ≡ stop_of end

cause_of : (limit : ℕ) (given : GivenRows) (s : SolveStop) → Stops limit given s → s ≢ stops.Memory → HasNoProgram given s ⊎ HasNoAnswer limit given s
cause_of limit given (stops.TooLarge r c) h n = inl (record { stop = rows.TooLarge r c; is = h; some = λ e. cc; same = refl })
cause_of limit given (stops.Wide (sites.Pivot m r c)) h n = inr (record { program = h.program; made = h.made; end = ends.Wide m r c; run = h.stops; none = λ t a read. read; same = refl })
cause_of limit given (stops.Wide (sites.Row row passes)) h n = inl (record { stop = rows.Wide (sites.Row row passes); is = h; some = λ e. cc; same = refl })
cause_of limit given (stops.Wide (sites.Node node entry passes)) h n = absurd h
cause_of limit given (stops.Wide (sites.Map row passes)) h n = absurd h
cause_of limit given (stops.Wide (sites.Answer row passes)) h n = absurd h
cause_of limit given (stops.PivotLimit m) h n = inr (record { program = h.program; made = h.made; end = ends.PivotLimit m; run = h.stops.1; none = λ t a read. read; same = refl })
cause_of limit given stops.Memory h n = absurd (n refl)

-- rows without a program have none
no_program : (given : GivenRows) (q : Program) (s : SolveStop) → IsMade given q → HasNoProgram given s → ⊥
no_program given q s made h = h.some (programs.made_or_stopped given q h.stop made h.is)

-- an end without an answer has none
no_answer : (limit : ℕ) (given : GivenRows) (s : Solved) (stop : SolveStop) → IsSolved limit given s → HasNoAnswer limit given stop → ⊥
no_answer limit given s stop h k =
    let program : s.program ≡ k.program = programs.programs_are_one given s.program k.program h.made k.made in
    let end = one_end limit given s.program k.program (table_of s.tableau) k.run.last h.solved.end k.end h.made k.made h.solved.run k.run.run in
    let at_end = subst (λ e. IsRead s.program.rows s.program.columns (table_of s.tableau) e s.answer) end.1 h.solved.read in
    k.none (table_of s.tableau) s.answer (subst (λ p. IsRead p.rows p.columns (table_of s.tableau) k.end s.answer) program at_end)

solved_apart : (limit : ℕ) (given : GivenRows) (s : Solved) (stop : SolveStop) → IsSolved limit given s → HasNoProgram given stop ⊎ HasNoAnswer limit given stop → ⊥
solved_apart limit given s stop h (inl none) = no_program given s.program stop h.made none
solved_apart limit given s stop h (inr none) = no_answer limit given s stop h none

pub solved_or_stopped : (limit : ℕ) (given : GivenRows) (s : Solved) (stop : SolveStop) → IsSolved limit given s → Stops limit given stop → stop ≡ stops.Memory
solved_or_stopped limit given s (stops.TooLarge r c) h k = absurd (solved_apart limit given s (stops.TooLarge r c) h (cause_of limit given (stops.TooLarge r c) k (λ e. cc)))
solved_or_stopped limit given s (stops.Wide site) h k = absurd (solved_apart limit given s (stops.Wide site) h (cause_of limit given (stops.Wide site) k (λ e. cc)))
solved_or_stopped limit given s (stops.PivotLimit n) h k = absurd (solved_apart limit given s (stops.PivotLimit n) h (cause_of limit given (stops.PivotLimit n) k (λ e. cc)))
solved_or_stopped limit given s stops.Memory h k = refl

one_cause : (limit : ℕ) (given : GivenRows) (s t : SolveStop) → HasNoProgram given s ⊎ HasNoAnswer limit given s → HasNoProgram given t ⊎ HasNoAnswer limit given t → s ≡ t
one_cause limit given s t (inl h) (inl k) = h.same ∙ ap rows_stop (programs.stops_are_one given h.stop k.stop h.is k.is h.some k.some) ∙ sym k.same
one_cause limit given s t (inl h) (inr k) = absurd (no_program given k.program s k.made h)
one_cause limit given s t (inr h) (inl k) = absurd (no_program given h.program t h.made k)
one_cause limit given s t (inr h) (inr k) = h.same ∙ ap stop_of (one_end limit given h.program k.program h.run.last k.run.last h.end k.end h.made k.made h.run.run k.run.run).1 ∙ sym k.same

pub stops_are_one : (limit : ℕ) (given : GivenRows) (s t : SolveStop) → Stops limit given s → Stops limit given t → s ≢ stops.Memory → t ≢ stops.Memory → s ≡ t
stops_are_one limit given s t h k n m = one_cause limit given s t (cause_of limit given s h n) (cause_of limit given t k m)

-- ---- the limit
pub few_pivots : (limit : ℕ) (given : GivenRows) (count : ℕ) → Stops limit given (stops.PivotLimit count) → (q : Program) × IsMade given q × (limit < 2 ^ (length q.columns + 1) + length q.rows)
few_pivots limit given count h = let end = h.stops.1 in (h.program, h.made, (programs_run_short h.program).limits limit count end.last end.run)
