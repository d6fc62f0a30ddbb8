-- A warm run on the program of rows gives one right answer, or rows aren't solved so.
use Rattle.std.proofs.Common.{◌≡◌, ◌≢◌, ◌↔◌, ℕ, ◌<◌, IsTrue, Bool, List, length, get_or, None, refl, sym, subst}
use Rattle.dcx_tab.specs.declared.program.Program.{Program}
use Rattle.dcx_tab.specs.Table.{Table}
use Rattle.dcx_tab.specs.First.{first_tableau}
use Rattle.dcx_chained.specs.Tables.{table_of}
use Rattle.dcx_lp_answer.specs.declared.answer.LpStatus.TheVariants as status
use Rattle.dcx_lp_answer.specs.declared.answer.LpAnswer.{LpAnswer}
use Rattle.dcx_lp_answer.specs.Right.{IsRight}
use Rattle.dcx_simplex.specs.declared.run.LpEnd.TheVariants as ends
use Rattle.dcx_simplex.specs.Readable.{IsReadable}
use Rattle.dcx_simplex.specs.Reading.{IsReading}
use Rattle.dcx_warm.specs.Install.{AreApart, IsColumnList}
use Rattle.dcx_warm.specs.Warm.{WarmEnds, IsOptimalAt}
use Rattle.dcx_warm.proofs.Ending.{ends_optimal, is_right, is_readable, one_end, sound_first}
use Rattle.dcx_std.specs.declared.stop.RowStop.{RowStop}
use Rattle.dcx_std.specs.declared.stop.RowStop.TheVariants as rows
use Rattle.dcx_std.specs.GivenRows.{GivenRows}
use Rattle.dcx_std.specs.IntegerRows.{IsMade, IsStopOf}
use Rattle.dcx_std.proofs.OneProgram as programs
use Rattle.dcx_lp_solve.specs.declared.solving.Solved.{Solved}
use Rattle.dcx_lp_solve.specs.OneSolution.{IsSameSolution, WarmAnswersAreOne}
use Rattle.dcx_lp_solve.specs.Right.{WarmAnswersAreRight}
use Rattle.dcx_lp_solve.specs.Warm.{IsWarmRun, RunsWarm, IsWarmSolved}
use Rattle.dcx_lp_solve.proofs.Counts.{HasCounts, counts_of}
use Rattle.dcx_lp_solve.proofs.OneReading.{one_reading}

-- ---- the columns
-- different columns that are no artificials can start a run
list_of : (plain : ℕ) (columns : List ℕ) → AreApart columns → ((k : ℕ) → k < length columns → get_or columns k 0 < plain) → IsColumnList plain columns
list_of plain columns apart low = record { below = λ c l. subst (λ x. x < plain) l.2 (low l.0 l.1); apart = apart }

-- a test tells whether these columns can
pub can_start : (b : Bool) (plain bound : ℕ) (columns listed : List ℕ) → AreApart columns → bound ≡ plain → listed ≡ columns → (IsTrue b ↔ ((k : ℕ) → k < length listed → get_or listed k 0 < bound)) →
    IsTrue b ↔ IsColumnList plain columns
can_start b plain bound columns listed apart same are test =
    let test_at = subst (λ n. IsTrue b ↔ ((k : ℕ) → k < length columns → get_or columns k 0 < n)) same
    (subst (λ (xs : List ℕ). IsTrue b ↔ ((k : ℕ) → k < length xs → get_or xs k 0 < bound)) are test) in
    (λ h. list_of plain columns apart (test_at.0 h), λ list. test_at.1 (λ k h. list.below (get_or columns k 0) (k, h, refl)))

module _ (limit : ℕ) (columns : List ℕ) where
  -- ---- the run
  module _ (program : Program) (t : Table) (a : LpAnswer) (h : IsWarmRun limit columns program t a) where
    optimal_at : IsOptimalAt program t
    optimal_at = ends_optimal program limit columns t h.pivots h.list h.run

    pub warm_readable : IsReadable t
    warm_readable = is_readable program t optimal_at

    run_right : IsRight program a
    run_right = is_right program t optimal_at a h.numbers

  -- ---- rows
  module _ (given : GivenRows) where
    pub warm_right : (s : Solved) → IsWarmSolved limit columns given s → IsRight s.program s.answer
    warm_right s h = run_right s.program (table_of s.tableau) s.answer h.solved

    -- with a note of each row, and a number of each column
    pub warm_counts : (s : Solved) → IsWarmSolved limit columns given s → HasCounts s.program s.answer
    warm_counts s h = counts_of s.program (table_of s.tableau) (ends.Optimal 0) s.answer (h.solved.numbers, h.solved.no_ray)

    -- a run on their program that doesn't end optimal doesn't solve them
    pub never_run : (program : Program) → IsMade given program → RunsWarm limit columns program None → (s : Solved) → ¬ (IsWarmSolved limit columns given s)
    never_run program made none s h =
        let same : s.program ≡ program = programs.programs_are_one given s.program program h.made made in
        none (subst (λ (p : Program). IsColumnList (first_tableau p).plain columns) same h.solved.list) (table_of s.tableau) h.solved.pivots
        (subst (λ (p : Program). WarmEnds limit columns (first_tableau p) (table_of s.tableau) h.solved.pivots) same h.solved.run)

    -- and rows without a program aren't solved
    pub never_made : (e : RowStop) → e ≢ rows.Memory → IsStopOf given e → (s : Solved) → ¬ (IsWarmSolved limit columns given s)
    never_made e n is s h = n (programs.made_or_stopped given s.program e h.made is)

    -- one program, one tableau at the end, and one answer
    pub one_solution : (s t : Solved) → IsWarmSolved limit columns given s → IsWarmSolved limit columns given t → IsSameSolution s t
    one_solution s t h k =
        let program : s.program ≡ t.program = programs.programs_are_one given s.program t.program h.made k.made in
        let run = subst (λ (p : Program). WarmEnds limit columns (first_tableau p) (table_of t.tableau) k.solved.pivots) (sym program) k.solved.run in
        let start = sound_first (first_tableau s.program) (s.program, refl) in
        let end = one_end limit columns (first_tableau s.program) (table_of s.tableau) (table_of t.tableau) h.solved.pivots k.solved.pivots start h.solved.run run in
        let at_program = subst (λ (p : Program). IsReading p.rows p.columns (table_of t.tableau) status.Optimal t.answer) (sym program) k.solved.numbers in
        let numbers = subst (λ (u : Table). IsReading s.program.rows s.program.columns u status.Optimal t.answer) (sym end.0) at_program in
        record {
          program = program;
          table = end.0;
          answer = one_reading s.program (table_of s.tableau) s.answer t.answer (ends.Optimal 0) (h.solved.numbers, h.solved.no_ray) (numbers, k.solved.no_ray);
        }

pub warm_answers_are_right : WarmAnswersAreRight
warm_answers_are_right = warm_right

pub warm_answers_are_one : WarmAnswersAreOne
warm_answers_are_one = one_solution
