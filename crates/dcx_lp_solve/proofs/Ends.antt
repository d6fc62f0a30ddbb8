-- What a run that ends shows.
use Rattle.std.proofs.Common.{◌≡◌, ◌⊎◌, ℕ, suc, List, [], ◌∷◌, Some, Result, Ok, Err, IfOk, IfErr, inl, inr, sym, subst}
use Rattle.std.specs.Prelude.{⊤}
use Rattle.std.proofs.lemmas.Option.{none-some, same_Some}
use Rattle.dcx_frac.specs.declared.fraction.Passes.{Passes}
use Rattle.dcx_tab.specs.declared.program.Program.{Program}
use Rattle.dcx_tab.specs.Table.{Table}
use Rattle.dcx_tab.specs.First.{first_tableau}
use Rattle.dcx_simplex.specs.declared.run.LpEnd.{LpEnd}
use Rattle.dcx_simplex.specs.declared.run.LpEnd.TheVariants as ends
use Rattle.dcx_simplex.specs.Whole.{RunEnds}
use Rattle.dcx_simplex.specs.Finished.{IsFinished}
use Rattle.dcx_simplex.specs.Reading.{IsRead}
use Rattle.dcx_chained.specs.declared.chained.Chained.{Chained}
use Rattle.dcx_chained.specs.Tables.{table_of}
use Rattle.dcx_answer.specs.declared.site.Site.{Site}
use Rattle.dcx_answer.specs.declared.site.Site.TheVariants as sites
use Rattle.dcx_std.specs.declared.stop.RowStop.{RowStop}
use Rattle.dcx_std.specs.declared.stop.RowStop.TheVariants as rows
use Rattle.dcx_std.specs.GivenRows.{GivenRows}
use Rattle.dcx_std.specs.IntegerRows.{IsMade, IsStopOf, IsFirstPassing, passing_from, rows_made}
use Rattle.dcx_lp_solve.specs.declared.solving.Solved.{Solved}
use Rattle.dcx_lp_solve.specs.declared.stop.SolveStop.{SolveStop}
use Rattle.dcx_lp_solve.specs.declared.stop.SolveStop.TheVariants as stops
use Rattle.dcx_lp_solve.specs.Solved.{IsRunSolved, RunStops, IsSolved, rows_stop, Stops}

-- ---- the first operation that passes stands at a row
abbrev IsRowSite : Site → Type 0
IsRowSite (sites.Row row passes) = ⊤
IsRowSite _ = ⊥

first_at_row : {A : Type 0} (i : ℕ) (rs : List (Result A Passes)) (site : Site) → passing_from i rs ≡ Some site → IsRowSite site
first_at_row i [] site e = absurd (none-some site e)
first_at_row i (Ok x ∷ rs) site e = first_at_row (suc i) rs site e
first_at_row i (Err passes ∷ rs) site e = subst IsRowSite (same_Some (sites.Row i passes) site e) tt

only_rows : (given : GivenRows) (site : Site) → IsFirstPassing given site → IsRowSite site
only_rows given site (inl h) = first_at_row 0 (rows_made given) site h
only_rows given site (inr h) = subst IsRowSite (sym h.at) tt

-- want of memory says nothing
pub memory_stops : {A : Type 0} (P : SolveStop → Type 0) → P stops.Memory → (r : Result A SolveStop) → IfErr r (λ e. e ≡ stops.Memory) → IfErr r P
memory_stops P h (Ok x) is = tt
memory_stops P h (Err e) is = subst P (sym is) h

-- what solves the scaled program of rows, solves the rows
pub run_solves : (limit : ℕ) (given : GivenRows) (program : Program) → IsMade given program → (s : Solved) → IsRunSolved limit program s → IsSolved limit given s
run_solves limit given program made s h = record {
  made = subst (λ p. IsMade given p) (sym h.same) made;
  solved = subst (λ p. IsRunSolved limit p s) (sym h.same) h;
}

-- what stops the run on it, stops them
pub run_stops : (limit : ℕ) (given : GivenRows) (program : Program) → IsMade given program → (e : SolveStop) → RunStops limit program e → Stops limit given e
run_stops limit given program made (stops.TooLarge r c) h = absurd h
run_stops limit given program made (stops.Wide (sites.Pivot n r c)) h = record { program = program; made = made; stops = h }
run_stops limit given program made (stops.Wide (sites.Row row passes)) h = absurd h
run_stops limit given program made (stops.Wide (sites.Node node entry passes)) h = absurd h
run_stops limit given program made (stops.Wide (sites.Map row passes)) h = absurd h
run_stops limit given program made (stops.Wide (sites.Answer row passes)) h = absurd h
run_stops limit given program made (stops.PivotLimit n) h = record { program = program; made = made; stops = h }
run_stops limit given program made stops.Memory h = tt

pub result_stops : {A : Type 0} (limit : ℕ) (given : GivenRows) (program : Program) → IsMade given program → (r : Result A SolveStop) → IfErr r (RunStops limit program) → IfErr r (Stops limit given)
result_stops limit given program made (Ok x) h = tt
result_stops limit given program made (Err e) h = run_stops limit given program made e h

-- ---- an end at which an answer is read
abbrev Reads : LpEnd → Type 0
Reads e = ((n : ℕ) × (e ≡ ends.Optimal n)) ⊎ (((n : ℕ) × (e ≡ ends.Infeasible n)) ⊎ ((n : ℕ) × (c : ℕ) × (e ≡ ends.Unbounded n c)))

pub finished : (limit : ℕ) (q : Program) (t : Table) (e : LpEnd) → Reads e → RunEnds limit (first_tableau q) t e → IsFinished q t e
finished limit q t (ends.Optimal n) h run = (limit, run)
finished limit q t (ends.Infeasible n) h run = (limit, run)
finished limit q t (ends.Unbounded n c) h run = (limit, run)
finished limit q t (ends.Wide n r c) (inl h) run = let no = h.1 in cc
finished limit q t (ends.Wide n r c) (inr (inl h)) run = let no = h.1 in cc
finished limit q t (ends.Wide n r c) (inr (inr h)) run = let no = h.2 in cc
finished limit q t (ends.PivotLimit n) (inl h) run = let no = h.1 in cc
finished limit q t (ends.PivotLimit n) (inr (inl h)) run = let no = h.1 in cc
finished limit q t (ends.PivotLimit n) (inr (inr h)) run = let no = h.2 in cc

-- what is read there solves the program
pub read_solved : (limit : ℕ) (q : Program) (c : Chained) (e : LpEnd) → RunEnds limit (first_tableau q) (table_of c) e → (r : Result Solved SolveStop) →
    IfOk r (λ s. s.program ≡ q) → IfOk r (λ s. s.tableau ≡ c) → IfOk r (λ s. IsRead q.rows q.columns (table_of c) e s.answer) → IfOk r (IsRunSolved limit q)
read_solved limit q c e run (Ok s) program tableau read = record {
  same = program;
  end = e;
  run = subst (λ t. RunEnds limit (first_tableau q) (table_of t) e) (sym tableau) run;
  read = subst (λ t. IsRead q.rows q.columns (table_of t) e s.answer) (sym tableau) read;
}
read_solved limit q c e run (Err stop) program tableau read = tt

-- ---- rows that have no scaled program
pub row_stops : (limit : ℕ) (given : GivenRows) (e : RowStop) → IsStopOf given e → Stops limit given (rows_stop e)
row_stops limit given (rows.TooLarge r c) h = h
row_stops limit given rows.Memory h = tt
row_stops limit given (rows.Wide (sites.Row row passes)) h = h
row_stops limit given (rows.Wide (sites.Node node entry passes)) h = absurd (only_rows given (sites.Node node entry passes) h.1)
row_stops limit given (rows.Wide (sites.Map row passes)) h = absurd (only_rows given (sites.Map row passes) h.1)
row_stops limit given (rows.Wide (sites.Pivot pivots row column)) h = absurd (only_rows given (sites.Pivot pivots row column) h.1)
row_stops limit given (rows.Wide (sites.Answer row passes)) h = absurd (only_rows given (sites.Answer row passes) h.1)
