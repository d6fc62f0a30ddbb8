-- Runs from a start, and on a program: what holds of their phases, and how many pivots they make.
use Rattle.std.proofs.Common.{◌≡◌, ◌^◌, List, [], ◌∷◌, map, ap, arith}
use Rattle.std.proofs.lemmas.List.{length-map, length-append}
use Rattle.dcx_tab.specs.declared.program.Program.{Program}
use Rattle.dcx_tab.specs.First.{first_tableau}
use Rattle.dcx_tab.specs.Program.{tableau_row, objective_row, phase_row}
use Rattle.dcx_tab.specs.Rows.{Row}
use Rattle.dcx_tab.specs.Table.{Table}
use Rattle.dcx_simplex.specs.Whole as whole
use Rattle.dcx_simplex.specs.Whole.{Starts}
use Rattle.dcx_simplex.specs.Start.{IsStart, RepeatsNoBasis, enough_pivots}
use Rattle.dcx_simplex.specs.Runs.{HasReadyPhases, HasShortPhases, most_pivots, RunsShort}
use Rattle.dcx_simplex.proofs.PhaseLaws.{stays_ready, never_repeats, few_pivots}
use Rattle.dcx_simplex.proofs.Limits.{ready_first, begun, ends_below, few_in_all}
use Rattle.dcx_simplex.proofs.Starts.{starts}

pub phases_are_ready : (equations : List Row) (t : Table) → IsStart equations t → HasReadyPhases equations t
phases_are_ready equations t start = record {
  first = ready_first equations t start;
  second = λ limit n u begins. (begun equations t start limit n u begins).ready;
}

pub never_repeat : (equations : List Row) (t : Table) → IsStart equations t → RepeatsNoBasis t
never_repeat equations t start =
    let ready = phases_are_ready equations t start in
    record {
      first = λ limit n m u v leads after.
          never_repeats equations (whole.phase_row t) t.columns limit u n v m (stays_ready equations (whole.phase_row t) t.columns limit t 0 u n ready.first leads) after;
      second = λ limit k n m w u v begins leads after.
          never_repeats equations (whole.objective_row w) w.plain limit u n v m (stays_ready equations (whole.objective_row w) w.plain limit w k u n (ready.second limit k w begins) leads) after;
    }

pub short_phases : (equations : List Row) (t : Table) → IsStart equations t → HasShortPhases t
short_phases equations t start =
    let ready = phases_are_ready equations t start in
    record {
      first = λ limit n u leads.
          let few = few_pivots equations (whole.phase_row t) t.columns limit t 0 u n ready.first leads in
          omega (arith, few);
      second = λ limit k n w u begins leads.
          let few = few_pivots equations (whole.objective_row w) w.plain limit w k u n (ready.second limit k w begins) leads in
          let columns = ap (λ c. 2 ^ c) (begun equations t start limit k w begins).columns in
          omega (arith, few, columns);
    }

-- the first tableau has the two rows of costs below those of the program
same_bound : (p : Program) → enough_pivots (first_tableau p) ≡ most_pivots p
same_bound p =
    let size = length-append (map tableau_row p.rows) (objective_row p.objective ∷ phase_row p.phase ∷ []) in
    let rows = length-map p.rows tableau_row in
    omega (arith, size, rows)

pub programs_run_short : (p : Program) → RunsShort p
programs_run_short p =
    let equations = (first_tableau p).rows in
    let start = starts p.rows p.columns p.objective p.phase p.form in
    record {
      apart = never_repeat equations (first_tableau p) start;
      phases = short_phases equations (first_tableau p) start;
      pivots = λ limit u e run. let few = few_in_all equations limit (first_tableau p) u e start run in omega (arith, few, same_bound p);
      limits = λ limit n u run. let small = ends_below equations limit (first_tableau p) u n start run in omega (arith, small, same_bound p);
    }
