-- What is answered of a range is what is told of it, and it is right.
use Rattle.std.proofs.Common.{◌≡◌, ℕ, ◌<◌, ◌≤◌, ◌^◌, false, List, length, Ok, Err, Result, IfOk, IfErr, sym, ap, ◌∙◌, subst, arith, unsigned_abs}
use Rattle.dcx_math.specs.Rational.{ℚ, ◌+ℚ◌, ◌*ℚ◌}
use Rattle.dcx_frac.specs.declared.fraction.Frac.{Frac}
use Rattle.dcx_frac.specs.declared.fraction.Passes.{Passes}
use Rattle.dcx_frac.specs.Frac.{value}
use Rattle.dcx_atom.specs.Formed.{and_then}
use Rattle.dcx_point.specs.Pairs.{Pairs}
use Rattle.dcx_convex.specs.Rules.{Parametrized}
use Rattle.dcx_tree.specs.declared.problem.Problem.{Problem}
use Rattle.dcx_tree.specs.Meaning.{Fits, IsFitting, convex_problem, setting_of}
use Rattle.dcx_linear.specs.declared.param_form.ParamForm.{ParamForm}
use Rattle.dcx_linear.specs.Parameters.{Parameters}
use Rattle.dcx_tab.specs.declared.rows.IntRow.{IntRow}
use Rattle.dcx_tab.specs.declared.rows.ColumnKind.{ColumnKind}
use Rattle.dcx_tab.specs.First.{first_tableau}
use Rattle.dcx_tab.specs.Rows.{Row as Line, entry}
use Rattle.dcx_tab.specs.Table.{Table, entry_at}
use Rattle.dcx_chained.specs.declared.chained.Chained.{Chained}
use Rattle.dcx_chained.specs.Tables.{table_of}
use Rattle.dcx_chained.proofs.RowReads.{length-rows_of, row_at-rows_of}
use Rattle.dcx_lp_answer.specs.declared.answer.LpAnswer.{LpAnswer}
use Rattle.dcx_lp_answer.specs.declared.answer.LpStatus.{LpStatus}
use Rattle.dcx_lp_answer.specs.declared.answer.LpStatus.TheVariants as status
use Rattle.dcx_lp_answer.specs.Notes.{numbers}
use Rattle.dcx_lp_answer.specs.Right.{multiplier_at}
use Rattle.dcx_simplex.specs.Whole.{RunEnds}
use Rattle.dcx_simplex.specs.declared.run.LpEnd.{LpEnd}
use Rattle.dcx_simplex.specs.declared.run.LpEnd.TheVariants as lp
use Rattle.dcx_simplex.specs.Reading.{IsReading, IsRead}
use Rattle.dcx_simplex.proofs.Ended.{Shown, shown_optimal}
use Rattle.dcx_std.specs.GivenRows.{GivenRows, given}
use Rattle.dcx_std.specs.IntegerRows.{IsFitting as HasFew}
use Rattle.dcx_std.specs.Solutions.{linear_program, unknowns_at, HasKinds}
use Rattle.dcx_std.proofs.ScaledProgram.{scaled_program}
use Rattle.dcx_std.proofs.RightAnswers.{rows_right_as}
use Rattle.dcx_lp_solve.specs.declared.solving.Solved.{Solved}
use Rattle.dcx_lp_solve.specs.declared.stop.SolveStop.{SolveStop}
use Rattle.dcx_lp_solve.specs.declared.stop.SolveStop.TheVariants as solves
use Rattle.dcx_lp_solve.specs.Solved.{IsSolved, Stops}
use Rattle.dcx_lp_solve.proofs.Right.{answers_are_right}
use Rattle.dcx_unknowns.specs.Unknowns.{point_at}
use Rattle.dcx_graph.specs.Programs.{multipliers_of}
use Rattle.dcx_graph.specs.Program.{Program}
use Rattle.dcx_graph.specs.Answers.{rows_of}
use Rattle.dcx_graph.specs.Fixing.{FixGives}
use Rattle.dcx_graph.specs.Backward.{CarriesOver}
use Rattle.dcx_graph.proofs.AtSetting.{fixed_are_reductions}
use Rattle.dcx_graph.proofs.Backward.{answers_carry_over}
use Rattle.dcx_graph.proofs.Correct.{affine_are_known, affine_are_reductions}
use Rattle.dcx_range.specs.declared.rates.Rate.{Rate}
use Rattle.dcx_range.specs.declared.ends.Ends.{Ends}
use Rattle.dcx_range.specs.declared.asked.Asked.{Asked}
use Rattle.dcx_answer.specs.declared.ranged.Ranged.{Ranged}
use Rattle.dcx_answer.specs.declared.range_stop.RangeStop.{RangeStop}
use Rattle.dcx_answer.specs.declared.range_stop.RangeStop.TheVariants as stops
use Rattle.dcx_range.specs.Coefficients.{coefficient_of, HasConstants}
use Rattle.dcx_range.specs.Parameters.{scales, IsRanged}
use Rattle.dcx_right.specs.Ranges.{IsNumber, DifferAt, IsBetween, HasValue, HasNoPoint, HasNoLeast, HoldsOn}
use Rattle.dcx_range.specs.Stops.{StopsAt, IsOfRun, IsToldAs}
use Rattle.dcx_range.specs.Operations.{rates_of, ends_from, no_ends, sign_ends, slope_of, constant_of, span, finished, operations}
use Rattle.dcx_range.specs.Range.{IsMapOf, IsAsked, IsSolvedAs, IsKnown, formed, RangeGives}
use Rattle.dcx_range.proofs.Exact.{both_formed}
use Rattle.dcx_range.proofs.Few.{is_fitting}
use Rattle.dcx_range.proofs.Law.{row_kinds, rows_count}
use Rattle.dcx_range.proofs.Named.{same_place}
use Rattle.dcx_range.proofs.Spans.{at_value, here, interval, holds_along}

-- ---- the tableau of the run
-- its numbers fit 128 bits
small_at : (c : Chained) (i j : ℕ) → i < length (table_of c).rows → unsigned_abs (entry_at (table_of c) i j) < 2 ^ 127
small_at c i j l =
    let m = c.links in
    let size = length-rows_of m in
    let height = c.height in
    subst (λ (row : Line). unsigned_abs (entry row j) < 2 ^ 127) (sym (row_at-rows_of m i (omega (arith, l, size)))) (c.small i (omega (arith, l, size, height)) j)

-- ---- how the run ended, by the status that is read
module _ (limit : ℕ) (t : Table) (rows : List IntRow) (kinds : List ColumnKind) (u : Table) (a : LpAnswer) where
  pub optimal_end : (e : LpEnd) → RunEnds limit t u e → IsRead rows kinds u e a → a.status ≡ status.Optimal → (n : ℕ) × RunEnds limit t u (lp.Optimal n) × IsReading rows kinds u status.Optimal a
  optimal_end (lp.Optimal n) run read is = (n, run, read.0)
  optimal_end (lp.Infeasible n) run read is = absurd (let d = sym read.0.status ∙ is in cc)
  optimal_end (lp.Unbounded n c) run read is = absurd (let d = sym read.0.status ∙ is in cc)
  optimal_end (lp.Wide n r c) run read is = absurd read
  optimal_end (lp.PivotLimit n) run read is = absurd read

-- ---- the last operations
abbrev and_then_constant : Asked → Frac → Frac → Ends → Result Ranged Passes
and_then_constant asked number slope f = and_then (constant_of number slope asked.at) (λ constant. Ok (span (sign_ends asked.attribute f) constant slope))

abbrev and_then_slope : Table → List Rate → ℕ → Frac → Asked → Frac → Ends → Result Ranged Passes
and_then_slope u hs n c asked number f = and_then (slope_of u hs n c) (λ slope. and_then_constant asked number slope f)

-- ---- stops
-- rows that aren't too many stop in the run alone
pub of_run : (limit : ℕ) (given : GivenRows) → HasFew given → (stop : SolveStop) → Stops limit given stop → IsOfRun stop
of_run limit given few (solves.TooLarge rows columns) h = absurd (h.0 few)
of_run limit given few (solves.Wide site) h = tt
of_run limit given few (solves.PivotLimit count) h = tt
of_run limit given few solves.Memory h = tt

pub stop_told : (p : Problem) (m : Program ParamForm) (r : Program Frac) (setting : Pairs) (name : List ℕ) (limit : ℕ) (stop : SolveStop) (e : RangeStop) → Stops limit (rows_of r) stop
    → IsToldAs stop e → RangeGives p m r setting name limit (Err e)
stop_told p m r setting name limit (solves.TooLarge rows columns) e h is = absurd is
stop_told p m r setting name limit (solves.Wide site) e h is = subst (λ (z : RangeStop). RangeGives p m r setting name limit (Err z)) (sym is) h
stop_told p m r setting name limit (solves.PivotLimit count) e h is = subst (λ (z : RangeStop). RangeGives p m r setting name limit (Err z)) (sym is) h
stop_told p m r setting name limit solves.Memory e h is = subst (λ (z : RangeStop). RangeGives p m r setting name limit (Err z)) (sym is) tt

module _ (p : Problem) (setting : Pairs) (name : List ℕ) (m : Program ParamForm) (map : IsMapOf p m) (fits : IsFitting p setting) (r : Program Frac) (put : FixGives setting m (Ok r)) where
  -- the rows at the setting aren't too many
  pub has_few : HasFew (rows_of r)
  has_few = is_fitting p map.unread m map.reduces r (row_kinds p setting fits.shaped m (affine_are_known p map.unread m map.reduces) r put) put.0.2

  module _ (limit : ℕ) (s : Solved) (is : IsSolved limit (rows_of r) s) where
    abbrev pub solved_as : HasKinds (rows_of r) → (t : LpStatus) → s.answer.status ≡ t → IsSolvedAs r limit t
    solved_as known t e = record { known = known; solved = s; is_solved = is; status = e }

    -- ---- what is right for the rows is right for the problem
    carries_over : CarriesOver p (setting_of p setting) (linear_program (rows_of r))
    carries_over =
        answers_carry_over Parametrized p (setting_of p setting) (linear_program (rows_of r)) map.dpp.1 fits.fits
        (fixed_are_reductions Parametrized p setting m r (setting_of p setting) (affine_are_known p map.unread m map.reduces) fits.shaped put
        (affine_are_reductions p map.unread m map.dpp map.reduces (setting_of p setting)))

    pub has_no_point : HasKinds (rows_of r) → s.answer.status ≡ status.Infeasible → HasNoPoint p (setting_of p setting)
    has_no_point known e =
        let right = rows_right_as (rows_of r) s.program known is.made s.answer (answers_are_right limit (rows_of r) s is) status.Infeasible e in
        record {
          multipliers = multipliers_of (convex_problem p) (multiplier_at s.program.columns s.answer);
          gap = value s.answer.number;
          infeasible = carries_over.infeasible (value s.answer.number) (multiplier_at s.program.columns s.answer) right;
        }

    pub has_no_least : HasKinds (rows_of r) → s.answer.status ≡ status.Unbounded → HasNoLeast p (setting_of p setting)
    has_no_least known e =
        let x = unknowns_at s.program.columns (numbers s.answer.columns) in
        let d = unknowns_at s.program.columns (numbers s.answer.ray) in
        let right = rows_right_as (rows_of r) s.program known is.made s.answer (answers_are_right limit (rows_of r) s is) status.Unbounded e in
        record {
          point = point_at p.variables x;
          ray = point_at p.variables d;
          bound = value s.answer.number;
          slope = value s.answer.slope;
          unbounded = carries_over.unbounded x d (value s.answer.number) (value s.answer.slope) right;
        }

    -- ---- an optimal end
    module _ (known : HasKinds (rows_of r)) (ranged : IsRanged p m name) (optimal : s.answer.status ≡ status.Optimal) (asked : Asked) (of : IsAsked p setting name asked) where
      abbrev ending : (n : ℕ) × RunEnds limit (first_tableau s.program) (table_of s.tableau) (lp.Optimal n) × IsReading s.program.rows s.program.columns (table_of s.tableau) status.Optimal s.answer
      ending = optimal_end limit (first_tableau s.program) s.program.rows s.program.columns (table_of s.tableau) s.answer is.solved.end is.solved.run is.solved.read optimal

      -- so the tableau can be read, and has a row for each of the map's
      pub shown : Shown s.program (table_of s.tableau)
      shown = shown_optimal s.program (table_of s.tableau) limit ending.0 ending.1

      pub rows_enough : length m.rows ≤ length s.program.rows
      rows_enough =
          let a = (scaled_program (rows_of r) s.program is.made).count in
          let b = rows_count p setting fits.shaped m (affine_are_known p map.unread m map.reduces) r put in
          omega (arith, a, b)

      is_known : IsKnown p r setting name limit
      is_known = record { number = of.number; at = asked.at; at_is = of.at_is; run = solved_as known status.Optimal optimal }

      abbrev question : Asked
      question = record { position = of.number.at; attribute = of.number.parameter.attribute; at = asked.at }

      question_is : asked ≡ question
      question_is = λ i. record { position = of.position i; attribute = of.attribute i; at = asked.at }

      formed_is : formed p m r setting name limit is_known ≡ operations (table_of s.tableau) s.program.rows m.rows m.objective.constant asked s.answer.number
      unfolding is_known
      formed_is = ap (λ (x : Asked). operations (table_of s.tableau) s.program.rows m.rows m.objective.constant x s.answer.number) (sym question_is)

      free : scales of.number.at m ≡ false
      free = ap (λ k. scales k m) (same_place p name of.number.at ranged.number.at of.number.named.place ranged.number.named.place) ∙ ranged.free

      abbrev Told : Ranged → Type 0
      Told x = RangeGives p m r setting name limit (Ok x) × HoldsOn p (setting_of p setting) name x

      -- where all is formed
      told_by : (constants : HasConstants m) (hs : List Rate) → rates_of of.number.at m.rows s.program.rows ≡ Ok hs → (e : Ends)
          → ends_from (table_of s.tableau) hs asked.at 0 (length s.program.rows) no_ends ≡ Ok e
          → (slope : Frac) → slope_of (table_of s.tableau) hs (length s.program.rows) (coefficient_of of.number.at m.objective.constant) ≡ Ok slope → (constant : Frac)
          → constant_of s.answer.number slope asked.at ≡ Ok constant
          → formed p m r setting name limit is_known ≡ Ok (span (sign_ends of.number.parameter.attribute e) constant slope) → Told (span (sign_ends of.number.parameter.attribute e) constant slope)
      unfolding is_known
      told_by constants hs rates e ends slope slope_is constant constant_is numbers =
          let u = table_of s.tableau in
          let small = small_at s.tableau in
          let at = asked.at in
          let n = of.number in
          let over = holds_along p setting name m map.unread map.dpp map.reduces fits r put n free constants at of.at_is s.program is.made known limit ending.0 u ending.1 s.answer ending.2 small hs
          rates e ends slope constant slope_is constant_is in
          let within = here p setting name m map.unread map.dpp map.reduces fits r put n free constants at of.at_is s.program is.made known limit ending.0 u ending.1 s.answer ending.2 small hs
          rates e ends in
          let same = λ (k : IsNumber p name). same_place p name n.at k.at n.named.place k.named.place in (
            record {
              known = is_known;
              constants = constants;
              numbers = numbers;
              interval = interval p setting name m map.unread map.dpp map.reduces fits r put n free constants at of.at_is s.program is.made known limit ending.0 u ending.1 s.answer
                  ending.2 small hs rates e ends;
            },
            record {
              here = λ k. between n k (same k) (sign_ends n.parameter.attribute e) (value at) (at_value p setting name m map.unread map.dpp map.reduces fits r put n free constants at of.at_is) within;
              along = λ k t fit differ is_in. along n k (same k) (sign_ends n.parameter.attribute e) slope constant over t fit differ is_in;
            },
          )
        where
          -- the parameter of a name has one position
          between : (n k : IsNumber p name) → n.at ≡ k.at → (e : Ends) (v : ℚ) → setting_of p setting n.at 0 ≡ v → IsBetween e.low e.high v → IsBetween e.low e.high (setting_of p setting k.at 0)
          between n k same e v is is_in = subst (IsBetween e.low e.high) (sym is ∙ ap (λ i. setting_of p setting i 0) same) is_in

          along : (n k : IsNumber p name) → n.at ≡ k.at → (e : Ends) (slope constant : Frac)
              → ((t : Parameters) → Fits p t → DifferAt n.at (setting_of p setting) t → IsBetween e.low e.high (t n.at 0) → HasValue p t (value constant +ℚ value slope *ℚ t n.at 0))
              → (t : Parameters) → Fits p t → DifferAt k.at (setting_of p setting) t → IsBetween e.low e.high (t k.at 0) → HasValue p t (value constant +ℚ value slope *ℚ t k.at 0)
          along n k same e slope constant over t fit =
              subst (λ i. DifferAt i (setting_of p setting) t → IsBetween e.low e.high (t i 0) → HasValue p t (value constant +ℚ value slope *ℚ t i 0)) same (over t fit)

      pub told_span : HasConstants m → (x : Ranged) → operations (table_of s.tableau) s.program.rows m.rows m.objective.constant asked s.answer.number ≡ Ok x → Told x
      told_span constants x given =
          let u = table_of s.tableau in
          let n = of.number in
          let c = coefficient_of n.at m.objective.constant in
          let e = formed_is ∙ given in
          let w = (ap (λ (z : Asked). operations u s.program.rows m.rows m.objective.constant z s.answer.number) (sym question_is)) ∙ given in
          let a1 = both_formed (rates_of n.at m.rows s.program.rows) (λ hs. finished u hs (length s.program.rows) c question s.answer.number) x w in
          let a2 = both_formed (ends_from u a1.0 asked.at 0 (length s.program.rows) no_ends)
          (λ f. and_then_slope u a1.0 (length s.program.rows) c question s.answer.number f) x a1.2 in
          let a3 = both_formed (slope_of u a1.0 (length s.program.rows) c) (λ slope. and_then_constant question s.answer.number slope a2.0) x a2.2 in
          let a4 = both_formed (constant_of s.answer.number a3.0 asked.at) (λ constant. Ok (span (sign_ends n.parameter.attribute a2.0) constant a3.0)) x a3.2 in
          let last = a4.2 in
          let d : span (sign_ends n.parameter.attribute a2.0) a4.0 a3.0 ≡ x = cc in
          subst Told d (told_by constants a1.0 a1.1 a2.0 a2.1 a3.0 a3.1 a4.0 a4.1 (e ∙ ap Ok (sym d)))

      pub told_stop : (e : RangeStop) → StopsAt (operations (table_of s.tableau) s.program.rows m.rows m.objective.constant asked s.answer.number) e → RangeGives p m r setting name limit (Err e)
      told_stop (stops.Wide site) h = absurd h
      told_stop (stops.PivotLimit count) h = absurd h
      told_stop (stops.RangeWide passes) h = record { known = is_known; passing = formed_is ∙ h }
      told_stop stops.Memory h = tt

      -- ---- whatever is answered
      abbrev shown_operations : Result Ranged Passes
      shown_operations = operations (table_of s.tableau) s.program.rows m.rows m.objective.constant asked s.answer.number

      pub told_result : (x : Result Ranged RangeStop) → IfOk x (λ a. shown_operations ≡ Ok a) → IfOk x (λ a. HasConstants m) → IfErr x (StopsAt shown_operations)
          → RangeGives p m r setting name limit x
      told_result (Ok x) given constants stop = (told_span constants x given).0
      told_result (Err e) given constants stop = told_stop e stop
