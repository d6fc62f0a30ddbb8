-- What is told of the range of a parameter.
use Rattle.std.specs.Prelude.{◌≡◌, ⊤, ℕ, ◌↔◌, List, Some, Result, Ok, Err}
use Rattle.dcx_math.specs.Rational.{ℚ}
use Rattle.dcx_frac.specs.declared.fraction.Frac.{Frac}
use Rattle.dcx_frac.specs.declared.fraction.Passes.{Passes}
use Rattle.dcx_point.specs.Pairs.{Pairs}
use Rattle.dcx_tree.specs.declared.problem.Problem.{Problem}
use Rattle.dcx_tree.specs.Meaning.{IsDpp, setting_of}
use Rattle.dcx_linear.specs.declared.param_form.ParamForm.{ParamForm}
use Rattle.dcx_linear.specs.Parameters.{entry_of}
use Rattle.dcx_chained.specs.Tables.{table_of}
use Rattle.dcx_lp_answer.specs.declared.answer.LpStatus.{LpStatus}
use Rattle.dcx_lp_answer.specs.declared.answer.LpStatus.TheVariants as status
use Rattle.dcx_std.specs.Solutions.{HasKinds}
use Rattle.dcx_lp_solve.specs.declared.solving.Solved.{Solved}
use Rattle.dcx_lp_solve.specs.declared.stop.SolveStop.TheVariants as solves
use Rattle.dcx_lp_solve.specs.Solved.{IsSolved, Stops}
use Rattle.dcx_graph.specs.Program.{Program}
use Rattle.dcx_graph.specs.Answers.{rows_of}
use Rattle.dcx_graph.specs.Correct.{ReducesAffine}
use Rattle.dcx_range.specs.declared.asked.Asked.{Asked}
use Rattle.dcx_answer.specs.declared.ranged.Ranged.{Ranged}
use Rattle.dcx_answer.specs.declared.ranged.Ranged.TheVariants.{Span, Infeasible, Unbounded}
use Rattle.dcx_answer.specs.declared.range_stop.RangeStop.{RangeStop}
use Rattle.dcx_answer.specs.declared.range_stop.RangeStop.TheVariants as stops
use Rattle.dcx_right.specs.Ranges.{IsNumber, IsBetween}
use Rattle.dcx_range.specs.Coefficients.{HasConstants}
use Rattle.dcx_range.specs.Operations.{operations}
use Rattle.dcx_range.specs.Interval.{IsInInterval}

-- the rules accept the problem with parameters affine, and this is its program with affine coefficients, in building which some setting
-- was at hand
pub record IsMapOf (p : Problem) (q : Program ParamForm) : Type 0 where
  pub dpp : IsDpp p
  pub unread : Pairs
  pub reduces : ReducesAffine p unread (Ok q)

-- what a range is asked of: the position and the attribute of the parameter with this name, and its value at the setting
pub record IsAsked (p : Problem) (setting : Pairs) (name : List ℕ) (a : Asked) : Type 0 where
  pub number : IsNumber p name
  pub position : a.position ≡ number.at
  pub attribute : a.attribute ≡ number.parameter.attribute
  pub at_is : entry_of setting name 0 ≡ Some a.at

-- ---- the run
-- the rows of the program name unknowns of their own alone, and they are solved with this status: the run of at most so many pivots ends
-- at the tableau that is kept, and this answer is read there
pub record IsSolvedAs (r : Program Frac) (limit : ℕ) (t : LpStatus) : Type 0 where
  pub known : HasKinds (rows_of r)
  pub solved : Solved
  pub is_solved : IsSolved limit (rows_of r) solved
  pub status : solved.answer.status ≡ t

-- ---- the span
-- the run at the setting ends optimal, and these are the parameter and its value there
pub record IsKnown (p : Problem) (r : Program Frac) (setting : Pairs) (name : List ℕ) (limit : ℕ) : Type 0 where
  pub number : IsNumber p name
  pub at : Frac
  pub at_is : entry_of setting name 0 ≡ Some at
  pub run : IsSolvedAs r limit status.Optimal

-- what the operations form at its last basis
abbrev pub formed : (p : Problem) (q : Program ParamForm) (r : Program Frac) (setting : Pairs) (name : List ℕ) (limit : ℕ) → IsKnown p r setting name limit → Result Ranged Passes
formed p q r setting name limit s =
    operations (table_of s.run.solved.tableau) s.run.solved.program.rows q.rows q.objective.constant
    (record { position = s.number.at; attribute = s.number.parameter.attribute; at = s.at }) s.run.solved.answer.number

-- the value is in the span
abbrev pub IsIn : Ranged → ℚ → Type 0
IsIn (Span low high constant slope) v = IsBetween low high v
IsIn Infeasible v = ⊥
IsIn Unbounded v = ⊥

-- the numbers are those that the operations form of constants whose entries rise, and the span is the interval at whose values the last
-- basis stays feasible
pub record IsSpan (p : Problem) (q : Program ParamForm) (r : Program Frac) (setting : Pairs) (name : List ℕ) (limit : ℕ) (answer : Ranged) : Type 0 where
  pub known : IsKnown p r setting name limit
  pub constants : HasConstants q
  pub numbers : formed p q r setting name limit known ≡ Ok answer
  pub interval : (v : ℚ) → IsIn answer v ↔ IsInInterval known.run.solved.program (table_of known.run.solved.tableau) q.rows (setting_of p setting) known.number.at known.number.parameter.attribute v

-- the first operation of the range that passes
pub record IsPassing (p : Problem) (q : Program ParamForm) (r : Program Frac) (setting : Pairs) (name : List ℕ) (limit : ℕ) (passes : Passes) : Type 0 where
  pub known : IsKnown p r setting name limit
  pub passing : formed p q r setting name limit known ≡ Err passes

-- ---- what is answered
abbrev pub RangeGives : Problem → Program ParamForm → Program Frac → Pairs → List ℕ → ℕ → Result Ranged RangeStop → Type 0
RangeGives p q r setting name limit (Ok (Span low high constant slope)) = IsSpan p q r setting name limit (Span low high constant slope)
RangeGives p q r setting name limit (Ok Infeasible) = IsSolvedAs r limit status.Infeasible
RangeGives p q r setting name limit (Ok Unbounded) = IsSolvedAs r limit status.Unbounded
RangeGives p q r setting name limit (Err (stops.Wide site)) = Stops limit (rows_of r) (solves.Wide site)
RangeGives p q r setting name limit (Err (stops.PivotLimit count)) = Stops limit (rows_of r) (solves.PivotLimit count)
RangeGives p q r setting name limit (Err (stops.RangeWide passes)) = IsPassing p q r setting name limit passes
RangeGives p q r setting name limit (Err stops.Memory) = ⊤
