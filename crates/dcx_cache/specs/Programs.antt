-- Which program a session solves at a setting, and what stops it.
use Rattle.std.specs.Prelude.{⊤, [], Result, Ok, Err}
use Rattle.dcx_frac.specs.declared.fraction.Frac.{Frac}
use Rattle.dcx_point.specs.Pairs.{Pairs}
use Rattle.dcx_tree.specs.declared.problem.Problem.{Problem}
use Rattle.dcx_tree.specs.Meaning.{IsDpp, IsFitting, setting_of}
use Rattle.dcx_fit.specs.Fit.{FitsParameters, IsFirstMisfit}
use Rattle.dcx_answer.specs.declared.stop.Stop.{Stop}
use Rattle.dcx_answer.specs.declared.stop.Stop.TheVariants as why
use Rattle.dcx_answer.specs.declared.site.Site.TheVariants as sites
use Rattle.dcx_linear.specs.declared.param_form.ParamForm.{ParamForm}
use Rattle.dcx_graph.specs.declared.stop.ReduceStop.{ReduceStop}
use Rattle.dcx_graph.specs.declared.stop.ReduceStop.TheVariants as stops
use Rattle.dcx_tab.specs.declared.program.Program as tab
use Rattle.dcx_std.specs.IntegerRows.{IsMade}
use Rattle.dcx_std.specs.Solutions.{HasKinds}
use Rattle.dcx_graph.specs.Program.{Program}
use Rattle.dcx_graph.specs.Answers.{rows_of, IsReducedAt}
use Rattle.dcx_graph.specs.Fixing.{FixGives}
use Rattle.dcx_graph.specs.Correct.{ReducesNumbers, ReducesAffine}

-- the problem is accepted also where parameters are affine, and this is its program with affine coefficients, in building which
-- no setting is read
pub record IsMapOf (p : Problem) (q : Program ParamForm) : Type 0 where
  pub dpp : IsDpp p
  pub reduces : ReducesAffine p [] (Ok q)

-- the problem has such a program: there are few rows and columns, no divisor is 0, and no operation passes 128 bits
abbrev pub HasMap : Problem → Type 0
HasMap p = (q : Program ParamForm) × IsMapOf p q

-- the program at a setting, or the first operation that passes there
abbrev pub Fixes : Pairs → Program ParamForm → Result (Program Frac) ReduceStop → Type 0
Fixes setting q (Ok r) = FixGives setting q (Ok r)
Fixes setting q (Err (stops.Wide (sites.Map row passes))) = FixGives setting q (Err (row, passes))
Fixes setting q (Err (stops.Wide (sites.Node node entry passes))) = ⊥
Fixes setting q (Err (stops.Wide (sites.Row row passes))) = ⊥
Fixes setting q (Err (stops.Wide (sites.Pivot pivots row column))) = ⊥
Fixes setting q (Err (stops.Wide (sites.Answer row passes))) = ⊥
Fixes setting q (Err (stops.TooLarge rows columns)) = ⊥
Fixes setting q (Err (stops.ZeroDivisor node entry)) = ⊥
Fixes setting q (Err stops.Memory) = ⊥

-- the program of a session at a setting, or what stops it: the program with affine coefficients is put at the setting where there is
-- one, and else the problem is reduced there
pub data SessionGives (p : Problem) (setting : Pairs) (r : Result (Program Frac) ReduceStop) : Type 0 where
  mapped : (q : Program ParamForm) → IsMapOf p q → Fixes setting q r → SessionGives p setting r
  anew : ¬ HasMap p → ReducesNumbers p setting r → SessionGives p setting r

-- the setting fits the parameters, this is the session's program there, which names unknowns of its own alone, and this is the scaled
-- program of its rows
pub record IsScaledAt (p : Problem) (setting : Pairs) (q : Program Frac) (i : tab.Program) : Type 0 where
  pub fits : FitsParameters p.parameters setting
  pub gives : SessionGives p setting (Ok q)
  pub known : HasKinds (rows_of q)
  pub made : IsMade (rows_of q) i

-- ---- what it is for the problem
-- the setting fits, and the program is a reduced program of the problem there
pub record IsProgramAt (p : Problem) (setting : Pairs) (q : Program Frac) : Type 0 where
  pub fitting : IsFitting p setting
  pub reduced : IsReducedAt p (setting_of p setting) q

-- ---- what stops it
-- the setting fits the parameters, and there this stops the program
pub record IsUnformed (p : Problem) (setting : Pairs) (stop : ReduceStop) : Type 0 where
  pub fits : FitsParameters p.parameters setting
  pub stops : SessionGives p setting (Err stop)

-- what stops the program at a setting: the first misfit, or else the first thing that stops it; want of memory is free
abbrev pub ProgramStops : Problem → Pairs → Stop → Type 0
ProgramStops p setting (why.UnknownParam name) = IsFirstMisfit p.parameters setting (why.UnknownParam name)
ProgramStops p setting (why.MissingParam name) = IsFirstMisfit p.parameters setting (why.MissingParam name)
ProgramStops p setting (why.ParamShape name declared given) = IsFirstMisfit p.parameters setting (why.ParamShape name declared given)
ProgramStops p setting (why.ParamSign name entry value) = IsFirstMisfit p.parameters setting (why.ParamSign name entry value)
ProgramStops p setting (why.TooLarge rows columns) = IsUnformed p setting (stops.TooLarge rows columns)
ProgramStops p setting (why.ZeroDivisor node entry) = IsUnformed p setting (stops.ZeroDivisor node entry)
ProgramStops p setting (why.Wide site) = IsUnformed p setting (stops.Wide site)
ProgramStops p setting (why.PivotLimit count) = ⊥
ProgramStops p setting why.Memory = ⊤
