-- What holds of all ranges.
use Rattle.std.specs.Prelude.{◌≡◌, ◌≢◌, ℕ, List, Result, Ok, Err, IfOk}
use Rattle.dcx_frac.specs.declared.fraction.Frac.{Frac}
use Rattle.dcx_point.specs.Pairs.{Pairs}
use Rattle.dcx_tree.specs.declared.problem.Problem.{Problem}
use Rattle.dcx_tree.specs.Meaning.{IsFitting, setting_of}
use Rattle.dcx_linear.specs.declared.param_form.ParamForm.{ParamForm}
use Rattle.dcx_graph.specs.Program.{Program}
use Rattle.dcx_graph.specs.Fixing.{FixGives}
use Rattle.dcx_answer.specs.declared.ranged.Ranged.{Ranged}
use Rattle.dcx_answer.specs.declared.range_stop.RangeStop.{RangeStop}
use Rattle.dcx_answer.specs.declared.range_stop.RangeStop.TheVariants as stops
use Rattle.dcx_right.specs.Ranges.{HoldsOn}
use Rattle.dcx_range.specs.Parameters.{IsRanged}
use Rattle.dcx_range.specs.Range.{IsMapOf, RangeGives}

-- whatever a run tells of a parameter that has a range is true of the problem: where the setting fits, and the program with affine
-- coefficients is put at it
abbrev pub RangesAreRight : Type 0
RangesAreRight =
    (p : Problem) (q : Program ParamForm) (r : Program Frac) (setting : Pairs) (name : List ℕ) (limit : ℕ) (x : Result Ranged RangeStop) → IsMapOf p q → IsFitting p setting
    → FixGives setting q (Ok r) → IsRanged p q name →
    RangeGives p q r setting name limit x → IfOk x (HoldsOn p (setting_of p setting) name)

-- two answers are one; want of memory is free
abbrev pub AreOneRange : Result Ranged RangeStop → Result Ranged RangeStop → Type 0
AreOneRange (Ok a) (Ok b) = a ≡ b
AreOneRange (Ok a) (Err stop) = stop ≡ stops.Memory
AreOneRange (Err stop) (Ok b) = stop ≡ stops.Memory
AreOneRange (Err stop) (Err other) = stop ≢ stops.Memory → other ≢ stops.Memory → stop ≡ other

-- a parameter has one range at a setting under a limit, or one stop
abbrev pub RangesAreOne : Type 0
RangesAreOne =
    (p : Problem) (q : Program ParamForm) (r : Program Frac) (setting : Pairs) (name : List ℕ) (limit : ℕ) (x y : Result Ranged RangeStop) → RangeGives p q r setting name limit x
    → RangeGives p q r setting name limit y → AreOneRange x y
