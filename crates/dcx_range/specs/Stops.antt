-- The stops of a range.
use Rattle.std.specs.Prelude.{◌≡◌, ⊤, Result, Err}
use Rattle.dcx_lp_solve.specs.declared.stop.SolveStop.{SolveStop}
use Rattle.dcx_lp_solve.specs.declared.stop.SolveStop.TheVariants as solves
use Rattle.dcx_frac.specs.declared.fraction.Passes.{Passes}
use Rattle.dcx_answer.specs.declared.range_stop.RangeStop.{RangeStop}
use Rattle.dcx_answer.specs.declared.range_stop.RangeStop.TheVariants as stops

-- an operation of the range passes, and it is the first; want of memory is free
abbrev pub StopsAt : {A : Type 0} → Result A Passes → RangeStop → Type 0
StopsAt formed (stops.Wide site) = ⊥
StopsAt formed (stops.PivotLimit count) = ⊥
StopsAt formed (stops.RangeWide passes) = formed ≡ Err passes
StopsAt formed stops.Memory = ⊤

-- the stop is one of a run: the rows and the columns aren't too many
abbrev pub IsOfRun : SolveStop → Type 0
IsOfRun (solves.TooLarge rows columns) = ⊥
IsOfRun (solves.Wide site) = ⊤
IsOfRun (solves.PivotLimit count) = ⊤
IsOfRun solves.Memory = ⊤

-- a stop of a run is told so
abbrev pub IsToldAs : SolveStop → RangeStop → Type 0
IsToldAs (solves.TooLarge rows columns) e = ⊥
IsToldAs (solves.Wide site) e = e ≡ stops.Wide site
IsToldAs (solves.PivotLimit count) e = e ≡ stops.PivotLimit count
IsToldAs solves.Memory e = e ≡ stops.Memory
