-- Rows have one scaled program, or one stop and no program. Want of memory is free.
use Rattle.std.specs.Prelude.{◌≡◌, ◌≢◌}
use Rattle.dcx_tab.specs.declared.program.Program.{Program}
use Rattle.dcx_std.specs.declared.stop.RowStop.{RowStop}
use Rattle.dcx_std.specs.declared.stop.RowStop.TheVariants as stops
use Rattle.dcx_std.specs.GivenRows.{GivenRows}
use Rattle.dcx_std.specs.IntegerRows.{IsMade, IsStopOf}

-- rows have one scaled program
abbrev pub ProgramsAreOne : Type 0
ProgramsAreOne = (rows : GivenRows) (q r : Program) → IsMade rows q → IsMade rows r → q ≡ r

-- rows that have a scaled program have no stop but want of memory
abbrev pub MadeOrStopped : Type 0
MadeOrStopped = (rows : GivenRows) (q : Program) (stop : RowStop) → IsMade rows q → IsStopOf rows stop → stop ≡ stops.Memory

-- rows have one stop, want of memory aside
abbrev pub StopsAreOne : Type 0
StopsAreOne = (rows : GivenRows) (s t : RowStop) → IsStopOf rows s → IsStopOf rows t → s ≢ stops.Memory → t ≢ stops.Memory → s ≡ t
