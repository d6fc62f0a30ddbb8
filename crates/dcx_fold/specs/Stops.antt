-- Why one entry of a value, or the slopes of one group, are not formed.
use Rattle.std.specs.Prelude.{◌≡◌, ℕ, ◌<◌, List, Some, Err, IsOk, ⊤}
use Rattle.dcx_math.specs.Rational.{ℚ}
use Rattle.dcx_atom.specs.declared.stops.SlopeStop.{SlopeStop}
use Rattle.dcx_atom.specs.declared.stops.SlopeStop.TheVariants as slopes
use Rattle.dcx_atom.specs.declared.stops.ValueStop.{ValueStop}
use Rattle.dcx_atom.specs.declared.stops.ValueStop.TheVariants as values
use Rattle.dcx_atom.specs.Formed.{sum_in_order}
use Rattle.dcx_atom.specs.Steps.{Step, first_stop}

-- the first stop of the steps of entry j, or want of memory
abbrev pub IsStopAmong : ℕ → List Step → SlopeStop → Type 0
IsStopAmong j steps (slopes.Refused entry stated found) = first_stop j steps ≡ Some (slopes.Refused entry stated found)
IsStopAmong j steps (slopes.Passes passes) = first_stop j steps ≡ Some (slopes.Passes passes)
IsStopAmong j steps slopes.Memory = ⊤

-- the first addition of the summands of entry j that passes, or want of memory
abbrev pub IsStopOfSum : ℕ → List ℚ → ValueStop → Type 0
IsStopOfSum j summands (values.Passes entry passes) = (entry ≡ j) × (sum_in_order summands ≡ Err passes)
IsStopOfSum j summands (values.ZeroDivisor entry) = ⊥
IsStopOfSum j summands values.Memory = ⊤

-- of the first `size` entries, each of which is formed as a sum of summands: the first addition that passes, or want of memory
abbrev pub IsFirstOfSums : ℕ → (ℕ → List ℚ) → ValueStop → Type 0
IsFirstOfSums size summands (values.Passes entry passes) = (entry < size) × (((j : ℕ) → j < entry → IsOk (sum_in_order (summands j))) × (sum_in_order (summands entry) ≡ Err passes))
IsFirstOfSums size summands (values.ZeroDivisor entry) = ⊥
IsFirstOfSums size summands values.Memory = ⊤
