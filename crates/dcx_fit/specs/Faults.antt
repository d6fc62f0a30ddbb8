-- The stops that tell faults.
use Rattle.std.specs.Prelude.{◌≡◌, ◌⊎◌, ℕ, List}
use Rattle.dcx_answer.specs.declared.stop.Stop.{Stop}
use Rattle.dcx_answer.specs.declared.stop.Stop.TheVariants.{UnknownParam, MissingParam, ParamShape, ParamSign, Memory}
use Rattle.dcx_fit.specs.declared.fault.Fault.{Fault}
use Rattle.dcx_fit.specs.declared.fault.Fault.TheVariants as faults

-- the stop that tells a fault of this name
abbrev pub stop_of : List ℕ → Fault → Stop
stop_of name faults.Unknown = UnknownParam name
stop_of name faults.Missing = MissingParam name
stop_of name (faults.Shape declared given) = ParamShape name declared given
stop_of name (faults.Sign entry value) = ParamSign name entry value

-- the expected stop, or want of memory
abbrev pub IsOrMemory : Stop → Stop → Type 0
IsOrMemory expected stop = (stop ≡ expected) ⊎ (stop ≡ Memory)
