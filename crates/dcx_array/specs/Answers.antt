-- What a call answers: a value or the first fault, in order.
use Rattle.std.specs.Prelude.{◌≡◌, ◌⊎◌, Bool, if◌then◌else◌, Result, Ok, Err}
use Rattle.dcx_shape.specs.declared.fault.ShapeFault.{ShapeFault}
use Rattle.dcx_shape.specs.declared.fault.ShapeFault.TheVariants as shape_faults
use Rattle.dcx_array.specs.declared.fault.ArrayFault.{ArrayFault}
use Rattle.dcx_array.specs.declared.fault.ArrayFault.TheVariants.{Clash, Range, Empty, Memory}

-- goes on with what is there
abbrev pub and_then : {A B : Type 0} → Result A ArrayFault → (A → Result B ArrayFault) → Result B ArrayFault
and_then (Ok x) f = f x
and_then (Err fault) f = Err fault

infixl 10 ◌>>=◌
abbrev pub ◌>>=◌ : {A B : Type 0} → Result A ArrayFault → (A → Result B ArrayFault) → Result B ArrayFault
r >>= f = and_then r f

infixl 10 ◌>>◌
abbrev pub ◌>>◌ : {B : Type 0} → Result (Unit {0}) ArrayFault → Result B ArrayFault → Result B ArrayFault
r >> q = and_then r (λ _. q)

-- goes on where the test holds, and ends with the fault where it doesn't
abbrev pub unless : ArrayFault → Bool → Result (Unit {0}) ArrayFault
unless fault b = if b then Ok tt else Err fault

-- what was answered is what is meant, unless memory ran out
abbrev pub Gives : {A : Type 0} → Result A ArrayFault → Result A ArrayFault → Type 0
Gives answered meant = (answered ≡ Err Memory) ⊎ (answered ≡ meant)

-- why picks take nothing
abbrev pub fault_of : ShapeFault → ArrayFault
fault_of shape_faults.Clash = Clash
fault_of shape_faults.Range = Range
fault_of shape_faults.Empty = Empty
fault_of shape_faults.Memory = Memory
