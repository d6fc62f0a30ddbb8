-- Ranges of equal numbers.
use Rattle.std.specs.Prelude.{◌≡◌, ℤ, Result}
use Rattle.std.proofs.Common.{subst}
use Rattle.dcx_shape.specs.declared.place.Place.{Place}
use Rattle.dcx_script_values.specs.declared.value.Value as code_value
use Rattle.dcx_script_values.specs.declared.fault.ElabFault.{ElabFault}
use Rattle.dcx_script_values.specs.Values.{State}
use Rattle.dcx_script_values.specs.Meant.{meant}
use Rattle.dcx_script_values.specs.View.{Gives}
use Rattle.dcx_signature.specs.Turns.{range_from}

-- what is given of a range is given of one of the same numbers
pub range-same : (place : Place) (r : Result code_value.Value ElabFault) (s : State) (first stop step a b d : ℤ) → first ≡ a → stop ≡ b → step ≡ d
    → Gives meant r s (range_from place first stop step s) → Gives meant r s (range_from place a b d s)
range-same place r s first stop step a b d e f g h =
    subst (λ z. Gives meant r s (range_from place z b d s)) e
    (subst (λ z. Gives meant r s (range_from place first z d s)) f
    (subst (λ z. Gives meant r s (range_from place first stop z s)) g h))
