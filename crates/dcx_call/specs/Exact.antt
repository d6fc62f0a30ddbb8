-- A formed entry of a call is that of its value.
use Rattle.std.specs.Prelude.{◌≡◌, ℕ, ◌<◌, List, Some, Ok}
use Rattle.dcx_frac.specs.declared.fraction.Frac.{Frac}
use Rattle.dcx_frac.specs.Frac.{value}
use Rattle.dcx_shape.specs.declared.shape.Sides.{Sides}
use Rattle.dcx_shape.specs.Sides.{entries_of}
use Rattle.dcx_atom.specs.Arrays.{Entries}
use Rattle.dcx_atom.specs.Fractions.{AreFractions, HaveFewEntries}
use Rattle.dcx_point.specs.Pairs.{Pairs}
use Rattle.dcx_call.specs.declared.call.Call.{Call}
use Rattle.dcx_call.specs.Calls.{shape_of}
use Rattle.dcx_call.specs.Values.{given_by, call_value, entry_formed}

-- entry j as it is formed is that of the value
abbrev pub IsExact : Call → (setting point : Pairs) → List Sides → Entries → ℕ → Type 0
IsExact call setting point args a j =
    (x : Frac) → entry_formed call (given_by setting) (given_by point) args a j ≡ Ok x → value x ≡ call_value call (given_by setting) (given_by point) args a j

-- ---- the statement
abbrev pub FormsExactly : Type 0
FormsExactly = (call : Call) (setting point : Pairs) (args : List Sides) (sides : Sides) (a : Entries) → shape_of call args ≡ Some sides → HaveFewEntries args → AreFractions a →
    (j : ℕ) → j < entries_of sides → IsExact call setting point args a j
