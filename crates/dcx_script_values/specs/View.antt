-- Operands, readings and shapes of the code, as those of the definitions, and what it means that a function returns what
-- was meant.
use Rattle.std.specs.Prelude.{◌≡◌, Bool, true, false, if◌then◌else◌, nat_eq, length, List, Result, Ok, Err}
use Rattle.std.specs.List.{list_all, list_any}
use Rattle.dcx_shape.specs.declared.shape.Sides.{Sides}
use Rattle.dcx_shape.specs.declared.shape.Sides.TheVariants.{Scalar, Vector, Matrix}
use Rattle.dcx_script_values.specs.declared.fault.ElabFault.{ElabFault}
use Rattle.dcx_script_values.specs.declared.fault.ElabFault.TheVariants.{Memory}
use Rattle.dcx_script_values.specs.declared.extent.Extent.{Extent}
use Rattle.dcx_script_values.specs.declared.extent.Extent.TheVariants as extents
use Rattle.dcx_script_values.specs.declared.reading.Operand as code_operand
use Rattle.dcx_script_values.specs.declared.reading.Operand.TheVariants as operands
use Rattle.dcx_script_values.specs.declared.reading.Reading as code_reading
use Rattle.dcx_script_values.specs.declared.reading.Reading.TheVariants as readings
use Rattle.dcx_script_values.specs.declared.reading.ListForm.{ListForm}
use Rattle.dcx_script_values.specs.declared.reading.ListForm.TheVariants as forms
use Rattle.dcx_script_values.specs.Values.{Value, expression, State}
use Rattle.dcx_script_values.specs.Nodes.{Operand, standing, constant}
use Rattle.dcx_script_values.specs.Kinds.{is_number, is_list, Reading, operand, nested, empty, unfit}

-- ---- operands and shapes
abbrev pub meant_operand : code_operand.Operand → Operand
meant_operand (operands.Standing node) = standing node.0
meant_operand (operands.Constant array) = constant array.value

abbrev pub read_as : code_reading.Reading → Reading
read_as (readings.Operand x) = operand (meant_operand x)
read_as readings.Nested = nested
read_as readings.Empty = empty
read_as readings.Unfit = unfit

abbrev pub extent_sides : Extent → Sides
extent_sides extents.Scalar = Scalar
extent_sides (extents.Vector n) = Vector n
extent_sides (extents.Matrix m n) = Matrix m n

-- ---- lists and nodes
-- what a list of these items is where an expression is wanted
abbrev pub form_of : List Value → ListForm
form_of vs =
    if nat_eq (length vs) 0 then forms.Empty
    else (if list_all is_number vs then forms.Numbers else (if list_any is_list vs then forms.Nested else forms.Unfit))

-- a list of this form may be given where an expression is wanted
abbrev pub is_fit_form : ListForm → Bool
is_fit_form forms.Empty = true
is_fit_form forms.Numbers = true
is_fit_form forms.Nested = true
is_fit_form forms.Unfit = false

-- a list of this form is one of numbers, of which there may be none
abbrev pub is_constant_form : ListForm → Bool
is_constant_form forms.Empty = true
is_constant_form forms.Numbers = true
is_constant_form forms.Nested = false
is_constant_form forms.Unfit = false

-- the value is no node
abbrev pub is_node : Value → Bool
is_node (expression i) = true
is_node v = false

abbrev pub HasNoNode : Value → Type 0
HasNoNode v = is_node v ≡ false

-- ---- answers
-- the fault is the first one that was meant, unless memory ran out
abbrev pub Fails : {Y : Type 0} → ElabFault → Result Y ElabFault → Type 0
Fails Memory given = Unit {0}
Fails e given = given ≡ Err e

-- what a function returned, seen by a view, with the state that it left, is what was meant, unless memory ran out
abbrev pub Gives : {X Y : Type 0} → (X → Y) → Result X ElabFault → State → Result (Y × State) ElabFault → Type 0
Gives view (Ok x) after given = given ≡ Ok (view x, after)
Gives view (Err e) after given = Fails e given
