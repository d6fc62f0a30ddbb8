-- An array of the sides that are told is one of the sides that are given.
use Rattle.std.proofs.Common.{◌≡◌, subst, Option, Result}
use Rattle.dcx_shape.specs.declared.shape.Sides.{Sides}
use Rattle.dcx_atom.specs.declared.array.Array.{Array}
use Rattle.dcx_array.specs.declared.fault.ArrayFault.{ArrayFault}
use Rattle.dcx_array.specs.Answers as arrays
use Rattle.dcx_array.specs.Arrays.{constant}
use Rattle.dcx_script_values.specs.declared.fault.ElabFault.TheVariants.{BadArgument}
use Rattle.dcx_script_values.specs.Values.{and_then, or_fault, or_array_fault}
use Rattle.dcx_script_values.specs.Operands.{as_plain}
use Rattle.dcx_script_values.specs.Meant.{meant}
use Rattle.dcx_script_values.specs.View.{extent_sides, Gives}
use Rattle.dcx_functions.proofs.Told.{made-same}
use Rattle.dcx_functions.proofs.plain.filled.Goals as goal

pub returns : goal.returns
returns c =
    let x = c.args.number in
    let sides = extent_sides c.in-Some.extent in
    let same : constant c.told.result x ≡ constant sides x = made-same c.told.result sides (λ k. x) c.told.ensures.shape c.told.ensures.entries in
    let answers : arrays.Gives c.constant.result (constant sides x) = subst (λ (m : Result Array ArrayFault). arrays.Gives c.constant.result m) same c.constant.ensures in
    λ s. subst (λ (o : Option Sides). Gives meant c.as_plain.result s (and_then (or_fault (BadArgument c.args.place) o s) (λ a. as_plain (or_array_fault c.args.place (constant a x)))))
    c.in-Some.ensures (c.as_plain.ensures (constant sides x) s answers)
