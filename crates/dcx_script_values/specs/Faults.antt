-- The faults of trees and of plain arrays as those of a script, at the place of what meets them.
use Rattle.dcx_shape.specs.declared.place.Place.{Place}
use Rattle.dcx_arena.specs.declared.fault.Count.TheVariants.{Items}
use Rattle.dcx_arena.specs.declared.fault.TreeFault.{TreeFault}
use Rattle.dcx_arena.specs.declared.fault.TreeFault.TheVariants as tree_faults
use Rattle.dcx_array.specs.declared.fault.ArrayFault.{ArrayFault}
use Rattle.dcx_array.specs.declared.fault.ArrayFault.TheVariants as array_faults
use Rattle.dcx_array.specs.Shapes.{told}
use Rattle.dcx_script_values.specs.declared.fault.ElabFault.{ElabFault}
use Rattle.dcx_script_values.specs.declared.fault.ElabFault.TheVariants.{BadArgument, ShapeClash, IndexRange, EmptyResult, TooMany, PlainWide, Memory}

abbrev pub array_fault_at : Place → ArrayFault → ElabFault
array_fault_at place array_faults.Clash = ShapeClash place
array_fault_at place array_faults.ZeroDivisor = BadArgument place
array_fault_at place (array_faults.TooMany n) = TooMany place Items n
array_fault_at place (array_faults.Wide passes) = PlainWide place passes
array_fault_at place array_faults.Range = IndexRange place
array_fault_at place array_faults.Empty = EmptyResult place
array_fault_at place array_faults.Memory = Memory

-- a count that is too great for its type is told as the greatest
abbrev pub tree_fault_at : Place → TreeFault → ElabFault
tree_fault_at place tree_faults.Clash = ShapeClash place
tree_fault_at place (tree_faults.TooMany what n) = TooMany place what (told n)
tree_fault_at place tree_faults.Memory = Memory
