-- The operands so far, and then what the readings that are left give, are what all readings give.
use Rattle.std.proofs.Common.{◌≡◌, map}
use Rattle.std.specs.Vec.Iter.{into_iter_items}
use Rattle.dcx_script_values.specs.Values.{State}
use Rattle.dcx_script_values.specs.Operands.{each_read}
use Rattle.dcx_script_values.specs.View.{read_as, meant_operand}
use Rattle.dcx_script_values.proofs.Acts.{read_on}
use Rattle.dcx_script_values.proofs.operands.each_read.Given as goal

abbrev pub invariant-loop-reading : goal.invariant-loop-reading
invariant-loop-reading l = (s : State)
    → each_read l.place (map read_as l.fn.readings.items) s ≡ read_on l.place (map meant_operand l.operands.items) (map read_as (into_iter_items l.reading-iterator)) s
