-- Rows of one length have as many numbers as their array has entries, and sides that don't fit have no array.
use Rattle.std.proofs.Common.{◌≡◌, sym, ap, ◌∙◌, map, length, true, arith}
use Rattle.dcx_shape.specs.Sides.{entries_of}
use Rattle.dcx_script_values.specs.Meant.{meant}
use Rattle.dcx_script_values.specs.Kinds.{are_rows}
use Rattle.dcx_script_values.proofs.Rows.{length-rows, taken_rows, rows_array-many}
use Rattle.dcx_script_values.proofs.reading.rows_array.Goals as goal

pub array_with-requires : goal.array_with-requires
array_with-requires c =
    let equal : are_rows (map meant c.args.values.now) ≡ true = sym c.are_rows.ensures ∙ c.if-not-are_rows.false in
    ap length (taken_rows c.args.values.now c.loop-value.value-index c.loop-value.numbers.items (omega arith) c.loop-value.invariant)
    ∙ length-rows (map meant c.args.values.now) equal
    ∙ ap entries_of (sym c.in-Some.ensures.sides)

pub returns-in-None : goal.returns-in-None
returns-in-None c = sym (rows_array-many (map meant c.args.values.now) c.in-None.ensures.none)
