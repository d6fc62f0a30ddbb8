-- Where no list is nested or empty, the operands are read one after the other.
use Rattle.std.proofs.Common.{◌≡◌, ◌∙◌, sym, false, map}
use Rattle.std.specs.List.{list_any}
use Rattle.dcx_script_values.specs.Kinds.{is_nested, is_empty}
use Rattle.dcx_script_values.specs.View.{read_as}
use Rattle.dcx_script_values.proofs.operands.operands_read.Goals as goal

pub returns : goal.returns
returns c =
    let nested : list_any is_nested (map read_as c.args.readings.items) ≡ false = rw (← c.deref.ensures.value) (sym c.has_nested.ensures ∙ c.if-has_nested.false) in
    let empty : list_any is_empty (map read_as c.args.readings.items) ≡ false = rw (← c.deref-2.ensures.value) (sym c.has_empty.ensures ∙ c.if-has_empty.false) in
    λ s. rw (nested, empty) (c.each_read.ensures s)
