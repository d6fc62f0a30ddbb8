-- The rows so far are made of their whole rows.
use Rattle.std.proofs.Common.{take}
use Rattle.dcx_std.specs.IntegerRows.{AreMadeOf}
use Rattle.dcx_std.proofs.rows.int_rows.Given as goal

abbrev pub invariant-rows : goal.invariant-rows
invariant-rows l = AreMadeOf l.columns l.count 0 (take l.index l.rows) l.made.items
