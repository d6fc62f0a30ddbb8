-- Behind the cells that were there stands one for each argument so far.
use Rattle.std.proofs.Common.{◌≡◌, ◌++◌, length, take}
use Rattle.dcx_arena.specs.Nodes.{positions}
use Rattle.dcx_arena.proofs.Cells.{cells_from}
use Rattle.dcx_arena.proofs.store.add_cells.Given as goal

abbrev pub invariant-loop-a : goal.invariant-loop-a
invariant-loop-a l = l.cells.items ≡ l.fn.cells.items ++ cells_from (length l.fn.cells.items) (take l.a-index (positions l.args))
