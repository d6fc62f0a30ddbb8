-- The arrays so far are those of the arguments passed.
use Rattle.std.proofs.Common.{take}
use Rattle.dcx_arena.specs.Nodes.{positions}
use Rattle.dcx_nodes.specs.Numbers.{HaveNumbersOf}
use Rattle.dcx_nodes.proofs.number.arrays_of.Given as goal

abbrev pub invariant-ids : goal.invariant-ids
invariant-ids g l = HaveNumbersOf g.C.Coef.of_number g.C.Coef.number_of l.tree l.args.standing.now (positions (take l.id-index l.args.ids.now)) l.arrays.items
