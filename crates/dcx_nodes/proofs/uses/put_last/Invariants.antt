-- The nodes so far have the place as their last use.
use Rattle.std.proofs.Common.{take}
use Rattle.dcx_arena.specs.Nodes.{positions}
use Rattle.dcx_nodes.specs.Uses.{IsPut}
use Rattle.dcx_nodes.proofs.uses.put_last.Given as goal

abbrev pub invariant-ids : goal.invariant-ids
invariant-ids l = IsPut (positions (take l.id-index l.ids)) l.place l.fn.uses l.uses
