-- What stands for the nodes so far is given back where this is their last use.
use Rattle.std.proofs.Common.{take}
use Rattle.dcx_arena.specs.Nodes.{positions}
use Rattle.dcx_nodes.specs.Uses.{IsGivenBack}
use Rattle.dcx_nodes.proofs.release.give_back_last.Given as goal

abbrev pub invariant-ids : goal.invariant-ids
invariant-ids g l = IsGivenBack l.uses l.node.0 (positions (take l.id-index l.ids)) l.fn.standing l.standing
