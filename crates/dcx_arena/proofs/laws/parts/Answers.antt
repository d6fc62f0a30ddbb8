-- The laws of parts: how nodes are finished, which are reached, that each is once, and what they stand for.
use Rattle.dcx_arena.specs.Gather.{order_of}
use Rattle.dcx_arena.proofs.Orders.{postorder_is}
use Rattle.dcx_arena.proofs.Unfolds.{reached_there, there_reached, unfolds_there, unfolds_here}
use Rattle.dcx_arena.proofs.OneGathering.{order_once}
use Rattle.dcx_arena.proofs.laws.parts.Goals as goal

pub returns : goal.returns
returns g c = record {
  finishing = λ nodes are i. postorder_is g.C.Operator.gives nodes are i;
  reached = λ nodes are roots j. (there_reached g.C.Operator.gives nodes are roots j, reached_there g.C.Operator.gives nodes are roots j);
  once = λ nodes roots. order_once nodes roots;
  unfolding_kept = λ nodes part roots ends h there here e t.
      (unfolds_there nodes part (order_of nodes roots) h.count h.renamed t there here e, unfolds_here nodes part (order_of nodes roots) h.count h.renamed t there here e);
}
