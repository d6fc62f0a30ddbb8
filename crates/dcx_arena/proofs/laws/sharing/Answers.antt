-- Each node has an expression and no other one, and no two nodes share one.
use Rattle.dcx_arena.proofs.Unfolds.{unfold_one, one_unfolding, shared_one}
use Rattle.dcx_arena.proofs.laws.sharing.Goals as goal

pub returns : goal.returns
returns g c = record {
  exists = λ nodes are i lt. unfold_one g.C.Operator.gives nodes are i lt;
  one = λ nodes is t u h k. one_unfolding nodes is t u h k;
  shared = λ nodes are i j t h k. shared_one g.C.Operator.gives nodes are t i j h k;
}
