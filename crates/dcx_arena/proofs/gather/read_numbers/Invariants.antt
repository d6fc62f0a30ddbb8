-- The numbers so far, and then the nodes that are left of the chain, stand for the whole chain.
use Rattle.std.proofs.Common.{◌≡◌, ℕ, ◌-◌, ◌++◌, map, Some, true}
use Rattle.std.specs.List.{slice_get}
use Rattle.dcx_arena.specs.Nodes.{positions}
use Rattle.dcx_arena.specs.Chains.{chain, IsChain}
use Rattle.dcx_arena.specs.Gather.{has}
use Rattle.dcx_arena.proofs.gather.read_numbers.Given as goal

abbrev pub invariant-loop : goal.invariant-loop
invariant-loop l = record {
  there : IsChain l.cells (l.count - l.counter) l.at;
  known : (a : ℕ) → has (chain l.cells (l.count - l.counter) l.at) a ≡ true → has l.finished.order.items a ≡ true;
  rest : map (slice_get l.finished.order.items) (positions l.numbers.items) ++ map Some (chain l.cells (l.count - l.counter) l.at) ≡ map Some (chain l.cells l.count l.fn.first);
}
