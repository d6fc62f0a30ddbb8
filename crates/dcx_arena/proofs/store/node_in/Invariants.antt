-- The cells that are left are those of the chain from the counter on.
use Rattle.std.proofs.Common.{◌≡◌, ℕ, ◌+◌, ◌-◌}
use Rattle.std.specs.List.{slice_get}
use Rattle.dcx_arena.specs.Chains.{chain, IsChain}
use Rattle.dcx_arena.proofs.store.node_in.Given as goal

abbrev pub invariant-loop : goal.invariant-loop
invariant-loop l = record {
  there : IsChain l.cells (l.count - l.counter) l.at;
  rest : (j : ℕ) → slice_get (chain l.cells (l.count - l.counter) l.at) j ≡ slice_get (chain l.cells l.count l.fn.first) (l.counter + j);
}
