-- The chain names the nodes exactly where the cells that are left name those that are left.
use Rattle.std.proofs.Common.{◌≡◌, ◌-◌, ◌↔◌, drop}
use Rattle.dcx_arena.specs.Nodes.{positions}
use Rattle.dcx_arena.specs.Chains.{chain, IsChain}
use Rattle.dcx_arena.proofs.store.is_chain_of.Given as goal

abbrev pub invariant-loop-a : goal.invariant-loop-a
invariant-loop-a l = record {
  there : IsChain l.cells (l.fn.count - l.a-index) l.at;
  rest : (chain l.cells l.fn.count l.fn.first ≡ positions l.args) ↔ (chain l.cells (l.fn.count - l.a-index) l.at ≡ drop l.a-index (positions l.args));
}
