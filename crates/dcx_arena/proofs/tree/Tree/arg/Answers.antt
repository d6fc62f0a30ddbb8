-- The chain of a node names its arguments: past its length there is none, and else its cell tells which.
use Rattle.std.proofs.Common.{◌≤◌, length, sym, refl, arith}
use Rattle.std.proofs.lemmas.Option.{slice_get_read, slice_get_past}
use Rattle.dcx_arena.specs.Chains.{chain}
use Rattle.dcx_arena.proofs.Shapes.{args_stored}
use Rattle.dcx_arena.proofs.Walks.{chain_length}
use Rattle.dcx_arena.proofs.tree.Tree.arg.Goals as goal

pub returns-then-i-stored : goal.returns-then-i-stored
returns-then-i-stored g c =
    let cells = c.self.inside.store.cells.items in
    let stored = c.self.inside.store.stored.items in
    let s = c.in_ok-stored.stored.now in
    let there = rw c.deref.ensures.value at c.in_ok-stored.ensures.lookup in
    let e = slice_get_read stored (length stored) c.args.node.0 s refl there.3.0 there.1 in
    let n = chain_length cells s.count s.first in
    let past : length (chain cells s.count s.first) ≤ c.args.i = omega (arith, n, c.if-i-stored.true) in
    rw (← c.self.view_is, args_stored cells stored c.args.node.0 s e) (sym (slice_get_past (chain cells s.count s.first) c.args.i past))

pub node_in-requires-clause-chain : goal.node_in-requires-clause-chain
node_in-requires-clause-chain g c =
    let stored = c.self.inside.store.stored.items in
    let s = c.in_ok-stored.stored.now in
    let there = rw c.deref.ensures.value at c.in_ok-stored.ensures.lookup in
    let e = slice_get_read stored (length stored) c.args.node.0 s refl there.3.0 there.1 in
    rw c.deref-2.ensures.value (c.self.invariant.kept.chained c.args.node.0 s e)

pub returns : goal.returns
returns g c =
    let cells = c.self.inside.store.cells.items in
    let stored = c.self.inside.store.stored.items in
    let s = c.in_ok-stored.stored.now in
    let there = rw c.deref.ensures.value at c.in_ok-stored.ensures.lookup in
    let e = slice_get_read stored (length stored) c.args.node.0 s refl there.3.0 there.1 in
    rw (← c.self.view_is, args_stored cells stored c.args.node.0 s e) (sym (rw c.deref-2.ensures.value at c.node_in.ensures))
