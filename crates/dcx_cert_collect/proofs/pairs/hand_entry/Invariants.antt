-- The pairs so far are handed on.
use Rattle.std.proofs.Common.{◌≡◌, Ok, take, map}
use Rattle.dcx_arena.specs.Nodes.{positions}
use Rattle.dcx_cert_collect.specs.Shares.{with_shares}
use Rattle.dcx_cert_collect.specs.Calls.{pair_share}
use Rattle.dcx_cert_collect.proofs.pairs.hand_entry.Given as goal

abbrev pub invariant-loop-pair : goal.invariant-loop-pair
invariant-loop-pair l =
    with_shares l.initial.table.items (take l.pair-index (map (pair_share l.places.tree.now (positions l.places.args.now) l.scaling l.numbers l.coefficient) l.pairs)) ≡ Ok l.table.items
