-- The entries so far are handed on.
use Rattle.std.proofs.Common.{◌≡◌, Ok, map, get_or, []}
use Rattle.dcx_atom.specs.Arrays.{joined_below}
use Rattle.dcx_arena.specs.Nodes.{positions}
use Rattle.dcx_cert_collect.specs.Shares.{frac_in, with_shares}
use Rattle.dcx_cert_collect.specs.Calls.{pair_share}
use Rattle.dcx_cert_collect.proofs.pairs.hand_pairs.Given as goal

abbrev pub invariant-loop-j : goal.invariant-loop-j
invariant-loop-j l =
    with_shares l.initial.table.items (joined_below l.j (λ j. map (pair_share l.places.tree.now (positions l.places.args.now) l.scaling l.numbers (frac_in l.coefficients j)) (get_or l.pairs j [])))
    ≡ Ok l.table.items
