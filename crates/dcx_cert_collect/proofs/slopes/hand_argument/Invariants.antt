-- The entries so far are handed on.
use Rattle.std.proofs.Common.{◌≡◌, Ok}
use Rattle.dcx_atom.specs.Arrays.{list_below}
use Rattle.dcx_arena.specs.Nodes.{positions}
use Rattle.dcx_cert_collect.specs.Shares.{frac_in, with_shares}
use Rattle.dcx_cert_collect.specs.Calls.{share_to}
use Rattle.dcx_cert_collect.proofs.slopes.hand_argument.Given as goal

abbrev pub invariant-loop-e : goal.invariant-loop-e
invariant-loop-e l =
    with_shares l.initial.table.items (list_below l.e (λ e. share_to l.places.tree.now (positions l.places.args.now) l.argument e (Ok (frac_in l.slopes e)))) ≡ Ok l.table.items
