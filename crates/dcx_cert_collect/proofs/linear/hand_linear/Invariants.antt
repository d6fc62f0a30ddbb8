-- The entries so far are handed on.
use Rattle.std.proofs.Common.{◌≡◌, Ok, map, get_or, []}
use Rattle.dcx_atom.specs.Arrays.{joined_below}
use Rattle.dcx_atom.specs.Linear.{linear_term}
use Rattle.dcx_arena.specs.Nodes.{positions}
use Rattle.dcx_cert_collect.specs.Shares.{frac_in, with_shares}
use Rattle.dcx_cert_collect.specs.Calls.{term_share}
use Rattle.dcx_cert_collect.proofs.linear.hand_linear.Given as goal

abbrev pub invariant-loop-j : goal.invariant-loop-j
invariant-loop-j l =
    with_shares l.initial.table.items (joined_below l.j (λ j. map (term_share l.places.tree.now (positions l.places.args.now) (frac_in l.coefficients j)) (map linear_term (get_or l.terms j []))))
    ≡ Ok l.table.items
