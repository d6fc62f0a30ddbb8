-- The terms so far are handed on.
use Rattle.std.proofs.Common.{◌≡◌, Ok, take, map}
use Rattle.dcx_atom.specs.Linear.{linear_term}
use Rattle.dcx_arena.specs.Nodes.{positions}
use Rattle.dcx_cert_collect.specs.Shares.{with_shares}
use Rattle.dcx_cert_collect.specs.Calls.{term_share}
use Rattle.dcx_cert_collect.proofs.linear.hand_terms.Given as goal

abbrev pub invariant-loop-term : goal.invariant-loop-term
invariant-loop-term l =
    with_shares l.initial.table.items (take l.term-index (map (term_share l.places.tree.now (positions l.places.args.now) l.coefficient) (map linear_term l.terms))) ≡ Ok l.table.items
