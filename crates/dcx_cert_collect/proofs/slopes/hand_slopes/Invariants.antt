-- The arguments so far are handed on, and the slopes of the others are left.
use Rattle.std.proofs.Common.{◌≡◌, ◌+◌, drop, Ok}
use Rattle.dcx_shape.specs.Sides.{entries_of}
use Rattle.dcx_atom.specs.Arrays.{list_below, joined_below, sides_at, sides_list, entries_before}
use Rattle.dcx_arena.specs.Nodes.{positions}
use Rattle.dcx_cert_collect.specs.Shares.{frac_in, with_shares}
use Rattle.dcx_cert_collect.specs.Calls.{share_to}
use Rattle.dcx_cert_collect.proofs.slopes.hand_slopes.Given as goal

abbrev pub invariant-loop-k : goal.invariant-loop-k
invariant-loop-k l =
    (l.rest ≡ drop (entries_before (sides_list l.shapes) l.k) l.slopes)
    × (with_shares l.initial.table.items (joined_below l.k (λ k. list_below (entries_of (sides_at (sides_list l.shapes) k)) (λ e.
    share_to l.places.tree.now (positions l.places.args.now) k e (Ok (frac_in l.slopes (entries_before (sides_list l.shapes) k + e)))))) ≡ Ok l.table.items)
