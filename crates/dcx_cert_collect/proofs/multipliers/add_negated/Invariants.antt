-- The entries so far have their numbers.
use Rattle.std.proofs.Common.{◌≡◌, Some, Ok}
use Rattle.dcx_math.specs.Rational.{neg_ℚ}
use Rattle.dcx_frac.specs.Frac.{value}
use Rattle.dcx_atom.specs.Formed.{frac_at}
use Rattle.dcx_atom.specs.Arrays.{list_below}
use Rattle.dcx_cert_collect.specs.Shares.{frac_in, share_of, with_shares}
use Rattle.dcx_cert_collect.specs.Starts.{place_of}
use Rattle.dcx_cert_collect.proofs.multipliers.add_negated.Given as goal

abbrev pub invariant-loop-e : goal.invariant-loop-e
invariant-loop-e l = with_shares l.initial.table.items (list_below l.e (λ e. share_of (place_of l.tree (Some l.node.0) e) (Ok (frac_at (neg_ℚ (value (frac_in l.array.entries e)))))))
    ≡ Ok l.table.items
