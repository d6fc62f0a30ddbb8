-- The entries so far are counted.
use Rattle.std.proofs.Common.{◌≡◌, Ok}
use Rattle.dcx_atom.specs.Arrays.{list_below}
use Rattle.dcx_atom.specs.Entrywise.{products_from}
use Rattle.dcx_cert_collect.specs.Shares.{frac_in}
use Rattle.dcx_cert_collect.proofs.node.add_products.Given as goal

abbrev pub invariant-loop-e : goal.invariant-loop-e
invariant-loop-e l = products_from l.fn.total (list_below l.e (λ e. (frac_in l.coefficients e, frac_in l.numbers e))) ≡ Ok l.sum
