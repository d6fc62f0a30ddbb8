-- The numerators so far, followed by those of the rest, are all.
use Rattle.std.proofs.Common.{◌≡◌, map, drop}
use Rattle.dcx_frac.specs.Results.{product_of}
use Rattle.dcx_linear.proofs.Formed.{after}
use Rattle.dcx_std.specs.WholeRows.{numerators}
use Rattle.dcx_std.proofs.whole.more_products.Given as goal

abbrev pub invariant-numbers : goal.invariant-numbers
invariant-numbers l = after l.products.items (numerators (map (product_of l.by) (drop l.number-index l.numbers))) ≡ after l.fn.products.items (numerators (map (product_of l.by) l.numbers))
