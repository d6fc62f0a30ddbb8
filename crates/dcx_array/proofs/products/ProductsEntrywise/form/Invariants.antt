-- The sum so far is that of the pairs passed.
use Rattle.std.proofs.Common.{◌≡◌, Ok}
use Rattle.dcx_array.proofs.PairSums.{sum_below}
use Rattle.dcx_array.proofs.products.ProductsEntrywise.form.Given as goal

abbrev pub invariant-loop-t : goal.invariant-loop-t
invariant-loop-t l = sum_below l.self.left.now l.self.right.now l.k l.t ≡ Ok l.sum
