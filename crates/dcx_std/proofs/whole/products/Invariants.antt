-- In the place of each unknown stands the product with the coefficient that the terms so far tell.
use Rattle.std.proofs.Common.{◌≡◌, ℕ, ◌<◌, length, take}
use Rattle.dcx_tab.specs.Rows.{entry}
use Rattle.dcx_std.specs.WholeRows.{product_with}
use Rattle.dcx_std.proofs.Products.{IsNumerator}
use Rattle.dcx_std.proofs.whole.products.Given as goal

abbrev pub invariant-terms : goal.invariant-terms
invariant-terms l = record {
  count : length l.products.items ≡ l.count;
  told : (u : ℕ) → u < l.count → IsNumerator (product_with l.by l.is_turned (take l.term-index l.terms) u) (entry l.products.items u);
}
