-- Each product is added to the sum of those before it.
use Rattle.std.proofs.Common.{◌≡◌, ◌+◌, ◌≤◌, sym, ap, ◌∙◌, arith, Ok}
use Rattle.std.proofs.lemmas.Result.{err_from_is_err_and}
use Rattle.dcx_shape.specs.Shape.{sides_of}
use Rattle.dcx_shape.specs.Sides.{cols_of}
use Rattle.dcx_atom.proofs.FormedSums.{zero_frac-unique}
use Rattle.dcx_array.proofs.PairSums.{sum_below, all_products, told_product, stopped_product}
use Rattle.dcx_array.proofs.products.ProductsEntrywise.form.Goals as goal

pub loop-t-init : goal.loop-t-init
loop-t-init c = ap Ok (sym (zero_frac-unique c.zero-sum.result c.zero-sum.ensures))

pub loop-t-preserved : goal.loop-t-preserved
loop-t-preserved c =
    told_product c.args.self.now.left.now c.args.self.now.right.now c.args.k c.loop-t.t c.product_pair-pair.result c.entry.result c.entry-in-loop-t.result c.loop-t.sum c.add_product.result
    c.product_pair-pair.ensures c.entry.ensures c.entry-in-loop-t.ensures c.loop-t.invariant c.add_product.ensures
    ∙ c.in_ok-sum.was

pub returns-in_err-sum : goal.returns-in_err-sum
returns-in_err-sum c =
    let p = err_from_is_err_and c.from_residual.result c.from_residual.ensures.1 in
    let within : c.loop-t.t + 1 ≤ cols_of (sides_of c.args.self.now.left.now.shape) = omega (arith, c.loop-t-test.true, c.cols-t-end.ensures) in
    rw (p.1, p.2) (sym (stopped_product c.args.self.now.left.now c.args.self.now.right.now c.args.k (c.loop-t.t + 1) _ within
    (told_product c.args.self.now.left.now c.args.self.now.right.now c.args.k c.loop-t.t c.product_pair-pair.result c.entry.result c.entry-in-loop-t.result c.loop-t.sum c.add_product.result
    c.product_pair-pair.ensures c.entry.ensures c.entry-in-loop-t.ensures c.loop-t.invariant c.add_product.ensures
    ∙ c.in_err-sum.was)))

pub returns : goal.returns
returns c =
    let last : c.loop-t.t ≡ cols_of (sides_of c.args.self.now.left.now.shape) = omega (arith, c.loop-t-test.false, c.loop-t.auto.t-end, c.cols-t-end.ensures) in
    sym (all_products c.args.self.now.left.now c.args.self.now.right.now c.args.k ∙ ap (sum_below c.args.self.now.left.now c.args.self.now.right.now c.args.k) (sym last) ∙ c.loop-t.invariant)
