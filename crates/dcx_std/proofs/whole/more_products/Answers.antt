-- One more product has its numerator, or it is the first that passes.
use Rattle.std.proofs.Common.{[], ◌∷◌, ◌++◌, ◌+◌, map, drop, sym, ap, ◌∙◌, arith, to_z-of_z, rules}
use Rattle.std.specs.Int.{w128}
use Rattle.std.proofs.lemmas.List.{drop_all}
use Rattle.std.proofs.lemmas.Result.{err_from_is_err_and}
use Rattle.std.proofs.lemmas.Int.{fits_signed_from_abs}
use Rattle.dcx_frac.specs.Results.{product_of}
use Rattle.dcx_linear.proofs.Formed.{after, drop_at}
use Rattle.dcx_std.specs.WholeRows.{numerators}
use Rattle.dcx_std.proofs.Numerators.{numerators_more, numerators_stop, numerators_end}
use Rattle.dcx_std.proofs.Products.{after_is}
use Rattle.dcx_std.proofs.whole.more_products.Goals as goal

pub numbers-preserved : goal.numbers-preserved
numbers-preserved c =
    let xs = c.args.numbers.now in
    let i = c.numbers.number-index in
    let f = product_of c.args.by.now in
    let fits = fits_signed_from_abs w128 c.numerator.result c.numerator.ensures.small in
    let pushed = simp to_z-of_z at c.in_ok-push.ensures.items in
    let number = c.numerator.ensures.value in
    let next = numerators_more f (drop i xs) (drop (i + 1) xs) c.number-item.result c.numbers.products.items c.in_ok-product.product
    (drop_at xs i c.number-item.result (omega arith) c.number-item.is) (sym c.mul.ensures.answer ∙ c.in_ok-product.was) in
    ap (λ zs. after zs (numerators (map f (drop (i + 1) xs)))) (pushed ∙ ap (λ z. c.numbers.products.items ++ z ∷ []) number) ∙ sym next ∙ c.numbers.invariant

pub numbers-init : goal.numbers-init
numbers-init c = search rules

pub numbers-smaller : goal.numbers-smaller
numbers-smaller c = search rules

pub returns : goal.returns
returns c =
    let xs = c.args.numbers.now in
    let i = c.numbers.number-index in
    sym (numerators_end (product_of c.args.by.now) (drop i xs) c.numbers.products.items (drop_all i xs (omega arith))) ∙ c.numbers.invariant
    ∙ after_is c.args.products.items (numerators (map (product_of c.args.by.now) xs))

pub returns-in_err-product : goal.returns-in_err-product
returns-in_err-product c =
    let p = err_from_is_err_and c.from_residual.result c.from_residual.ensures.1 in
    let xs = c.args.numbers.now in
    let i = c.numbers.number-index in
    let x = c.number-item.result in
    rw (p.1, p.2) (sym (numerators_stop (product_of c.args.by.now) (drop i xs) (drop (i + 1) xs) x c.numbers.products.items _ (drop_at xs i x (omega arith) c.number-item.is)
    (sym c.mul.ensures.answer ∙ c.in_err-product.was)) ∙ c.numbers.invariant
    ∙ after_is c.args.products.items (numerators (map (product_of c.args.by.now) xs)))

pub returns-in_err-push : goal.returns-in_err-push
returns-in_err-push c = let p = err_from_is_err_and c.from_residual-in_err-push.result c.from_residual-in_err-push.ensures.1 in rw (p.1, p.2) tt
