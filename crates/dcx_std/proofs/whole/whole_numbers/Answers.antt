-- The multiple and the divisor are positive and below 2 ^ 127, and the row and its factor are made by both.
use Rattle.std.proofs.Common.{◌≡◌, ◌<◌, ◌≤◌, ◌^◌, ◌++◌, Ok, Err, map, pos, sym, ap, ap₂, ◌∙◌, subst, unsigned_abs, arith, to_z-of_z}
use Rattle.std.specs.Int.{w128}
use Rattle.std.specs.List.{range_with_len}
use Rattle.std.proofs.lemmas.Int.{ints, fits_signed_from_abs}
use Rattle.std.proofs.lemmas.Result.{err_from_is_err_and}
use Rattle.dcx_math.specs.Rational.{whole, ◌/ℚ◌}
use Rattle.dcx_math.specs.Divisors.{divided}
use Rattle.dcx_math.specs.Rising.{IsRising}
use Rattle.dcx_frac.specs.Results.{product_of}
use Rattle.dcx_atom.specs.Formed.{frac_at, and_then}
use Rattle.dcx_tab.specs.Rows.{AllSmall}
use Rattle.dcx_linear.specs.FormTerms.{unknown_of}
use Rattle.dcx_linear.specs.Stops.{OnPass-weaker}
use Rattle.dcx_linear.specs.Widths.{terms_width}
use Rattle.dcx_std.specs.WholeRows.{coefficients, turned_frac, product_with, numerators, divisor_of, whole_row_of}
use Rattle.dcx_std.proofs.Multiples.{multiple_of_is}
use Rattle.dcx_std.proofs.Numerators.{numerators_small}
use Rattle.dcx_std.proofs.Products.{all_products, coefficients_pass}
use Rattle.dcx_std.proofs.WholeRows.{divisor_below, whole_row_is, whole_row_passes}
use Rattle.dcx_std.proofs.whole.whole_numbers.Goals as goal

pub whole_number-by-requires : goal.whole_number-by-requires
whole_number-by-requires c = (multiple_of_is c.args.form.now c.in_ok-multiple.multiple (sym (c.in_ok-multiple.ensures {u = tt}))).small

pub products-requires-clause-known : goal.products-requires-clause-known
products-requires-clause-known c = subst (λ us. terms_width us ≤ c.args.count) (sym c.as_slice-terms.ensures.items) c.requires

pub products-requires-clause-rising : goal.products-requires-clause-rising
products-requires-clause-rising c = subst (IsRising unknown_of) (sym c.as_slice-terms.ensures.items) c.as_slice-terms.ensures.sparse.rising

pub signed-divisor-requires : goal.signed-divisor-requires
signed-divisor-requires c =
    let zs = c.in_ok-numbers.numbers.items in
    let by = c.whole_number-by.result in
    let ns = map (turned_frac c.args.is_turned) (coefficients c.args.count c.args.form.now) ++ c.args.behind.now in
    let products : numerators (map (product_of by) ns) ≡ Ok zs =
    all_products by c.args.is_turned c.args.form.now c.args.count c.as_slice-terms.result.now c.as_slice-terms.ensures.items c.args.behind.now c.in_ok-products.products.items
    (c.in_ok-products.ensures {u = tt})
    ∙ sym (c.in_ok-numbers.ensures {u = tt}) in
    let small : AllSmall zs = numerators_small (map (product_of by) ns) zs products in
    subst (λ n. n < 2 ^ 127) (sym (c.divisor.ensures.value ∙ ap divisor_of c.deref.ensures.value)) (divisor_below zs small)

pub signed-requires : goal.signed-requires
signed-requires c = (multiple_of_is c.args.form.now c.in_ok-multiple.multiple (sym (c.in_ok-multiple.ensures {u = tt}))).small

pub factor-requires-clause-multiple : goal.factor-requires-clause-multiple
factor-requires-clause-multiple c =
    let m = multiple_of_is c.args.form.now c.in_ok-multiple.multiple (sym (c.in_ok-multiple.ensures {u = tt})) in
    let p = m.positive in
    let fits = fits_signed_from_abs w128 c.signed.result (subst (λ z. unsigned_abs z < 2 ^ 127) (sym c.signed.ensures) m.small) in
    simp to_z-of_z (rw c.signed.ensures (omega (arith, ints, p)))

pub returns-clause-made : goal.returns-clause-made
returns-clause-made c =
    let m = c.in_ok-multiple.multiple in
    let zs = c.in_ok-numbers.numbers.items in
    let by = c.whole_number-by.result in
    let ns = map (turned_frac c.args.is_turned) (coefficients c.args.count c.args.form.now) ++ c.args.behind.now in
    let is_multiple = sym (c.in_ok-multiple.ensures {u = tt}) in
    let facts = multiple_of_is c.args.form.now m is_multiple in
    let formed : numerators (map (product_of by) ns) ≡ Ok zs =
    all_products by c.args.is_turned c.args.form.now c.args.count c.as_slice-terms.result.now c.as_slice-terms.ensures.items c.args.behind.now c.in_ok-products.products.items
    (c.in_ok-products.ensures {u = tt})
    ∙ sym (c.in_ok-numbers.ensures {u = tt}) in
    let products = ap (λ x. numerators (map (product_of x) ns)) (sym c.whole_number-by.ensures) ∙ formed in
    let small : AllSmall zs = numerators_small (map (product_of by) ns) zs formed in
    let d : c.divisor.result ≡ divisor_of zs = c.divisor.ensures.value ∙ ap divisor_of c.deref.ensures.value in
    let divisor : c.signed-divisor.result ≡ pos (divisor_of zs) = c.signed-divisor.ensures ∙ ap pos d in
    let fm = fits_signed_from_abs w128 c.signed.result (subst (λ z. unsigned_abs z < 2 ^ 127) (sym c.signed.ensures) facts.small) in
    let fd = fits_signed_from_abs w128 c.signed-divisor.result (subst (λ z. unsigned_abs z < 2 ^ 127) (sym divisor) (divisor_below zs small)) in
    let quotients = simp to_z-of_z at (c.in_ok-quotients.ensures {u = tt}) in
    let factor = simp to_z-of_z at c.factor.ensures in
    ap₂ (λ a b. Ok (record { kind = c.args.kind; numbers = a; factor = b }))
    (c.from_vec.ensures ∙ quotients ∙ ap (λ k. map (divided (unsigned_abs k)) zs) divisor)
    (factor ∙ ap₂ (λ a b. frac_at (whole a /ℚ whole b)) c.signed.ensures divisor)
    ∙ sym (whole_row_is c.args.kind c.args.form.now ns m zs is_multiple products)

pub returns-in_err-products-clause-made : goal.returns-in_err-products-clause-made
returns-in_err-products-clause-made c =
    let p = err_from_is_err_and c.from_residual-in_err-products.result c.from_residual-in_err-products.ensures.1 in
    let by = c.whole_number-by.result in
    let t = c.args.is_turned in
    let f = c.args.form.now in
    let n = c.args.count in
    let ts = c.as_slice-terms.result.now in
    let behind = c.args.behind.now in
    let ns = map (turned_frac t) (coefficients n f) ++ behind in
    rw (p.1, p.2)
    (OnPass-weaker c.in_err-products.field-0.0 (λ passes. Err passes ≡ numerators (map (product_with by t ts) (range_with_len 0 n))) (λ passes. Err passes ≡ whole_row_of c.args.kind f ns)
    (λ passes h. sym (whole_row_passes c.args.kind f ns c.in_ok-multiple.multiple passes (sym (c.in_ok-multiple.ensures {u = tt}))
    (ap (λ x. numerators (map (product_of x) ns)) (sym c.whole_number-by.ensures) ∙ coefficients_pass by t f n ts c.as_slice-terms.ensures.items behind passes h)))
    (c.in_err-products.ensures {u = tt}))

pub returns-in_err-numbers-clause-made : goal.returns-in_err-numbers-clause-made
returns-in_err-numbers-clause-made c =
    let p = err_from_is_err_and c.from_residual-in_err-numbers.result c.from_residual-in_err-numbers.ensures.1 in
    let by = c.whole_number-by.result in
    let t = c.args.is_turned in
    let f = c.args.form.now in
    let n = c.args.count in
    let ts = c.as_slice-terms.result.now in
    let behind = c.args.behind.now in
    let ns = map (turned_frac t) (coefficients n f) ++ behind in
    let ps = c.in_ok-products.products.items in
    let all = all_products by t f n ts c.as_slice-terms.ensures.items behind ps (c.in_ok-products.ensures {u = tt}) in
    rw (p.1, p.2)
    (OnPass-weaker c.in_err-numbers.field-0.0 (λ passes. Err passes ≡ and_then (numerators (map (product_of by) behind)) (λ more. Ok (ps ++ more))) (λ passes. Err passes
    ≡ whole_row_of c.args.kind f ns)
    (λ passes h. sym (whole_row_passes c.args.kind f ns c.in_ok-multiple.multiple passes (sym (c.in_ok-multiple.ensures {u = tt}))
    (ap (λ x. numerators (map (product_of x) ns)) (sym c.whole_number-by.ensures) ∙ all ∙ sym h)))
    (c.in_err-numbers.ensures {u = tt}))
