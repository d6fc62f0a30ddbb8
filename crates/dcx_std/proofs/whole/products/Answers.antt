-- One more term puts its product in the place of its unknown, which no term before it names, or its product is the first that passes.
use Rattle.std.proofs.Common.{◌≡◌, ◌<◌, ◌+◌, [], length, replicate, set, take, sym, ap, ◌∙◌, subst, arith, pos, rules, to_z-of_z}
use Rattle.std.specs.Int.{w128}
use Rattle.std.proofs.lemmas.Int.{fits_signed_from_abs}
use Rattle.std.proofs.lemmas.List.{length-set, length-replicate, take_all}
use Rattle.std.proofs.lemmas.Result.{err_from_is_err_and}
use Rattle.dcx_frac.specs.declared.fraction.Frac.{Frac}
use Rattle.dcx_frac.specs.Results.{product_of}
use Rattle.dcx_tab.specs.Rows.{entry}
use Rattle.dcx_linear.specs.declared.form.FormTerm.{FormTerm}
use Rattle.dcx_linear.proofs.Widths.{width_bounds}
use Rattle.dcx_std.specs.WholeRows.{product_with}
use Rattle.dcx_std.proofs.Products.{IsNumerator, products_none, product_more, product_stops, products_all}
use Rattle.dcx_std.proofs.whole.products.Goals as goal

pub index_mut-requires : goal.index_mut-requires
index_mut-requires c =
    let ts = c.args.terms.now in
    let t = c.term-item.result in
    let n = c.args.count in
    let b = width_bounds ts n c.requires.known c.terms.term-index t (omega arith) in
    let u : t.unknown < n = subst (λ (s : FormTerm Frac). s.unknown < n) (sym c.term-item.is) b in
    omega (arith, u)

pub terms-init : goal.terms-init
terms-init c =
    let by = c.args.by.now in
    let t = c.args.is_turned in
    let made : c.in_ok-products.products.items ≡ replicate c.args.count (pos 0) = search rules in
    record {
      count = ap length made ∙ length-replicate c.args.count (pos 0);
      told = λ u l. subst (λ zs. IsNumerator (product_with by t [] u) (entry zs u)) (sym made) (products_none by t c.args.count u);
    }

pub terms-preserved : goal.terms-preserved
terms-preserved c =
    let by = c.args.by.now in
    let ts = c.args.terms.now in
    let i = c.terms.term-index in
    let t = c.term-item.result in
    let zs = c.terms.products.items in
    let x = c.in_ok-product.product in
    let fits = fits_signed_from_abs w128 c.numerator.result c.numerator.ensures.small in
    let formed = ap (product_of by) (sym c.turned_fraction.ensures) ∙ sym c.mul.ensures.answer ∙ c.in_ok-product.was in
    let more = product_more by c.args.is_turned ts c.requires.rising i t (omega arith) c.term-item.is c.args.count zs c.terms.invariant.count c.terms.invariant.told x formed in
    simp to_z-of_z (record {
      count = length-set zs t.unknown c.numerator.result ∙ c.terms.invariant.count;
      told = λ u l. subst (λ z. IsNumerator (product_with by c.args.is_turned (take (i + 1) ts) u) (entry (set zs t.unknown z) u)) (sym c.numerator.ensures.value) (more u l);
    })

pub returns : goal.returns
returns c =
    let by = c.args.by.now in
    let ts = c.args.terms.now in
    let zs = c.terms.products.items in
    sym (products_all by c.args.is_turned ts c.args.count zs c.terms.invariant.count
    (λ u l. subst (λ us. IsNumerator (product_with by c.args.is_turned us u) (entry zs u)) (take_all c.terms.term-index ts (omega arith)) (c.terms.invariant.told u l)))

pub returns-in_err-product : goal.returns-in_err-product
returns-in_err-product c =
    let p = err_from_is_err_and c.from_residual-in_err-product.result c.from_residual-in_err-product.ensures.1 in
    let by = c.args.by.now in
    let ts = c.args.terms.now in
    let i = c.terms.term-index in
    let t = c.term-item.result in
    let n = c.args.count in
    let b = width_bounds ts n c.requires.known i t (omega arith) in
    let below : t.unknown < n = subst (λ (s : FormTerm Frac). s.unknown < n) (sym c.term-item.is) b in
    let passes = ap (product_of by) (sym c.turned_fraction.ensures) ∙ sym c.mul.ensures.answer ∙ c.in_err-product.was in
    rw (p.1, p.2)
    (sym (product_stops by c.args.is_turned ts c.requires.rising i t (omega arith) c.term-item.is n c.terms.products.items c.terms.invariant.count c.terms.invariant.told _ below passes))
