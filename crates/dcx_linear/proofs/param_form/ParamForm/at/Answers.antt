-- Each term adds its coefficient times its entry, and the first product or sum that passes is the stop.
use Rattle.std.proofs.Common.{ap, sym, ◌∙◌, ◌+◌, drop, arith}
use Rattle.std.proofs.lemmas.List.{drop_all}
use Rattle.std.proofs.lemmas.Result.{err_from_is_err_and}
use Rattle.dcx_atom.specs.Formed.{and_then}
use Rattle.dcx_linear.specs.ParamForms.{plus_terms}
use Rattle.dcx_linear.proofs.ParamForms.{plus_next, with_product}
use Rattle.dcx_linear.proofs.param_form.ParamForm.at.Goals as goal

pub terms-init : goal.terms-init
terms-init c = ap (plus_terms c.args.setting.now c.args.self.now.constant) c.as_slice-term-items.ensures.items

pub returns-in_err-product : goal.returns-in_err-product
returns-in_err-product c =
    let p = err_from_is_err_and c.from_residual.result c.from_residual.ensures.1 in
    let s = c.args.setting.now in
    let ts = c.as_slice-term-items.result.now in
    let next = plus_next s c.terms.number ts c.terms.term-index c.term-item.result c.entry_at-entry.result (omega arith) c.term-item.is c.entry_at-entry.ensures in
    rw (p.1, p.2) (sym (sym c.terms.invariant ∙ next ∙ ap (λ r. and_then r (with_product s c.terms.number (drop (c.terms.term-index + 1) ts))) (sym c.mul.ensures.answer ∙ c.in_err-product.was)))

pub returns-in_err-number : goal.returns-in_err-number
returns-in_err-number c =
    let p = err_from_is_err_and c.from_residual-in_err-number.result c.from_residual-in_err-number.ensures.1 in
    let s = c.args.setting.now in
    let ts = c.as_slice-term-items.result.now in
    let next = plus_next s c.terms.number ts c.terms.term-index c.term-item.result c.entry_at-entry.result (omega arith) c.term-item.is c.entry_at-entry.ensures in
    rw (p.1, p.2) (sym (sym c.terms.invariant ∙ next ∙ ap (λ r. and_then r (with_product s c.terms.number (drop (c.terms.term-index + 1) ts))) (sym c.mul.ensures.answer ∙ c.in_ok-product.was)
    ∙ ap (λ r. and_then r (λ z. plus_terms s z (drop (c.terms.term-index + 1) ts))) (sym c.add.ensures.answer ∙ c.in_err-number.was)))

pub terms-preserved : goal.terms-preserved
terms-preserved c =
    let s = c.args.setting.now in
    let ts = c.as_slice-term-items.result.now in
    let next = plus_next s c.terms.number ts c.terms.term-index c.term-item.result c.entry_at-entry.result (omega arith) c.term-item.is c.entry_at-entry.ensures in
    sym (sym c.terms.invariant ∙ next ∙ ap (λ r. and_then r (with_product s c.terms.number (drop (c.terms.term-index + 1) ts))) (sym c.mul.ensures.answer ∙ c.in_ok-product.was)
    ∙ ap (λ r. and_then r (λ z. plus_terms s z (drop (c.terms.term-index + 1) ts))) (sym c.add.ensures.answer ∙ c.in_ok-number.was))

pub returns : goal.returns
returns c =
    let s = c.args.setting.now in
    sym (sym c.terms.invariant ∙ ap (plus_terms s c.terms.number) (drop_all c.terms.term-index c.as_slice-term-items.result.now (omega arith)))
