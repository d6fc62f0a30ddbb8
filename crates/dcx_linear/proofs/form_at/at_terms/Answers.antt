-- One more coefficient is a number at the setting, or its first operation that passes is the stop.
use Rattle.std.proofs.Common.{sym, subst, ◌∙◌, arith}
use Rattle.std.proofs.lemmas.Result.{err_from_is_err_and}
use Rattle.dcx_linear.specs.FormsAt.{IsListedTerm}
use Rattle.dcx_linear.proofs.SettingForms.{number_goes, number_stops, numbers_end}
use Rattle.dcx_linear.proofs.form_at.at_terms.Goals as goal

pub at-requires : goal.at-requires
at-requires c = subst (IsListedTerm c.args.setting.now) (sym c.term-item.is) (c.requires c.terms.term-index c.term-item.result (omega arith))

pub returns-in_err-coefficient : goal.returns-in_err-coefficient
returns-in_err-coefficient c =
    let p = err_from_is_err_and c.from_residual.result c.from_residual.ensures.1 in
    rw (p.1, p.2) (number_stops c.args.setting.now c.args.terms.now c.terms.term-index c.term-item.result
    (omega arith) c.term-item.is c.terms.numbers.items _ (sym c.at.ensures ∙ c.in_err-coefficient.was) c.terms.invariant)

pub terms-preserved : goal.terms-preserved
terms-preserved c =
    number_goes c.args.setting.now c.args.terms.now c.terms.term-index c.term-item.result (omega arith) c.term-item.is c.terms.numbers.items
    c.push_nonzero.new.list.items c.in_ok-coefficient.coefficient (sym c.at.ensures ∙ c.in_ok-coefficient.was) c.in_ok-push_nonzero.ensures c.terms.invariant

pub returns : goal.returns
returns c = numbers_end c.args.setting.now c.args.terms.now c.terms.term-index c.terms.numbers.items (omega arith) c.terms.invariant
