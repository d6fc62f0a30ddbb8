-- The first term that is the parameter's has its coefficient.
use Rattle.std.proofs.Common.{sym, ap, ◌∙◌, arith}
use Rattle.std.proofs.lemmas.List.{drop_all}
use Rattle.dcx_range.specs.Coefficients.{coefficient_in}
use Rattle.dcx_range.proofs.Coefficients.{found, passed}
use Rattle.dcx_range.proofs.rates.coefficient_of.Goals as goal

pub terms-init : goal.terms-init
terms-init c = ap (coefficient_in c.args.position) c.as_slice-term-items.ensures.items

pub returns-then-term-position-clause-value : goal.returns-then-term-position-clause-value
returns-then-term-position-clause-value c =
    sym (found c.args.position c.as_slice-term-items.result.now c.terms.term-index c.term-item.result (omega arith) c.term-item.is c.if-term-position.true) ∙ c.terms.invariant

pub terms-preserved : goal.terms-preserved
terms-preserved c =
    sym (passed c.args.position c.as_slice-term-items.result.now c.terms.term-index c.term-item.result (omega arith) c.term-item.is c.if-term-position.false) ∙ c.terms.invariant

pub returns-clause-value : goal.returns-clause-value
returns-clause-value c = c.zero.ensures ∙ sym (ap (coefficient_in c.args.position) (drop_all c.terms.term-index c.as_slice-term-items.result.now (omega arith))) ∙ c.terms.invariant
