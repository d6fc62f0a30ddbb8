-- The constants are added before the terms, and the first of them that stops is the stop.
use Rattle.std.proofs.Common.{Err, inl, inr, sym, subst, ◌∙◌}
use Rattle.std.proofs.lemmas.Result.{err_from_is_err_and}
use Rattle.dcx_linear.specs.Stops.{OnPass-weaker}
use Rattle.dcx_linear.specs.Terms.{SumsTerms}
use Rattle.dcx_linear.specs.ParamTerms.{key_of, has_zero, sum_gives_term}
use Rattle.dcx_linear.specs.ParamForms.{sum_gives_form}
use Rattle.dcx_linear.proofs.param_form.ParamFormCoef.add.Goals as goal

pub returns-in_err-constant : goal.returns-in_err-constant
returns-in_err-constant c =
    let p = err_from_is_err_and c.from_residual.result c.from_residual.ensures.1 in
    rw (p.1, p.2) ((c.as_slice-terms.ensures.sparse, c.as_slice-other_terms.ensures.sparse), inl (sym c.in_err-constant.was ∙ c.add.ensures.answer))

pub returns-in_err-sum : goal.returns-in_err-sum
returns-in_err-sum c =
    let p = err_from_is_err_and c.from_residual-in_err-sum.result c.from_residual-in_err-sum.ensures.1 in
    rw (p.1, p.2)
    (OnPass-weaker _ (λ passes. SumsTerms key_of has_zero sum_gives_term c.as_slice-terms.result.now c.as_slice-other_terms.result.now (Err passes))
    (λ passes. sum_gives_form c.args.self.now c.args.other.now (Err passes))
    (λ passes h. (
      (c.as_slice-terms.ensures.sparse, c.as_slice-other_terms.ensures.sparse),
      inr (
        (c.in_ok-constant.constant, sym c.in_ok-constant.was ∙ c.add.ensures.answer),
        subst (λ ts. SumsTerms key_of has_zero sum_gives_term ts c.args.other.now.terms (Err passes)) c.as_slice-terms.ensures.items
            (subst (λ ts. SumsTerms key_of has_zero sum_gives_term c.as_slice-terms.result.now ts (Err passes)) c.as_slice-other_terms.ensures.items h),
      ),
    ))
    (c.in_err-sum.ensures {u = tt}))
