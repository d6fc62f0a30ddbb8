-- The constant is changed before the terms, and the first of them that stops is the stop.
use Rattle.std.proofs.Common.{Err, inl, inr, sym, subst, ◌∙◌}
use Rattle.std.proofs.lemmas.Result.{err_from_is_err_and}
use Rattle.dcx_linear.specs.Stops.{OnPass-weaker}
use Rattle.dcx_linear.specs.Terms.{ChangesTerms}
use Rattle.dcx_linear.specs.ParamTerms.{key_of, has_zero, change_gives_term}
use Rattle.dcx_linear.specs.ParamForms.{change_gives_form}
use Rattle.dcx_linear.proofs.param_form.ParamForm.changed.Goals as goal

pub returns-in_err-constant : goal.returns-in_err-constant
returns-in_err-constant c =
    let p = err_from_is_err_and c.from_residual.result c.from_residual.ensures.1 in
    rw (p.1, p.2) (c.as_slice-terms.ensures.sparse, inl (sym c.in_err-constant.was ∙ c.change_number.ensures))

pub returns-in_err-changed : goal.returns-in_err-changed
returns-in_err-changed c =
    let p = err_from_is_err_and c.from_residual-in_err-changed.result c.from_residual-in_err-changed.ensures.1 in
    rw (p.1, p.2)
    (OnPass-weaker _ (λ passes. ChangesTerms key_of has_zero (change_gives_term c.args.change) c.as_slice-terms.result.now (Err passes))
    (λ passes. change_gives_form c.args.change c.args.self.now (Err passes))
    (λ passes h. (
      c.as_slice-terms.ensures.sparse,
      inr (
        (c.in_ok-constant.constant, sym c.in_ok-constant.was ∙ c.change_number.ensures),
        subst (λ ts. ChangesTerms key_of has_zero (change_gives_term c.args.change) ts (Err passes)) c.as_slice-terms.ensures.items h,
      ),
    ))
    (c.in_err-changed.ensures {u = tt}))
