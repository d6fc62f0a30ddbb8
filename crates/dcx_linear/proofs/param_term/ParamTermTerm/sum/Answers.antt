-- Terms with one key are of one position and one entry, and their coefficients are added.
use Rattle.std.proofs.Common.{Ok, sym, ap, ◌∙◌, arith}
use Rattle.std.proofs.lemmas.Result.{err_from_is_err_and}
use Rattle.dcx_linear.specs.ParamTerms.{renewed}
use Rattle.dcx_linear.proofs.Keys.{same_pair}
use Rattle.dcx_linear.proofs.param_term.ParamTermTerm.sum.Goals as goal

pub returns-in_err-coefficient : goal.returns-in_err-coefficient
returns-in_err-coefficient c =
    let p = err_from_is_err_and c.from_residual.result c.from_residual.ensures.1 in
    let e = sym c.add.ensures.answer ∙ c.in_err-coefficient.was in
    rw (p.1, p.2) (same_pair _ _ _ _ (omega arith) (omega arith) (sym c.requires), sym (ap (renewed c.args.self.now) e))

pub returns : goal.returns
returns c =
    let e = sym c.add.ensures.answer ∙ c.in_ok-coefficient.was in
    (same_pair _ _ _ _ (omega arith) (omega arith) (sym c.requires), ap Ok c.in_ok-with.ensures ∙ sym (ap (renewed c.args.self.now) e))
