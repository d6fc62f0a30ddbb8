-- The one term has the coefficient 1, which isn't 0, beside the constant 0.
use Rattle.std.proofs.Common.{ℕ, List, [], ◌∷◌, ap, ap₂, ◌∙◌}
use Rattle.dcx_atom.proofs.FormedSums.{zero_frac-unique}
use Rattle.dcx_linear.specs.declared.param_form.ParamForm.{ParamForm}
use Rattle.dcx_linear.specs.declared.param_term.ParamTerm.{ParamTerm}
use Rattle.dcx_linear.proofs.ParamForms.{one_is_kept}
use Rattle.dcx_linear.proofs.param_form.ParamFormCoef.parameter.Goals as goal

pub one-requires-2 : goal.one-requires-2
one-requires-2 c = one_is_kept c.one.result c.one.ensures

pub returns : goal.returns
returns c =
    let term = λ (n : List ℕ). let t : ParamTerm = record { position = c.args.position; name = n; entry = c.args.entry; coefficient = c.one.result } in t in
    let terms = c.in_ok-one.ensures {u = tt} ∙ ap (λ n. term n ∷ []) (c.in_ok-copy_name.ensures {u = tt}) in
    record {
      one = c.one.result;
      is_one = c.one.ensures;
      is = ap₂ (λ x ts. let f : ParamForm = record { constant = x; terms = ts } in f) (zero_frac-unique c.zero.result c.zero.ensures) terms;
    }
