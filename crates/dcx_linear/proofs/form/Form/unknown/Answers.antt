-- The coefficient 1 isn't 0, so the one term is kept, beside the constant 0.
use Rattle.std.proofs.Common.{[], ◌∷◌, ap, ap₂, ◌∙◌}
use Rattle.dcx_linear.specs.declared.form.Form.{Form}
use Rattle.dcx_linear.specs.declared.form.FormTerm.{FormTerm}
use Rattle.dcx_linear.specs.FormTerms.{is_told_zero}
use Rattle.dcx_linear.proofs.ParamForms.{one_is_kept}
use Rattle.dcx_linear.proofs.form.Form.unknown.Goals as goal

pub one-requires-2 : goal.one-requires-2
one-requires-2 g c =
    let coef = g.C.Coef in
    ap (λ x. is_told_zero (coef.number_of x)) c.number.ensures ∙ ap is_told_zero (g.met.C.Coef.number_told c.one.result) ∙ one_is_kept c.one.result c.one.ensures

pub returns : goal.returns
returns g c =
    let term = λ (x : g.row.C.Denot). let t : FormTerm g.row.C.Denot = record { unknown = c.args.unknown; coefficient = x } in t in
    record {
      one = c.one.result;
      is_one = c.one.ensures;
      is = ap₂ (λ x ts. let f : Form g.row.C.Denot = record { constant = x; terms = ts } in f) c.zero.ensures (c.in_ok-one.ensures {u = tt} ∙ ap (λ x. term x ∷ []) c.number.ensures);
    }
