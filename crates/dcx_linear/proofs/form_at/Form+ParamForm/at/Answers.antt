-- Terms at a setting rise by unknowns and have no 0, as those of a form do.
use Rattle.std.proofs.Common.{sym, ap, ◌∙◌}
use Rattle.dcx_linear.specs.FormsAt.{terms_at}
use Rattle.dcx_linear.proofs.SettingForms.{terms_at-sparse}
use Rattle.dcx_linear.proofs.form_at.Form+ParamForm.at.Goals as goal

pub from_vec-requires : goal.from_vec-requires
from_vec-requires c =
    let s = c.args.setting.now in
    terms_at-sparse s c.args.self.now.terms c.in_ok-numbers.numbers.items
    (ap (terms_at s) (sym c.as_slice-terms.ensures.items) ∙ sym (c.in_ok-numbers.ensures {u = tt})) c.as_slice-terms.ensures.sparse.rising
