-- A list of one term whose coefficient isn't 0.
use Rattle.std.proofs.Common.{ap, ◌∙◌, [], ◌∷◌, ◌++◌}
use Rattle.dcx_linear.specs.declared.form.FormTerm.{FormTerm}
use Rattle.dcx_frac.specs.declared.fraction.Frac.{Frac}
use Rattle.dcx_branch.proofs.Units.{one_sparse, unit_is}
use Rattle.dcx_branch.proofs.rows.unit_row.Goals as goal

pub from_vec-requires : goal.from_vec-requires
from_vec-requires c =
    let t : FormTerm Frac = record { unknown = c.args.unknown; coefficient = c.args.coefficient } in
    one_sparse t c.push.new.self.items c.requires (c.in_ok-push.ensures.items ∙ ap (λ l. l ++ t ∷ []) c.new-terms.ensures.items)

pub returns : goal.returns
returns c =
    let t : FormTerm Frac = record { unknown = c.args.unknown; coefficient = c.args.coefficient } in
    unit_is c.args.coefficient c.args.unknown c.args.constant c.from_vec.result (c.from_vec.ensures ∙ c.in_ok-push.ensures.items ∙ ap (λ l. l ++ t ∷ []) c.new-terms.ensures.items)
