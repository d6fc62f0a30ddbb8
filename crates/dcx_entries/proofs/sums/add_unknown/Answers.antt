-- The form that is made is the one form of the unknown.
use Rattle.std.proofs.Common.{subst}
use Rattle.dcx_linear.specs.declared.change.Change.TheVariants.{Scale}
use Rattle.dcx_linear.specs.Stops.{GivesBy}
use Rattle.dcx_linear.specs.Parts.{adds_part}
use Rattle.dcx_entries.proofs.Places.{unknown_is}
use Rattle.dcx_entries.proofs.sums.add_unknown.Goals as goal

pub returns : goal.returns
returns g c =
    let t = g.C.Coef in
    subst (λ f. GivesBy c.add_changed.result (λ _. c.add_changed.new.self) (adds_part t.number_of t.sum_gives t.change_gives c.args.sum.now (Scale c.args.by) f))
    (unknown_is t.of_number c.args.unknown c.in_ok-form.form c.in_ok-form.ensures) c.add_changed.ensures
