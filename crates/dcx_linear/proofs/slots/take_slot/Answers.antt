-- The zero that is left in the slot is told as 0.
use Rattle.std.proofs.Common.{◌∙◌}
use Rattle.dcx_linear.proofs.SlotSums.{zero_coefficient}
use Rattle.dcx_linear.proofs.slots.take_slot.Goals as goal

pub returns-in_err-push-clause-cleared : goal.returns-in_err-push-clause-cleared
returns-in_err-push-clause-cleared g c =
    let t = g.C.Coef in
    zero_coefficient t.number_of t.of_number (g.met.C.Coef.number_told _) c.replace-coefficient.new.dest (c.replace-coefficient.ensures.after ∙ c.zero.ensures)

pub returns-in_ok-push-clause-cleared : goal.returns-in_ok-push-clause-cleared
returns-in_ok-push-clause-cleared g c =
    let t = g.C.Coef in
    zero_coefficient t.number_of t.of_number (g.met.C.Coef.number_told _) c.replace-coefficient.new.dest (c.replace-coefficient.ensures.after ∙ c.zero.ensures)
