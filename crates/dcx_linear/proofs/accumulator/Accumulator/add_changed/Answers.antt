-- The form is changed and then added, and either may stop.
use Rattle.std.proofs.Common.{inr}
use Rattle.dcx_linear.specs.Forms.{sum_gives_linear}
use Rattle.dcx_linear.specs.Parts.{adds_part}
use Rattle.dcx_linear.proofs.Answered.{GivesBy-weaker}
use Rattle.dcx_linear.proofs.accumulator.Accumulator.add_changed.Goals as goal

pub returns : goal.returns
returns g c =
    let t = g.C.Coef in
    GivesBy-weaker c.add.result (λ _. c.add.new.self) (λ _. c.add.new.self) (sum_gives_linear t.number_of t.sum_gives c.args.self.now c.in_ok-changed.changed)
    (adds_part t.number_of t.sum_gives t.change_gives c.args.self.now c.args.change c.args.form.now)
    (λ _ h. (c.in_ok-changed.changed, c.in_ok-changed.ensures {u = tt}, h)) (λ passes h. inr (c.in_ok-changed.changed, c.in_ok-changed.ensures {u = tt}, h)) c.add.ensures
