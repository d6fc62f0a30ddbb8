-- The entry is changed and then added, and either may stop.
use Rattle.std.proofs.Common.{inr}
use Rattle.dcx_linear.specs.Forms.{sum_gives_linear}
use Rattle.dcx_linear.specs.Parts.{adds_part}
use Rattle.dcx_linear.proofs.Answered.{GivesBy-weaker}
use Rattle.dcx_entries.specs.Standing.{args_of}
use Rattle.dcx_entries.proofs.sums.add_entry.Goals as goal

pub returns : goal.returns
returns g c =
    let t = g.C.Coef in
    GivesBy-weaker c.add.result (λ _. c.add.new.self) (λ _. c.add.new.self) (sum_gives_linear t.number_of t.sum_gives c.args.sum.now c.in_ok-part.part)
    (adds_part t.number_of t.sum_gives t.change_gives c.args.sum.now c.args.change (args_of t.of_number c.args.args.now c.args.argument c.args.entry))
    (λ _ h. (c.in_ok-part.part, c.in_ok-part.ensures {u = tt}, h)) (λ passes h. inr (c.in_ok-part.part, c.in_ok-part.ensures {u = tt}, h)) c.add.ensures
