-- What is to be large is scaled by the one fraction that is -1.
use Rattle.std.proofs.Common.{refl, sym, subst}
use Rattle.dcx_linear.specs.declared.change.Change.TheVariants.{Scale}
use Rattle.dcx_linear.specs.Forms.{change_gives_linear}
use Rattle.dcx_linear.specs.Stops.{Gives}
use Rattle.dcx_linear.proofs.Answered.{Gives-weaker}
use Rattle.dcx_entries.specs.Standing.{found_form}
use Rattle.dcx_graph.specs.Program.{minus_one, Least}
use Rattle.dcx_graph.proofs.Sides.{scaled}
use Rattle.dcx_graph.proofs.side.least.Goals as goal

pub returns-in-Maximize : goal.returns-in-Maximize
returns-in-Maximize g c =
    let t = g.C.Coef in
    let f = found_form t.of_number c.args.entry.now in
    subst (λ s. Gives c.changed_entry.result (Least t.number_of t.change_gives s f)) (sym c.in-Maximize.is)
    (Gives-weaker c.changed_entry.result (change_gives_linear t.number_of t.change_gives (Scale c.minus_one.result) f) (change_gives_linear t.number_of t.change_gives (Scale minus_one) f)
    (λ q h. scaled t.number_of t.sum_gives t.change_gives c.minus_one.result f f q c.minus_one.ensures refl h) c.changed_entry.ensures)
