-- A zero behind the slots is no term, so they list what they listed.
use Rattle.std.proofs.Common.{length, ap, ◌∙◌, arith, length-append}
use Rattle.dcx_linear.specs.Slots.{listed_from}
use Rattle.dcx_linear.proofs.SlotSums.{zero_coefficient, listed-push}
use Rattle.dcx_linear.proofs.slots.reach.Goals as goal

pub slots-preserved : goal.slots-preserved
slots-preserved g c =
    let t = g.C.Coef in
    record {
      room = omega (arith, simp length-append at (ap length c.in_ok-push.ensures.items));
      same = ap (listed_from t.number_of 0) c.in_ok-push.ensures.items
          ∙ listed-push t.number_of c.slots.slots.items 0 c.zero.result (zero_coefficient t.number_of t.of_number (g.met.C.Coef.number_told _) c.zero.result c.zero.ensures) ∙ c.slots.invariant.same;
    }
