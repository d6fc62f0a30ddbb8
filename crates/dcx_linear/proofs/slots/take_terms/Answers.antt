-- One more slot gives its term, if it isn't 0, and is 0 afterwards.
use Rattle.std.proofs.Common.{◌++◌, sym, ap, ◌∙◌, arith}
use Rattle.std.specs.Option.{option_to_list}
use Rattle.dcx_linear.specs.Slots.{kept_term}
use Rattle.dcx_linear.proofs.SlotSums.{slot_taken, slot_cleared, slots_taken, slots_cleared}
use Rattle.dcx_linear.proofs.slots.take_terms.Goals as goal

pub slots-preserved : goal.slots-preserved
slots-preserved g c =
    let t = g.C.Coef in
    record {
      taken = slot_taken t.number_of c.slots.terms.items c.take_slot.new.terms.items c.slots.slots c.slots.index c.index-slots-index.result c.take_slot.new.slot (omega arith) c.index-slots-index.is
          (c.in_ok-take_slot.ensures.taken ∙ ap (λ x. c.slots.terms.items ++ option_to_list (kept_term t.number_of c.slots.index x)) (sym c.index-slots-index.is)) ∙ c.slots.invariant.taken;
      cleared = slot_cleared t.number_of c.slots.slots c.slots.index c.take_slot.new.slot (omega arith) c.in_ok-take_slot.ensures.cleared c.slots.invariant.cleared;
    }

pub returns : goal.returns
returns g c =
    let t = g.C.Coef in
    record {
      taken = slots_taken t.number_of c.slots.terms.items _ c.slots.slots c.slots.index (omega arith) c.slots.invariant.taken;
      cleared = slots_cleared t.number_of c.slots.slots c.slots.index (omega arith) c.slots.invariant.cleared;
    }
