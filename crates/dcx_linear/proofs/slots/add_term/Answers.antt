-- The slot of the unknown takes the coefficient: so the term is added to those that the slots list.
use Rattle.std.proofs.Common.{subst, arith}
use Rattle.std.proofs.Math.ListN.{set}
use Rattle.dcx_linear.specs.Stops.{GivesBy}
use Rattle.dcx_linear.specs.Slots.{listed_from, adds_to_slot, adds_term}
use Rattle.dcx_linear.proofs.Answered.{GivesBy-weaker}
use Rattle.dcx_linear.proofs.SlotSums.{term_added, term_passes}
use Rattle.dcx_linear.proofs.slots.add_term.Goals as goal

pub returns-clause-sum : goal.returns-clause-sum
returns-clause-sum g c =
    let t = g.C.Coef in
    let term = c.args.term in
    let cs = c.reach.new.slots.items in
    let slot = c.index_mut.result.now in
    let w = c.add_to.new.slot in
    let after = listed_from t.number_of 0 (set cs term.unknown w) in
    subst (λ ts. GivesBy c.add_to.result (λ _. after) (adds_term t.number_of t.sum_gives ts term)) c.reach.ensures.same
    (GivesBy-weaker c.add_to.result (λ _. w) (λ _. after) (adds_to_slot t.number_of t.sum_gives slot term.coefficient) (adds_term t.number_of t.sum_gives (listed_from t.number_of 0 cs) term)
    (λ _ h. term_added t.number_of t.sum_gives cs term slot w (omega (arith, c.in_ok-reach.ensures.enough)) c.index_mut.ensures.value c.requires.nonzero h)
    (λ passes h. term_passes t.number_of t.sum_gives cs term slot passes (omega (arith, c.in_ok-reach.ensures.enough)) c.index_mut.ensures.value h)
    c.add_to.ensures)
