-- What the terms that are left give of the slots, all terms give of the first slots, which stay few.
use Rattle.std.proofs.Common.{◌≤◌, length}
use Rattle.dcx_linear.specs.Slots.{listed_from}
use Rattle.dcx_linear.proofs.SlotSums.{GoesOn}
use Rattle.dcx_linear.proofs.slots.add_terms.Given as goal

abbrev pub invariant-terms : goal.invariant-terms
invariant-terms g l = record {
  room : length l.slots.items ≤ 4294967296;
  sum : GoesOn g.C.Coef.number_of g.C.Coef.sum_gives (listed_from g.C.Coef.number_of 0 l.initial.slots.items) l.slots.items l.fn.terms.items (length l.yielded);
}
