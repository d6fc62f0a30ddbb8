-- The slots list the terms that they listed, and are few.
use Rattle.std.proofs.Common.{◌≡◌, ◌≤◌, ◌-◌, length}
use Rattle.dcx_linear.specs.Slots.{listed_from}
use Rattle.dcx_linear.proofs.slots.reach.Given as goal

abbrev pub invariant-slots : goal.invariant-slots
invariant-slots g l = record {
  room : length l.slots.items ≤ 4294967296;
  same : listed_from g.C.Coef.number_of 0 l.slots.items ≡ listed_from g.C.Coef.number_of 0 l.initial.slots.items;
}

-- the slots that are missing
abbrev pub decreases-slots : goal.decreases-slots
decreases-slots g l = l.count - length l.slots.items
