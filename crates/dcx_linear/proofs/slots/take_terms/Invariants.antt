-- The terms so far, followed by those of the slots that are left, are all; the slots so far are 0.
use Rattle.std.proofs.Common.{◌≡◌, ◌++◌, [], take, drop}
use Rattle.dcx_linear.specs.Slots.{listed_from}
use Rattle.dcx_linear.proofs.slots.take_terms.Given as goal

abbrev pub invariant-slots : goal.invariant-slots
invariant-slots g l = record {
  taken : l.terms.items ++ listed_from g.C.Coef.number_of l.index (drop l.index l.slots) ≡ listed_from g.C.Coef.number_of 0 l.initial.slots;
  cleared : listed_from g.C.Coef.number_of 0 (take l.index l.slots) ≡ [];
}
