-- The numbers so far are those of the entries passed.
use Rattle.dcx_nodes.proofs.Numbers.{AreNumbersTo}
use Rattle.dcx_nodes.proofs.number.numbers_of.Given as goal

abbrev pub invariant-entries : goal.invariant-entries
invariant-entries g l = AreNumbersTo g.C.Coef.of_number g.C.Coef.number_of g.met.C.Coef.number_told l.standing l.entry l.numbers.items
