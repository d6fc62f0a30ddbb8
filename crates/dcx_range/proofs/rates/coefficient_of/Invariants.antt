-- No term so far is the parameter's.
use Rattle.std.proofs.Common.{◌≡◌, drop}
use Rattle.dcx_range.specs.Coefficients.{coefficient_in}
use Rattle.dcx_range.proofs.rates.coefficient_of.Given as goal

abbrev pub invariant-terms : goal.invariant-terms
invariant-terms l = coefficient_in l.position (drop l.term-index l.term-items) ≡ coefficient_in l.position l.fn.number.terms
