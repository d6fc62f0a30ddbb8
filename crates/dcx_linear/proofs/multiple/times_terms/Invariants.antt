-- The products so far, followed by those with the other terms, are all.
use Rattle.dcx_linear.specs.FormTerms.{unknown_of, has_zero_coefficient}
use Rattle.dcx_linear.specs.Multiples.{times_unknown}
use Rattle.dcx_linear.proofs.Formed.{ChangeGoesOn}
use Rattle.dcx_linear.proofs.multiple.times_terms.Given as goal

abbrev pub invariant-terms : goal.invariant-terms
invariant-terms g l = ChangeGoesOn unknown_of (has_zero_coefficient g.C.Coef.number_of) (times_unknown g.C.Coef.number_of g.C.Coef.change_gives l.coefficient) l.terms l.term-index l.products.items
