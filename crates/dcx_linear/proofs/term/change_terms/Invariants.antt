-- The terms changed so far, followed by what the others give, are the changed list.
use Rattle.std.proofs.Common.{List, Result, drop}
use Rattle.dcx_frac.specs.declared.fraction.Passes.{Passes}
use Rattle.dcx_linear.specs.Terms.{ChangesTerms}
use Rattle.dcx_linear.proofs.Formed.{after}
use Rattle.dcx_linear.proofs.term.change_terms.Given as goal

abbrev pub invariant-terms : goal.invariant-terms
invariant-terms g l = (answer : Result (List _) Passes) → ChangesTerms g.T.Term.key g.T.Term.is_zero (g.T.Term.change_gives l.change) (drop l.term-index l.terms) answer
    → ChangesTerms g.T.Term.key g.T.Term.is_zero (g.T.Term.change_gives l.change) l.terms (after l.changed.items answer)
