-- The sum so far, followed by a sum of what is left, is the sum.
use Rattle.std.proofs.Common.{◌≤◌, ◌+◌, ◌-◌, List, Result, length, drop}
use Rattle.dcx_frac.specs.declared.fraction.Passes.{Passes}
use Rattle.dcx_linear.specs.Terms.{SumsTerms}
use Rattle.dcx_linear.proofs.Formed.{after}
use Rattle.dcx_linear.proofs.term.push_sum.Given as goal

abbrev pub invariant-terms : goal.invariant-terms
invariant-terms g l = record {
  left : l.i ≤ length l.a;
  right : l.j ≤ length l.b;
  sum : (answer : Result (List _) Passes) → SumsTerms g.T.Term.key g.T.Term.is_zero g.T.Term.sum_gives (drop l.i l.a) (drop l.j l.b) answer
      → SumsTerms g.T.Term.key g.T.Term.is_zero g.T.Term.sum_gives l.a l.b (after l.sum.items answer);
}

-- the terms that are left
abbrev pub decreases-terms : goal.decreases-terms
decreases-terms g l = (length l.a - l.i) + (length l.b - l.j)
