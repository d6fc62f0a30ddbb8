-- The constraints so far are tried.
use Rattle.dcx_iis.specs.Runs.{IsLeft}
use Rattle.dcx_iis.proofs.filtering.try_each.Given as goal

abbrev pub invariant-constraints : goal.invariant-constraints
invariant-constraints l = IsLeft l.problem l.reduced.program l.limit l.constraint l.left
