-- How many steps are counted at most where memory is wanting.
use Rattle.std.proofs.Common.{ℕ, ◌+◌, ◌*◌, ◌≤◌, length, sym, subst, arith}
use Rattle.dcx_tree.specs.declared.problem.Problem.{Problem}
use Rattle.dcx_outcomes.specs.Counts.{Counts, CountsNoMore}

-- those that are counted for settings are no more than that
pub no_more_of : (p : Problem) (n old new : ℕ) → Counts p n old new → CountsNoMore p n old new
no_more_of p n old new steps = record { mapped = λ h. subst (λ k. k ≤ old + length p.tree) (sym (steps.mapped h)) (within (old + length p.tree)); anew = steps.anew }
  where
    within : (k : ℕ) → k ≤ k
    within k = omega arith

-- no step at all
pub no_step : (p : Problem) (n old : ℕ) → CountsNoMore p n old old
no_step p n old = record { mapped = λ h. few (length p.tree); anew = more (length p.tree) (n * length p.tree) }
  where
    few : (k : ℕ) → old ≤ old + k
    few k = omega arith

    more : (k m : ℕ) → old ≤ old + k + m
    more k m = omega arith
