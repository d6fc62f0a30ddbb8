-- The problem that a session shows is its own.
use Rattle.std.proofs.Common.{sym, subst}
use Rattle.dcx_tree.specs.declared.problem.Problem.{Problem}
use Rattle.dcx_outcomes.specs.Ranges.{LacksRange}
use Rattle.dcx_top.specs.NoRange.{IsRefusedForRange}
use Rattle.dcx_top.proofs.no_range.refuse_range.Goals as goal

pub refused-requires : goal.refused-requires
refused-requires c = subst (λ (z : Problem). LacksRange z c.args.name.now c.in-Err.fault) (sym c.problem.ensures.problem) c.in-Err.ensures

pub returns-in-Err : goal.returns-in-Err
returns-in-Err c = subst (λ (z : Problem). IsRefusedForRange z c.args.name.now c.refused.result) c.problem.ensures.problem c.refused.ensures
