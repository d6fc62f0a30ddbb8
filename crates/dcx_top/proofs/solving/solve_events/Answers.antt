-- The settings that are lent are those of the script's solves.
use Rattle.std.proofs.Common.{false, List, subst}
use Rattle.dcx_point.specs.Pairs.{Pairs}
use Rattle.dcx_report.specs.declared.run.Word.TheVariants.{Solve}
use Rattle.dcx_top.specs.Solving.{SolvesUnder}
use Rattle.dcx_top.proofs.solving.solve_events.Goals as goal

pub returns : goal.returns
returns g c =
    subst (λ (s : List Pairs). SolvesUnder Solve false c.args.accepted.work.problem c.args.limit s c.args.steps.now c.solved_at.new.steps c.solved_at.result)
    c.as_slice-settings.ensures c.solved_at.ensures
