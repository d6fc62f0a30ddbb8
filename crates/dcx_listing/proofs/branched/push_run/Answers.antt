-- The program of a session is one of its problem at the setting, with the unknowns of the variables.
use Rattle.std.proofs.Common.{◌∙◌}
use Rattle.dcx_outcomes.proofs.WholeEnds.{unknowns_there}
use Rattle.dcx_listing.proofs.branched.push_run.Goals as goal

pub branch-end-requires-clause-program : goal.branch-end-requires-clause-program
branch-end-requires-clause-program g c = rw (c.problem.ensures.problem ∙ c.program.ensures.same.0) c.in-Ok.ensures.reduced.reduced

pub branch-end-requires-clause-unknowns : goal.branch-end-requires-clause-unknowns
branch-end-requires-clause-unknowns g c =
    rw (c.problem.ensures.problem ∙ c.program.ensures.same.0)
    (unknowns_there _ c.args.setting.now c.in-Ok.program.program c.in-Ok.ensures.gives)
