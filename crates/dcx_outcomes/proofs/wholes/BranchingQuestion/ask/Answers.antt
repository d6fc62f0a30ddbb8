-- How the run of nodes over the program ends.
use Rattle.dcx_outcomes.proofs.WholeEnds.{unknowns_there}
use Rattle.dcx_outcomes.proofs.wholes.BranchingQuestion.ask.Goals as goal

pub branch-alloc-requires-clause-unknowns : goal.branch-alloc-requires-clause-unknowns
branch-alloc-requires-clause-unknowns c = unknowns_there c.args.problem.now c.args.setting.now c.args.program.now.program c.requires.given

pub returns : goal.returns
returns c = c.branch-alloc.ensures.end
