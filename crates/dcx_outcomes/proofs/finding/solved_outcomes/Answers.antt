-- The outcomes of a session without columns.
use Rattle.dcx_outcomes.proofs.More.{found_in_turn}
use Rattle.dcx_outcomes.proofs.finding.solved_outcomes.Goals as goal

pub returns-clause-outcomes : goal.returns-clause-outcomes
returns-clause-outcomes g c =
    found_in_turn c.args.problem c.args.limit c.args.warm c.args.settings.now c.in_ok-outcomes.outcomes.items c.from_vec.result c.problem_outcomes.new.tally c.counted.result
    c.in_ok-outcomes.ensures.outcomes c.from_vec.ensures c.counted.ensures
