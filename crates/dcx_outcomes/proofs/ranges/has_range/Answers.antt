-- What is told of the name, over the program that the session keeps.
use Rattle.std.proofs.Common.{sym, subst}
use Rattle.std.specs.Prelude.{option_copied}
use Rattle.dcx_range.specs.Parameters.{program_in}
use Rattle.dcx_tree.specs.declared.problem.Problem.{Problem}
use Rattle.dcx_outcomes.specs.Ranges.{IsKeptProgram, TellsRange}
use Rattle.dcx_outcomes.proofs.RangeEnds.{kept_of, told_range}
use Rattle.dcx_outcomes.proofs.ranges.has_range.Goals as goal

pub returns : goal.returns
returns c =
    let kept = program_in (option_copied c.map.result) in
    subst (λ (z : Problem). TellsRange z c.args.name.now c.ranged.result) c.problem.ensures.problem
    (told_range c.problem.result.now kept c.args.name.now c.ranged.result
    (subst (λ (z : Problem). IsKeptProgram z kept) (sym c.problem.ensures.problem) (kept_of c.args.session.now.problem c.map.result c.map.ensures.map)) c.ranged.ensures)
