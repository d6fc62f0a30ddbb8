-- A multiplier that passes while an answer of the rows is read stops the reading.
use Rattle.std.proofs.Common.{◌≡◌, refl}
use Rattle.dcx_tree.specs.declared.problem.Problem.{Problem}
use Rattle.dcx_lp_answer.specs.declared.answer.LpStatus.TheVariants as status
use Rattle.dcx_lp_answer.specs.declared.answer.LpAnswer.{LpAnswer}
use Rattle.dcx_lp_answer.specs.declared.stop.MultiplierStop.{MultiplierStop}
use Rattle.dcx_lp_answer.specs.declared.stop.MultiplierStop.TheVariants as multipliers
use Rattle.dcx_lp_answer.specs.Multipliers.{passing_from, StopsAt}
use Rattle.dcx_postsolve.specs.Duals.{all_multipliers}
use Rattle.dcx_graph.specs.Answers.{StopsReading, answer_stop}

-- the stop at a multiplier is that of reading
pub stops_reading : (p : Problem) (a : LpAnswer) (e : MultiplierStop) → ¬ (a.status ≡ status.Unbounded) → StopsAt e (passing_from 0 (all_multipliers a.status p.constraints a.rows))
    → StopsReading p a (answer_stop e)
stops_reading p a (multipliers.Wide row passes) formed first = record { formed = formed; row = row; passes = passes; first = first; here = refl }
stops_reading p a multipliers.Memory formed first = tt
