-- The weights are those of the atoms, or the first one stops.
use Rattle.std.proofs.Common.{◌≡◌, List, ℕ, map, refl, sym, ap, ◌∙◌, subst}
use Rattle.dcx_tree.specs.declared.problem.Problem.{Problem}
use Rattle.dcx_lp_answer.specs.declared.answer.LpAnswer.{LpAnswer}
use Rattle.dcx_lp_answer.specs.declared.answer.LpStatus.TheVariants as status
use Rattle.dcx_lp_answer.specs.declared.stop.MultiplierStop.{MultiplierStop}
use Rattle.dcx_lp_answer.specs.declared.stop.MultiplierStop.TheVariants as stops
use Rattle.dcx_lp_answer.specs.Multipliers.{passing_from, StopsAt}
use Rattle.dcx_cert_outline.specs.Drawn.{problem_outline}
use Rattle.dcx_graph.specs.declared.origin.Origin.{Origin}
use Rattle.dcx_graph.specs.Answers.{answer_stop}
use Rattle.dcx_cert_build.specs.Weights.{row_weights, atom_numbers}
use Rattle.dcx_cert_build.specs.Built.{StopsBuilding}
use Rattle.dcx_cert_build.proofs.Formed.{weights_are}
use Rattle.dcx_cert_build.proofs.weights.weights_of.Goals as goal

stops_building : (p : Problem) (from : List Origin) (a : LpAnswer) → ¬ (a.status ≡ status.Unbounded) → (stop : MultiplierStop)
    → StopsAt stop (passing_from 0 (row_weights (problem_outline p).atoms a.status from a.rows)) → StopsBuilding p from a (answer_stop stop)
stops_building p from a formed (stops.Wide row passes) h = record { formed = formed; row = row; passes = passes; first = h; here = refl }
stops_building p from a formed stops.Memory h = tt

pub returns-in-Err-clause-stops : goal.returns-in-Err-clause-stops
returns-in-Err-clause-stops c =
    let p = c.args.problem.now in
    let from = c.args.reduced.now.program.origins in
    let a = c.args.answer.now in
    let listed = c.atoms-atoms.ensures ∙ ap (λ o. o.atoms) c.in_ok-outline.ensures in
    subst (StopsBuilding p from a) (sym c.answer_stop.ensures)
    (stops_building p from a c.requires.formed c.in-Err.stop (subst (λ (l : List (ℕ × ℕ)). StopsAt c.in-Err.stop (passing_from 0 (row_weights l a.status from a.rows))) listed c.in-Err.ensures.stops))

pub returns-in-Ok-atom_weights-clause-made : goal.returns-in-Ok-atom_weights-clause-made
returns-in-Ok-atom_weights-clause-made c =
    let p = c.args.problem.now in
    let from = c.args.reduced.now.program.origins in
    let a = c.args.answer.now in
    let atoms = c.atoms-atoms.result.now in
    let listed = c.atoms-atoms.ensures ∙ ap (λ o. o.atoms) c.in_ok-outline.ensures in
    weights_are a.status from a.rows atoms (problem_outline p).atoms c.in-Ok.rows.items c.in-Ok-atom_weights.weights listed c.in-Ok.ensures.made
    (c.in-Ok-atom_weights.ensures ∙ ap (λ rows. map (atom_numbers rows) atoms) c.deref.ensures.value)
