-- Answers of the linear program of a problem are answers of the problem.
use Rattle.std.proofs.Common.{ℕ, ◌<◌, arith, length, subst}
use Rattle.std.proofs.lemmas.List.{length-map}
use Rattle.dcx_math.proofs.Lists.{mapped}
use Rattle.dcx_convex.specs.Nodes.{Point}
use Rattle.dcx_convex.specs.Problems as convex
use Rattle.dcx_convex.specs.Problems.{accepted_by}
use Rattle.dcx_convex.specs.Reductions.{IsWellFormed}
use Rattle.dcx_convex.proofs.LawsHold.{reductions_map_back}
use Rattle.dcx_tree.specs.declared.problem.Problem.{Problem}
use Rattle.dcx_tree.specs.Nodes.{convex_node}
use Rattle.dcx_tree.specs.Meaning as meaning
use Rattle.dcx_tree.specs.Meaning.{names_in, convex_problem, convex_constraint, Fits}
use Rattle.dcx_tree.proofs.Lawful.{problem_lawful}
use Rattle.dcx_unknowns.specs.Unknowns.{point_at}
use Rattle.dcx_postsolve.specs.Programs.{multipliers_of}
use Rattle.dcx_postsolve.proofs.CarryingLawsHold as program
use Rattle.dcx_graph.specs.Backward.{AnswersCarryOver}

-- a problem is well formed in the terms of disciplined convex programming
pub well_formed : (p : Problem) → IsWellFormed (convex_problem p)
well_formed p = record {
  ordered = (problem_lawful p).ordered;
  objective = inside p.objective.0 p.objective_kept.there;
  sides = λ k c at. let (d, there, is) = mapped convex_constraint p.constraints k c at in (
    subst (λ (e : convex.Constraint). e.left < length (convex_problem p).nodes) is (inside d.left.0 (p.constraints_kept.left k d there).there),
    subst (λ (e : convex.Constraint). e.right < length (convex_problem p).nodes) is (inside d.right.0 (p.constraints_kept.right k d there).there),
  );
}
  where
    inside : (i : ℕ) → i < length p.tree → i < length (convex_problem p).nodes
    inside i b = omega (arith, length-map p.tree (convex_node (names_in p) p.tree), b)

pub answers_carry_over : AnswersCarryOver
answers_carry_over rules p s l ok fit is =
    let back = reductions_map_back rules (convex_problem p) (problem_lawful p).lawful (well_formed p) ok s fit is.reduced is.reduction in
    let over = program.answers_carry_over l (convex_problem p) is.reduced is.program in
    record {
      optimal = λ v x m h. let (w, right) = over.optimal v x m h in
          subst (λ (y : Point). meaning.IsOptimal p s v y (multipliers_of (convex_problem p) m)) (is.point x) (back.optimal v x (multipliers_of (convex_problem p) m) w right);
      infeasible = λ gap m h. let (w, right) = over.infeasible gap m h in back.infeasible (multipliers_of (convex_problem p) m) w gap right;
      unbounded = λ x d bound slope h.
          subst (λ (y : Point). meaning.IsUnbounded p s y (point_at p.variables d) bound slope) (is.point x)
          (subst (λ (z : Point). meaning.IsUnbounded p s (is.reduced.point x) z bound slope) (is.point d) (back.unbounded x d bound slope (over.unbounded x d bound slope h)));
    }
