-- The program of a problem as forms of its nodes have it, and where its rows come from.
use Rattle.std.specs.Prelude.{◌≡◌, ◌++◌, map}
use Rattle.dcx_frac.specs.declared.fraction.Frac.{Frac}
use Rattle.dcx_convex.specs.Nodes.{Setting}
use Rattle.dcx_convex.specs.Rules.{Rules}
use Rattle.dcx_tree.specs.declared.problem.Problem.{Problem}
use Rattle.dcx_tree.specs.Meaning.{convex_problem}
use Rattle.dcx_std.specs.Solutions.{linear_program}
use Rattle.dcx_unknowns.specs.Equations.{Forms, AllStand, reduced_with}
use Rattle.dcx_postsolve.specs.Programs.{IsProgramOf}
use Rattle.dcx_graph.specs.Program.{Program, entry_origin, constraint_entries}
use Rattle.dcx_graph.specs.Answers.{rows_of}
use Rattle.dcx_cert_build.specs.Origins.{graph_origins}

-- by some rules forms meet the equation of each node, and this is their linear program: its rows come from the constraints, entry by
-- entry, and then from the graphs of the nodes that are reduced by these rules
pub record HasForms (p : Problem) (s : Setting) (q : Program Frac) : Type 0 where
  pub rules : Rules
  pub forms : Forms
  pub stand : AllStand rules p s forms
  pub program : IsProgramOf (linear_program (rows_of q)) (convex_problem p) (reduced_with rules p s forms)
  pub origins : q.origins ≡ map entry_origin (constraint_entries p) ++ graph_origins rules p
