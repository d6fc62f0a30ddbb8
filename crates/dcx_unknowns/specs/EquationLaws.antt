-- What is true of forms that meet the equations, as the clauses of the laws say it.
use Rattle.std.specs.Prelude.{◌≡◌, ℕ, ◌<◌, length}
use Rattle.dcx_convex.specs.Nodes.{Setting}
use Rattle.dcx_convex.specs.Rules.{Rules}
use Rattle.dcx_convex.specs.Reductions.{Unknowns, IsReduction}
use Rattle.dcx_tree.specs.declared.problem.Problem.{Problem}
use Rattle.dcx_tree.specs.Meaning.{convex_problem}
use Rattle.dcx_unknowns.specs.Equations.{Forms, AllStand, reduced_with}

-- forms that meet the equation of each node, with the rows of the graphs, are a reduced program of the problem
abbrev pub EquationsReduce : Type 0
EquationsReduce = (rules : Rules) (p : Problem) (s : Setting) (forms : Forms) → AllStand rules p s forms →
    IsReduction rules (convex_problem p) s (reduced_with rules p s forms)

-- there are forms that meet the equations
abbrev pub EquationsHaveForms : Type 0
EquationsHaveForms = (rules : Rules) (p : Problem) (s : Setting) → (forms : Forms) × AllStand rules p s forms

-- and no two forms of the nodes do
abbrev pub EquationsDetermine : Type 0
EquationsDetermine = (rules : Rules) (p : Problem) (s : Setting) (f g : Forms) → AllStand rules p s f → AllStand rules p s g →
    (u : Unknowns) (i : ℕ) → i < length p.tree → f u i ≡ g u i
