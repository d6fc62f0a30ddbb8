-- Which nodes of a problem reach no variable.
use Rattle.std.specs.Prelude.{ℕ, Bool}
use Rattle.dcx_convex.specs.Certificates as certificates
use Rattle.dcx_tree.specs.declared.problem.Problem.{Problem}
use Rattle.dcx_tree.specs.Meaning.{convex_problem}

-- node i reaches no variable, as the rules say
abbrev pub is_fixed : Problem → ℕ → Bool
is_fixed p i = certificates.is_fixed (convex_problem p).nodes i
