-- A node that has a variable below it is reduced, whether parameters are numbers or affine.
use Rattle.std.proofs.Common.{◌≡◌, ℕ, true, false, ap, ◌∙◌}
use Rattle.std.specs.Prelude.{not, ◌&&◌}
use Rattle.dcx_convex.specs.Rules.{Rules, Plain, Parametrized, judgement_at}
use Rattle.dcx_convex.specs.Certificates.{is_fixed}
use Rattle.dcx_tree.specs.declared.problem.Problem.{Problem}
use Rattle.dcx_tree.specs.Meaning.{convex_problem}
use Rattle.dcx_unknowns.specs.Layout.{is_reduced}
use Rattle.dcx_graph.proofs.Settled.{fixed_alike}

pub unfixed_is_reduced : (rules : Rules) (p : Problem) (i : ℕ) → is_fixed (convex_problem p).nodes i ≡ false → is_reduced rules p i ≡ true
unfixed_is_reduced Plain p i t = ap not t
unfixed_is_reduced Parametrized p i t =
    ap (λ b. not (b && (judgement_at Parametrized (convex_problem p).nodes i).unparametrized)) (fixed_alike Parametrized (convex_problem p).nodes i ∙ t)
