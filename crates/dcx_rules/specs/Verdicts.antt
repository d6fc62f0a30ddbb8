-- What a verdict says of a problem.
use Rattle.std.specs.Prelude.{◌≡◌, ◌↔◌, ℕ, Bool, IsTrue, not, List, length, Some, slice_get}
use Rattle.dcx_atom.specs.Signs.{HasSign}
use Rattle.dcx_convex.specs.Nodes.{Setting, Point}
use Rattle.dcx_convex.specs.Rules.{Plain, Parametrized, judgement_at}
use Rattle.dcx_tree.specs.declared.problem.Problem.{Problem}
use Rattle.dcx_tree.specs.Meaning.{convex_problem, value_at, sign_at, IsInDomain, IsDpp}
use Rattle.dcx_rules.specs.declared.judgement.Judgement.{Judgement}
use Rattle.dcx_rules.specs.declared.verdict.Finding.{Finding}
use Rattle.dcx_rules.specs.Judgements.{AreJudgements}
use Rattle.dcx_rules.specs.Curvatures.{curvature_at, HasCurvature}

-- what is found of each node, in order; what the rules say of each where parameters are affine; and whether the problem is
-- accepted also then
pub record Findings : Type 0 where
  pub nodes : List Finding
  pub parametrized : List Judgement
  pub dpp : Bool

-- node i reaches a variable
abbrev pub reaches_variable : Problem → ℕ → Bool
reaches_variable p i = not (judgement_at Plain (convex_problem p).nodes i).fixed

-- node i reaches a parameter
abbrev pub reaches_parameter : Problem → ℕ → Bool
reaches_parameter p i = not (judgement_at Plain (convex_problem p).nodes i).unparametrized

-- signs, curvatures, what is reached, the judgements where parameters are affine, and dpp are those of the problem
pub record IsVerdictOf (p : Problem) (v : Findings) : Type 0 where
  pub count : length v.nodes ≡ length p.tree
  pub signs : (i : ℕ) (n : Finding) → slice_get v.nodes i ≡ Some n → n.sign ≡ sign_at p i
  pub curvatures : (i : ℕ) (n : Finding) → slice_get v.nodes i ≡ Some n → curvature_at p i ≡ Some n.curvature
  pub variables : (i : ℕ) (n : Finding) → slice_get v.nodes i ≡ Some n → n.reaches_variable ≡ reaches_variable p i
  pub parameters : (i : ℕ) (n : Finding) → slice_get v.nodes i ≡ Some n → n.reaches_parameter ≡ reaches_parameter p i
  pub parametrized : AreJudgements Parametrized p v.parametrized
  pub dpp : IsTrue v.dpp ↔ IsDpp p

-- what is found of node i is true of each entry of its value at s, over all points of the domain
pub record IsTrueOf (p : Problem) (s : Setting) (i : ℕ) (n : Finding) : Type 0 where
  pub sign : (x : Point) → IsInDomain p x → (j : ℕ) → HasSign n.sign (value_at p s x i j)
  pub curvature : (j : ℕ) → HasCurvature n.curvature (IsInDomain p) (λ x. value_at p s x i j)

-- what is found of each node is
abbrev pub AreTrueOf : Problem → Setting → Findings → Type 0
AreTrueOf p s v = (i : ℕ) (n : Finding) → slice_get v.nodes i ≡ Some n → IsTrueOf p s i n
