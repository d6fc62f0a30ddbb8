-- Where a problem breaks a rule. Its sites in order are its nodes, its objective, and its constraints.
use Rattle.std.specs.Prelude.{◌≡◌, ℕ, ◌<◌, false, length, Option, Some, None, IsSome, option_map, slice_get}
use Rattle.std.specs.List.{All}
use Rattle.dcx_arena.specs.Nodes.{args_at}
use Rattle.dcx_convex.specs.Rules as convex
use Rattle.dcx_convex.specs.Rules.{Plain, judgement_at}
use Rattle.dcx_convex.specs.Problems.{may_be_objective, may_be_sides}
use Rattle.dcx_tree.specs.declared.constraint.Sense.{Sense}
use Rattle.dcx_tree.specs.declared.constraint.Sense.TheVariants as senses
use Rattle.dcx_tree.specs.declared.constraint.Kind.{Kind}
use Rattle.dcx_tree.specs.declared.constraint.Kind.TheVariants as kinds
use Rattle.dcx_tree.specs.declared.constraint.Constraint.{Constraint}
use Rattle.dcx_tree.specs.declared.problem.Problem.{Problem}
use Rattle.dcx_tree.specs.Meaning.{sense_of, relation_of, convex_problem, IsAccepted}
use Rattle.dcx_rules.specs.declared.fault.Rule.{Rule}
use Rattle.dcx_rules.specs.declared.fault.Rule.TheVariants as rules
use Rattle.dcx_rules.specs.declared.fault.RuleSite.{RuleSite}
use Rattle.dcx_rules.specs.declared.fault.RuleSite.TheVariants as sites
use Rattle.dcx_rules.specs.declared.fault.RuleFault.{RuleFault}
use Rattle.dcx_rules.specs.declared.fault.RuleFault.TheVariants.{NotDcp, Memory}
use Rattle.dcx_rules.specs.Curvatures.{curvature_at}

-- ---- each site has a rule
abbrev pub sense_rule : Sense → Rule
sense_rule senses.Minimize = rules.Minimize
sense_rule senses.Maximize = rules.Maximize

abbrev pub kind_rule : Kind → Rule
kind_rule kinds.AtMost = rules.AtMost
kind_rule kinds.Equal = rules.Equal

abbrev pub rule_at : Problem → RuleSite → Option Rule
rule_at p (sites.Node id) = Some rules.Composition
rule_at p sites.Objective = Some (sense_rule p.sense)
rule_at p (sites.Constraint k) = option_map (λ c. kind_rule c.kind) (slice_get p.constraints k)

-- ---- a site breaks its rule
-- node i has no curvature, and each of its arguments has one
pub record LosesCurvature (p : Problem) (i : ℕ) : Type 0 where
  pub there : i < length p.tree
  pub none : curvature_at p i ≡ None
  pub args : All (λ a. IsSome (curvature_at p a)) (args_at p.tree i)

abbrev pub judgement_in : Problem → ℕ → convex.Judgement
judgement_in p i = judgement_at Plain (convex_problem p).nodes i

-- the objective isn't convex, or concave, as it must be
abbrev pub BreaksSense : Problem → Type 0
BreaksSense p = may_be_objective (sense_of p.sense) (judgement_in p p.objective.0) ≡ false

-- left minus right of constraint k isn't convex, or affine, as it must be
abbrev pub BreaksKind : Problem → ℕ → Type 0
BreaksKind p k = (c : Constraint) × (slice_get p.constraints k ≡ Some c) × (may_be_sides (relation_of c.kind) (judgement_in p c.left.0) (judgement_in p c.right.0) ≡ false)

abbrev pub Breaks : Problem → RuleSite → Type 0
Breaks p (sites.Node id) = LosesCurvature p id.0
Breaks p sites.Objective = BreaksSense p
Breaks p (sites.Constraint k) = BreaksKind p k

-- ---- the first one
abbrev pub IsBefore : RuleSite → RuleSite → Type 0
IsBefore (sites.Node id) (sites.Node other) = id.0 < other.0
IsBefore (sites.Node id) sites.Objective = Unit {0}
IsBefore (sites.Node id) (sites.Constraint k) = Unit {0}
IsBefore sites.Objective (sites.Node other) = ⊥
IsBefore sites.Objective sites.Objective = ⊥
IsBefore sites.Objective (sites.Constraint k) = Unit {0}
IsBefore (sites.Constraint k) (sites.Node other) = ⊥
IsBefore (sites.Constraint k) sites.Objective = ⊥
IsBefore (sites.Constraint k) (sites.Constraint other) = k < other

-- the site breaks this rule, which is its own, and no site before it breaks one
pub record IsFirst (p : Problem) (site : RuleSite) (rule : Rule) : Type 0 where
  pub rule_is : rule_at p site ≡ Some rule
  pub breaks : Breaks p site
  pub first : (before : RuleSite) → IsBefore before site → ¬ Breaks p before

-- why there is no verdict: the problem isn't accepted, and this is the first site that breaks its rule; or memory is wanted
abbrev pub IsFaultOf : Problem → RuleFault → Type 0
IsFaultOf p (NotDcp site rule) = (¬ IsAccepted p) × IsFirst p site rule
IsFaultOf p Memory = Unit {0}
