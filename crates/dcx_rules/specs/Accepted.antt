-- Acceptance by the judgements of the nodes, as the code keeps them.
use Rattle.std.specs.Prelude.{◌≡◌, ℕ, ◌<◌, Bool, true, false, not, ◌&&◌, List, map, Option, Some, None, IsSome, option_map, slice_get}
use Rattle.std.specs.List.{list_all}
use Rattle.dcx_convex.specs.Rules.{argument}
use Rattle.dcx_convex.specs.Problems.{may_be_objective, may_be_sides}
use Rattle.dcx_tree.specs.declared.constraint.Constraint.{Constraint}
use Rattle.dcx_tree.specs.declared.problem.Problem.{Problem}
use Rattle.dcx_tree.specs.Meaning.{sense_of, relation_of}
use Rattle.dcx_rules.specs.declared.judgement.Judgement.{Judgement}
use Rattle.dcx_rules.specs.declared.curvature.Curvature.{Curvature}
use Rattle.dcx_rules.specs.declared.acceptance.Breach.{Breach}
use Rattle.dcx_rules.specs.declared.fault.Rule.{Rule}
use Rattle.dcx_rules.specs.declared.fault.Rule.TheVariants as rules
use Rattle.dcx_rules.specs.declared.fault.RuleSite.{RuleSite}
use Rattle.dcx_rules.specs.declared.fault.RuleSite.TheVariants as sites
use Rattle.dcx_rules.specs.declared.fault.RuleFault.{RuleFault}
use Rattle.dcx_rules.specs.declared.fault.RuleFault.TheVariants.{NotDcp, Memory}
use Rattle.dcx_rules.specs.declared.verdict.Finding.{Finding}
use Rattle.dcx_rules.specs.Judgements.{judgement_of}
use Rattle.dcx_rules.specs.Curvatures.{curvature_of}
use Rattle.dcx_rules.specs.Sites.{sense_rule, kind_rule}

-- both sides of each constraint are among so many nodes
pub record AreSides (constraints : List Constraint) (count : ℕ) : Type 0 where
  pub left : (k : ℕ) (c : Constraint) → slice_get constraints k ≡ Some c → c.left.0 < count
  pub right : (k : ℕ) (c : Constraint) → slice_get constraints k ≡ Some c → c.right.0 < count

-- the objective, and a constraint, keep their rules
abbrev pub objective_stands : Problem → List Judgement → Bool
objective_stands p gs = may_be_objective (sense_of p.sense) (argument (map judgement_of gs) p.objective.0)

abbrev pub stands : List Judgement → Constraint → Bool
stands gs c = may_be_sides (relation_of c.kind) (argument (map judgement_of gs) c.left.0) (argument (map judgement_of gs) c.right.0)

-- all do
abbrev pub accepts : Problem → List Judgement → Bool
accepts p gs = objective_stands p gs && list_all (stands gs) p.constraints

-- constraint k breaks this rule, its own
pub record IsBrokenAt (constraints : List Constraint) (gs : List Judgement) (k : ℕ) (rule : Rule) : Type 0 where
  pub rule_is : option_map (λ c. kind_rule c.kind) (slice_get constraints k) ≡ Some rule
  pub broken : option_map (stands gs) (slice_get constraints k) ≡ Some false
  pub first : (j : ℕ) (c : Constraint) → j < k → slice_get constraints j ≡ Some c → stands gs c ≡ true

-- the first constraint that breaks its rule
abbrev pub IsFirstBroken : List Constraint → List Judgement → RuleSite → Rule → Type 0
IsFirstBroken constraints gs (sites.Node id) rule = ⊥
IsFirstBroken constraints gs sites.Objective rule = ⊥
IsFirstBroken constraints gs (sites.Constraint k) rule = IsBrokenAt constraints gs k rule

abbrev pub IsBroken : List Constraint → List Judgement → Breach → Type 0
IsBroken constraints gs b = IsFirstBroken constraints gs b.site b.rule

-- the objective breaks its rule, or else the first constraint that does
abbrev pub BreaksFirst : Problem → List Judgement → RuleSite → Rule → Type 0
BreaksFirst p gs (sites.Node id) rule = ⊥
BreaksFirst p gs sites.Objective rule = (objective_stands p gs ≡ false) × (rule ≡ sense_rule p.sense)
BreaksFirst p gs (sites.Constraint k) rule = (objective_stands p gs ≡ true) × IsBrokenAt p.constraints gs k rule

abbrev pub IsBreach : Problem → List Judgement → Breach → Type 0
IsBreach p gs b = BreaksFirst p gs b.site b.rule

-- what is found of a node, if it has a curvature
abbrev pub finding : Judgement → Curvature → Finding
finding g curvature = record { sign = g.sign; curvature = curvature; reaches_variable = not g.fixed; reaches_parameter = not g.unparametrized }

abbrev pub finding_of : Judgement → Option Finding
finding_of g = option_map (finding g) (curvature_of (judgement_of g))

-- node i is the first one without a curvature
pub record IsLostAt (gs : List Judgement) (i : ℕ) : Type 0 where
  pub none : option_map (λ g. curvature_of (judgement_of g)) (slice_get gs i) ≡ Some None
  pub first : (j : ℕ) (g : Judgement) → j < i → slice_get gs j ≡ Some g → IsSome (curvature_of (judgement_of g))

abbrev pub IsLostSite : List Judgement → RuleSite → Rule → Type 0
IsLostSite gs (sites.Node id) rule = IsLostAt gs id.0 × (rule ≡ rules.Composition)
IsLostSite gs sites.Objective rule = ⊥
IsLostSite gs (sites.Constraint k) rule = ⊥

abbrev pub IsFirstLost : List Judgement → RuleFault → Type 0
IsFirstLost gs (NotDcp site rule) = IsLostSite gs site rule
IsFirstLost gs Memory = Unit {0}
