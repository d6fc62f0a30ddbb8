-- The refusal of a problem that breaks a rule, and what is found of an accepted one.
use Rattle.std.specs.Prelude.{◌≡◌, ◌↔◌, ℕ, IsTrue, length, Option, Some, option_map, slice_get}
use Rattle.std.specs.List.{sum_by}
use Rattle.dcx_shape.specs.declared.place.Place.{Place}
use Rattle.dcx_shape.specs.declared.shape.Shape.{Shape}
use Rattle.dcx_shape.specs.Shape.{sides_of}
use Rattle.dcx_shape.specs.Sides.{entries_of}
use Rattle.dcx_arena.specs.Nodes.{place_at}
use Rattle.dcx_tree.specs.declared.problem.Problem.{Problem}
use Rattle.dcx_tree.specs.Meaning.{sign_at, IsDpp}
use Rattle.dcx_rules.specs.declared.fault.Rule.{Rule}
use Rattle.dcx_rules.specs.declared.fault.RuleSite.{RuleSite}
use Rattle.dcx_rules.specs.declared.fault.RuleSite.TheVariants.{Node, Objective, Constraint}
use Rattle.dcx_rules.specs.Curvatures.{curvature_at}
use Rattle.dcx_rules.specs.Sites.{IsFirst}
use Rattle.dcx_refusal.specs.declared.checked.Checked.{Checked}
use Rattle.dcx_refusal.specs.declared.refusal.Carried.TheVariants as carried_is
use Rattle.dcx_refusal.specs.declared.refusal.Refusal.{Refusal}
use Rattle.dcx_refusal.specs.declared.refusal.RefusalSource.TheVariants.{Script}
use Rattle.dcx_refusal.specs.Made.{IsRefusedAs}

-- ---- refusals
-- where a site stands in the script; None where the problem has no such site
abbrev pub site_place : Problem → RuleSite → Option Place
site_place p (Node id) = place_at p.tree id.0
site_place p Objective = Some p.objective_place
site_place p (Constraint k) = option_map (λ c. c.place) (slice_get p.constraints k)

-- the refusal names the first site that breaks its rule
pub record IsRefusedFor (p : Problem) (r : Refusal) : Type 0 where
  pub site : RuleSite
  pub rule : Rule
  pub first : IsFirst p site rule
  pub place : Place
  pub stands : site_place p site ≡ Some place
  pub refusal : IsRefusedAs Script 19 place (carried_is.Rule rule) r

-- ---- what is found
-- the entries of a shape
abbrev pub size_of : Shape → ℕ
size_of shape = entries_of (sides_of shape)

-- what is found is true of the problem
pub record IsFoundOf (p : Problem) (c : Checked) : Type 0 where
  pub sense : c.sense ≡ p.sense
  pub sign : c.sign ≡ sign_at p p.objective.0
  pub curvature : curvature_at p p.objective.0 ≡ Some c.curvature
  pub dpp : IsTrue c.dpp ↔ IsDpp p
  pub variables : c.variables ≡ length p.variables
  pub variable_entries : c.variable_entries ≡ sum_by (λ v. size_of v.shape) p.variables
  pub parameters : c.parameters ≡ length p.parameters
  pub parameter_entries : c.parameter_entries ≡ sum_by (λ q. size_of q.shape) p.parameters
  pub constraints : c.constraints ≡ length p.constraints
  pub constraint_entries : c.constraint_entries ≡ sum_by (λ k. size_of k.shape) p.constraints
