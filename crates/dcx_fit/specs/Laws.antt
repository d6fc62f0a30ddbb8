-- The main statements, as the clauses of the laws say them.
use Rattle.std.specs.Prelude.{◌≡◌, ◌≢◌, ◌⊎◌, ◌↔◌, List, map}
use Rattle.dcx_convex.specs.Nodes as nodes
use Rattle.dcx_convex.specs.Nodes.{Setting, Point, EachNode, HasNoZeroDivisor}
use Rattle.dcx_point.specs.Pairs.{Pairs}
use Rattle.dcx_call.specs.declared.attribute.Parameter.{Parameter}
use Rattle.dcx_tree.specs.declared.problem.Problem.{Problem}
use Rattle.dcx_tree.specs.Meaning.{convex_problem, setting_of, IsFitting}
use Rattle.dcx_answer.specs.declared.stop.Stop.{Stop}
use Rattle.dcx_answer.specs.declared.stop.Stop.TheVariants.{Memory}
use Rattle.dcx_fit.specs.Fit.{FitsParameters, IsFirstMisfit}

-- a setting fits or has a first misfit, which isn't want of memory, and not both; there is one first misfit
pub record HoldsForStops : Type 0 where
  pub either : (parameters : List Parameter) (given : Pairs) → FitsParameters parameters given ⊎ ((stop : Stop) × IsFirstMisfit parameters given stop × (stop ≢ Memory))
  pub unfit : (parameters : List Parameter) (given : Pairs) (stop : Stop) → IsFirstMisfit parameters given stop → ¬ FitsParameters parameters given
  pub one : (parameters : List Parameter) (given : Pairs) (s t : Stop) → IsFirstMisfit parameters given s → IsFirstMisfit parameters given t →
      s ≢ Memory → t ≢ Memory → s ≡ t

-- at this setting no entry of a divisor is 0, at any point
abbrev pub DividesByNoZero : Problem → Setting → Type 0
DividesByNoZero p s = (x : Point) → EachNode (convex_problem p).nodes (λ n. HasNoZeroDivisor n.head (map (nodes.value_at (convex_problem p).nodes s x) n.args))

-- a setting is a fitting one of the problem exactly where it fits the parameters and nothing is divided by 0
abbrev pub HoldsForFitting : Type 0
HoldsForFitting = (p : Problem) (given : Pairs) → IsFitting p given ↔ (FitsParameters p.parameters given × DividesByNoZero p (setting_of p given))
