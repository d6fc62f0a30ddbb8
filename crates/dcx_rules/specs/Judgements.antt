-- The judgements of nodes as the code keeps them, and what the rules say of a call.
use Rattle.std.specs.Prelude.{◌≡◌, ℕ, ◌&&◌, ◌||◌, Bool, true, List, [], length, map, Some, slice_get}
use Rattle.std.specs.List.{list_all}
use Rattle.dcx_shape.specs.declared.shape.Sides.TheVariants.{Scalar}
use Rattle.dcx_atom.specs.declared.flags.Sign.{Sign}
use Rattle.dcx_atom.specs.declared.flags.Bend.{Bend}
use Rattle.dcx_atom.specs.Signs.{unknown_sign}
use Rattle.dcx_affine.specs.declared.pairing.Pairing.{Pairing}
use Rattle.dcx_call.specs.declared.call.Call.{Call}
use Rattle.dcx_call.specs.Calls.{trend_of}
use Rattle.dcx_convex.specs.Nodes.{Head, Variable, Parameter, Constant, Apply}
use Rattle.dcx_convex.specs.Rules as convex
use Rattle.dcx_convex.specs.Rules.{is_constant, bends, all_suit, judgement_by, judgement_at}
use Rattle.dcx_tree.specs.declared.problem.Problem.{Problem}
use Rattle.dcx_tree.specs.Nodes.{head_of, pairing_call}
use Rattle.dcx_tree.specs.Meaning.{convex_problem}
use Rattle.dcx_rules.specs.declared.judgement.Rules.{Rules}
use Rattle.dcx_rules.specs.declared.judgement.Rules.TheVariants.{Plain, Parametrized}
use Rattle.dcx_rules.specs.declared.judgement.Judgement.{Judgement}

abbrev pub rules_of : Rules → convex.Rules
rules_of Plain = convex.Plain
rules_of Parametrized = convex.Parametrized

abbrev pub judgement_of : Judgement → convex.Judgement
judgement_of g = record { sign = g.sign; fixed = g.fixed; unparametrized = g.unparametrized; convex = g.convex; concave = g.concave }

-- what is said where there is no argument
abbrev pub no_judgement : Judgement
no_judgement = record { sign = unknown_sign; fixed = true; unparametrized = true; convex = true; concave = true }

abbrev pub signs_of : List Judgement → List Sign
signs_of args = map (λ g. g.sign) args

-- a call as the rules see it: they ask neither for names nor for shapes
abbrev pub rules_head : Call → Head
rules_head call = head_of (record { variables = []; parameters = [] }) call [] Scalar

-- what the rules say of a call of such arguments
abbrev pub judged : convex.Rules → Call → List convex.Judgement → convex.Judgement
judged rules call args = judgement_by rules (rules_head call) args

-- the call bends so, where each argument may stand in its place
abbrev pub bends_head : convex.Rules → Bend → Head → List convex.Judgement → Bool
bends_head rules bend (Variable d) args = true
bends_head rules bend (Parameter d) args = true
bends_head rules bend (Constant xs) args = true
bends_head rules bend (Apply c) args = bends rules c.kind bend args

abbrev pub bends_pairing : convex.Rules → Bend → Pairing → List convex.Judgement → Bool
bends_pairing rules bend pairing args = bends rules (pairing_call pairing [] Scalar).kind bend args

-- the call is constant, or it bends so and each argument may stand in its place
abbrev pub composes : convex.Rules → Bend → Call → List Judgement → List Sign → Bool
composes rules bend call args signs =
    list_all (λ g. is_constant rules (judgement_of g)) args || (bends_head rules bend (rules_head call) (map judgement_of args) && all_suit bend (trend_of call signs) (map judgement_of args))

-- these are the judgements of the nodes of a problem, in order
pub record AreJudgements (rules : convex.Rules) (p : Problem) (gs : List Judgement) : Type 0 where
  pub count : length gs ≡ length p.tree
  pub each : (i : ℕ) (g : Judgement) → slice_get gs i ≡ Some g → judgement_of g ≡ judgement_at rules (convex_problem p).nodes i
