-- The rules of disciplined convex programming, and those of disciplined parametrized programming: the sign and the
-- curvature of each node, from those of its arguments.
use Rattle.std.specs.Prelude.{ℕ, suc, Bool, true, false, ◌&&◌, ◌||◌, List, [], ◌∷◌, map, slice_index_or, pos}
use Rattle.std.specs.List.{list_all}
use Rattle.dcx_math.specs.Rational.{ℚ, whole, rat_le}
use Rattle.dcx_atom.specs.declared.flags.Sign.{Sign}
use Rattle.dcx_atom.specs.declared.flags.Trend.{Trend}
use Rattle.dcx_atom.specs.declared.flags.Bend.{Bend}
use Rattle.dcx_atom.specs.declared.flags.Bend.TheVariants.{Convex, Concave}
use Rattle.dcx_atom.specs.Signs.{unknown_sign}
use Rattle.dcx_convex.specs.Calls.{Kind, Nonlinear, Linear, Product, Quotient, Call}
use Rattle.dcx_convex.specs.Nodes.{Attribute, Free, Nonneg, Nonpos, Symmetric, Diag, Head, Variable, Parameter, Constant, Apply, Node, told_of}

-- whose rules: where a parameter is a number, or where it is affine, as a variable is
pub data Rules : Type 0 where
  Plain : Rules
  Parametrized : Rules

-- what the rules say of a node
pub record Judgement : Type 0 where
  pub sign : Sign
  -- it reaches no variable
  pub fixed : Bool
  -- it reaches no parameter
  pub unparametrized : Bool
  pub convex : Bool
  pub concave : Bool

-- it is constant: it reaches no variable, and where parameters aren't numbers no parameter
abbrev pub is_constant : Rules → Judgement → Bool
is_constant Plain g = g.fixed
is_constant Parametrized g = g.fixed && g.unparametrized

abbrev pub is_affine : Judgement → Bool
is_affine g = g.convex && g.concave

-- convex or concave, as told
abbrev pub is_bent : Bend → Judgement → Bool
is_bent Convex g = g.convex
is_bent Concave g = g.concave

abbrev pub opposite : Bend → Bend
opposite Convex = Concave
opposite Concave = Convex

abbrev pub same_bend : Bend → Bend → Bool
same_bend Convex Convex = true
same_bend Convex Concave = false
same_bend Concave Convex = false
same_bend Concave Concave = true

-- ---- signs
abbrev pub attribute_sign : Attribute → Sign
attribute_sign Free = unknown_sign
attribute_sign Nonneg = record { nonneg = true; nonpos = false }
attribute_sign Nonpos = record { nonneg = false; nonpos = true }
attribute_sign Symmetric = unknown_sign
attribute_sign Diag = unknown_sign

-- nonneg where all entries are at least 0, and nonpos where all are at most 0
abbrev pub numbers_sign : List ℚ → Sign
numbers_sign xs = record { nonneg = list_all (λ x. rat_le (whole (pos 0)) x) xs; nonpos = list_all (λ x. rat_le x (whole (pos 0))) xs }

abbrev pub sign_by : Head → List Judgement → Sign
sign_by (Variable d) args = attribute_sign d.attribute
sign_by (Parameter d) args = attribute_sign d.attribute
sign_by (Constant xs) args = numbers_sign xs
sign_by (Apply c) args = c.sign (map (λ g. g.sign) args)

-- ---- what is reached
abbrev pub fixed_by : Head → List Judgement → Bool
fixed_by (Variable d) args = false
fixed_by (Parameter d) args = true
fixed_by (Constant xs) args = true
fixed_by (Apply c) args = list_all (λ g. g.fixed) args

abbrev pub unparametrized_by : Head → List Judgement → Bool
unparametrized_by (Variable d) args = true
unparametrized_by (Parameter d) args = false
unparametrized_by (Constant xs) args = true
unparametrized_by (Apply c) args = list_all (λ g. g.unparametrized) args

-- ---- curvature: the composition rule
-- what is said where there is no argument
abbrev pub no_argument : Judgement
no_argument = record { sign = unknown_sign; fixed = true; unparametrized = true; convex = true; concave = true }

abbrev pub argument : List Judgement → ℕ → Judgement
argument args i = slice_index_or args i no_argument

-- a side of a product counts as a number beside the other one: it is constant, or, where parameters are affine, it
-- reaches no variable and is affine, and the other reaches no parameter
abbrev pub scales : Rules → Judgement → Judgement → Bool
scales Plain side other = is_constant Plain side
scales Parametrized side other = is_constant Parametrized side || (side.fixed && (is_affine side && other.unparametrized))

-- a call of this kind is convex, or concave, in these arguments
abbrev pub bends : Rules → Kind → Bend → List Judgement → Bool
bends rules (Nonlinear own) bend args = same_bend own bend
bends rules Linear bend args = true
bends rules Product bend args = scales rules (argument args 0) (argument args 1) || scales rules (argument args 1) (argument args 0)
bends rules Quotient bend args = is_constant rules (argument args 1)

-- an argument may stand in a convex call: it is affine, or is convex and the call rises in it, or is concave and the call falls in it;
-- and in a concave call the other way round
abbrev pub suits : Bend → Trend → Judgement → Bool
suits bend trend g = is_affine g || ((is_bent bend g && trend.rising) || (is_bent (opposite bend) g && trend.falling))

-- each argument does
abbrev pub all_suit : Bend → (ℕ → Trend) → List Judgement → Bool
all_suit bend trend [] = true
all_suit bend trend (g ∷ args) = suits bend (trend 0) g && all_suit bend (λ i. trend (suc i)) args

-- a call of these arguments is constant, or it bends so and each argument may stand there
abbrev pub is_bent_call : Rules → Call → Bend → List Judgement → Bool
is_bent_call rules c bend args =
    list_all (is_constant rules) args || (bends rules c.kind bend args && all_suit bend (c.trend (map (λ g. g.sign) args)) args)

-- variables, parameters and constants are affine
abbrev pub is_bent_by : Rules → Bend → Head → List Judgement → Bool
is_bent_by rules bend (Variable d) args = true
is_bent_by rules bend (Parameter d) args = true
is_bent_by rules bend (Constant xs) args = true
is_bent_by rules bend (Apply c) args = is_bent_call rules c bend args

-- ---- all rules together
abbrev pub judgement_by : Rules → Head → List Judgement → Judgement
judgement_by rules head args = record {
  sign = sign_by head args;
  fixed = fixed_by head args;
  unparametrized = unparametrized_by head args;
  convex = is_bent_by rules Convex head args;
  concave = is_bent_by rules Concave head args;
}

-- what the rules say of node i
unfoldable pub judgement_at : Rules → List Node → ℕ → Judgement
judgement_at rules nodes i = told_of no_argument (judgement_by rules) nodes i
