-- The rules at work: small problems and their verdicts.
use Rattle.std.specs.Prelude.{nat_eq, if◌then◌else◌, ◌≡◌, ℕ, true, false, List, [], ◌∷◌, pos, negsuc}
use Rattle.dcx_math.specs.Rational.{ℚ, whole, ◌+ℚ◌, ◌-ℚ◌, neg_ℚ, rat_abs, rat_max, ◌≤ℚ◌}
use Rattle.dcx_shape.specs.declared.shape.Sides.TheVariants.{Scalar, Vector}
use Rattle.dcx_atom.specs.declared.flags.Bend.TheVariants.{Convex}
use Rattle.dcx_atom.specs.Signs.{sign_at, rises, falls, common_sign, flipped, by_other}
use Rattle.dcx_convex.specs.Calls.{Call, Nonlinear, Linear}
use Rattle.dcx_convex.specs.Pairs.{product_call, quotient_call}
use Rattle.dcx_convex.specs.Nodes.{Setting, first_of, AreLawful, Fits, Attribute, Free, Nonneg, Node, Variable, Parameter, Constant, Apply}
use Rattle.dcx_convex.specs.Rules.{Plain, Parametrized}
use Rattle.dcx_convex.specs.Problems.{Sense, Minimize, Maximize, AtMost, Equal, Problem, accepted_by, IsAccepted}
use Rattle.dcx_convex.specs.Answers.{Multipliers, lagrangian_of, IsOptimal}
use Rattle.dcx_convex.specs.Certificates.{Coefficients, Slopes, IsCertificate, total}
use Rattle.dcx_convex.specs.Reductions.{Reduced, IsWellFormed, IsReduction, IsRightOptimal}

-- ---- calls on numbers, and the larger of two entries
abbrev pub absolute : Call
absolute = record { kind = Nonlinear Convex; size = 1; sign = λ signs. record { nonneg = true; nonpos = false }; trend = λ signs i. by_other (sign_at signs 0); value = λ a j. rat_abs (a 0 0) }

abbrev pub larger : Call
larger = record { kind = Nonlinear Convex; size = 1; sign = λ signs. sign_at signs 0; trend = λ signs i. rises; value = λ a j. rat_max (a 0 0) (a 0 1) }

abbrev pub sum : Call
sum = record { kind = Linear; size = 1; sign = common_sign; trend = λ signs i. rises; value = λ a j. a 0 0 +ℚ a 1 0 }

abbrev pub negative : Call
negative = record { kind = Linear; size = 1; sign = λ signs. flipped (sign_at signs 0); trend = λ signs i. falls; value = λ a j. neg_ℚ (a 0 0) }

abbrev pub times : Call
times = product_call 1 (λ j. record { left = 0; right = 0 } ∷ [])

abbrev pub over : Call
over = quotient_call 1 (λ j. record { left = 0; right = 0 } ∷ [])

-- ---- nodes
abbrev pub variable : Node
variable = record { head = Variable (record { number = 0; sides = Scalar; attribute = Free }); args = [] }

abbrev pub parameter : ℕ → Attribute → Node
parameter number attribute = record { head = Parameter (record { number = number; sides = Scalar; attribute = attribute }); args = [] }

abbrev pub constant : ℚ → Node
constant x = record { head = Constant (x ∷ []); args = [] }

abbrev pub call : Call → List ℕ → Node
call c args = record { head = Apply c; args = args }

abbrev pub optimize : Sense → List Node → ℕ → Problem
optimize sense nodes objective = record { nodes = nodes; sense = sense; objective = objective; constraints = [] }

-- ---- problems
-- minimize abs(x)
abbrev pub least_abs : Problem
least_abs = optimize Minimize (variable ∷ call absolute (0 ∷ []) ∷ []) 1

-- minimize abs(abs(x) - 1)
abbrev pub nested_abs : Problem
nested_abs = optimize Minimize (variable ∷ call absolute (0 ∷ []) ∷ constant (whole (negsuc 0)) ∷ call sum (1 ∷ 2 ∷ []) ∷ call absolute (3 ∷ []) ∷ []) 4

-- minimize abs(abs(x) + 1)
abbrev pub nested_above : Problem
nested_above = optimize Minimize (variable ∷ call absolute (0 ∷ []) ∷ constant (whole (pos 1)) ∷ call sum (1 ∷ 2 ∷ []) ∷ call absolute (3 ∷ []) ∷ []) 4

-- minimize 0 subject to 0 * abs(x) == 0
abbrev pub zero_times_abs : Problem
zero_times_abs = record {
  nodes = variable ∷ constant (whole (pos 0)) ∷ call absolute (0 ∷ []) ∷ call times (1 ∷ 2 ∷ []) ∷ [];
  sense = Minimize;
  objective = 1;
  constraints = record { relation = Equal; left = 3; right = 1; size = 1 } ∷ [];
}

-- minimize max(x) - max(x), which is 0
abbrev pub max_less_max : Problem
max_less_max =
    optimize Minimize (record { head = Variable (record { number = 0; sides = Vector 2; attribute = Free }); args = [] } ∷ call larger (0 ∷ []) ∷ call negative (1 ∷ []) ∷ call sum (1 ∷ 2 ∷ []) ∷ []) 3

-- minimize x subject to abs(x) >= 1
abbrev pub far_from_zero : Problem
far_from_zero = record {
  nodes = variable ∷ constant (whole (pos 1)) ∷ call absolute (0 ∷ []) ∷ [];
  sense = Minimize;
  objective = 0;
  constraints = record { relation = AtMost; left = 1; right = 2; size = 1 } ∷ [];
}

-- minimize p * q * x, minimize p * x, and minimize x / p
abbrev pub two_parameters : Problem
two_parameters = optimize Minimize (parameter 0 Nonneg ∷ parameter 1 Nonneg ∷ call times (0 ∷ 1 ∷ []) ∷ variable ∷ call times (2 ∷ 3 ∷ []) ∷ []) 4

abbrev pub one_parameter : Problem
one_parameter = optimize Minimize (parameter 0 Free ∷ variable ∷ call times (0 ∷ 1 ∷ []) ∷ []) 2

abbrev pub over_parameter : Problem
over_parameter = optimize Minimize (variable ∷ parameter 0 Free ∷ call over (0 ∷ 1 ∷ []) ∷ []) 2

-- maximize abs(x)
abbrev pub greatest_abs : Problem
greatest_abs = optimize Maximize (variable ∷ call absolute (0 ∷ []) ∷ []) 1

-- ---- verdicts
pub record Verdicts : Type 0 where
  pub nested_abs_refused : accepted_by Plain nested_abs ≡ false
  pub nested_above_accepted : accepted_by Plain nested_above ≡ true
  pub zero_times_abs_accepted : accepted_by Plain zero_times_abs ≡ true
  pub max_less_max_refused : accepted_by Plain max_less_max ≡ false
  pub far_from_zero_refused : accepted_by Plain far_from_zero ≡ false
  pub greatest_abs_refused : accepted_by Plain greatest_abs ≡ false
  -- accepted, and again where parameters are affine
  pub one_parameter_accepted : accepted_by Plain one_parameter ≡ true
  pub one_parameter_dpp : accepted_by Parametrized one_parameter ≡ true
  -- accepted, and not again
  pub two_parameters_accepted : accepted_by Plain two_parameters ≡ true
  pub two_parameters_not_dpp : accepted_by Parametrized two_parameters ≡ false
  pub over_parameter_accepted : accepted_by Plain over_parameter ≡ true
  pub over_parameter_not_dpp : accepted_by Parametrized over_parameter ≡ false

-- ---- a reduced program
-- of least_abs: minimize t, where x - t and -x - t are at most 0 and t is at least 0. Unknown 0 is x and unknown 1 is t
abbrev pub least_abs_reduced : Reduced
least_abs_reduced = record {
  nonneg = λ n. nat_eq n 1;
  nonpos = λ n. false;
  point = λ u number e. u 0;
  forms = λ u i. first_of 1 (λ j. u i);
  rows = (λ u. u 0 -ℚ u 1) ∷ (λ u. neg_ℚ (u 0) -ℚ u 1) ∷ [];
}

-- ---- a certificate of it: the coefficient of abs(x) is 1, that of x is 0, and nothing is handed on
abbrev pub least_abs_coefficients : Coefficients
least_abs_coefficients i e = if nat_eq i 1 then whole (pos 1) else whole (pos 0)

abbrev pub no_slopes : Slopes
no_slopes i k e = whole (pos 0)

abbrev pub no_multipliers : Multipliers
no_multipliers k j = whole (pos 0)

-- the reduced program is one, and so its optimal answer shows that 0 is the least abs(x)
pub record LeastAbs (s : Setting) : Type 0 where
  pub lawful : AreLawful least_abs.nodes
  pub fits : Fits least_abs.nodes s
  pub accepted : IsAccepted least_abs
  pub formed : IsWellFormed least_abs
  pub reduction : IsReduction Plain least_abs s least_abs_reduced
  pub right : IsRightOptimal least_abs least_abs_reduced (whole (pos 0)) (λ n. whole (pos 0)) no_multipliers (λ k. whole (pos 0))
  pub optimal : IsOptimal least_abs s (whole (pos 0)) (λ number e. whole (pos 0)) no_multipliers
  pub certificate : IsCertificate least_abs.nodes s (lagrangian_of least_abs no_multipliers) least_abs_coefficients no_slopes
  pub reaches : whole (pos 0) ≤ℚ total least_abs.nodes s least_abs_coefficients
