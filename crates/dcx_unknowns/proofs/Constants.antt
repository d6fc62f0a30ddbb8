-- Nodes that are numbers by the rules: what stands for one is its value, and so it is what the call makes of its arguments.
use Rattle.std.proofs.Common.{◌≡◌, ℕ, ◌<◌, arith, IsTrue, List, [], ◌∷◌, length, map, refl, sym, ap, ◌∙◌, subst}
use Rattle.std.specs.Prelude.{◌&&◌}
use Rattle.std.specs.List.{list_all}
use Rattle.std.proofs.lemmas.Bool.{and_parts, and_from}
use Rattle.dcx_math.specs.Rational.{ℚ}
use Rattle.dcx_convex.specs.Calls.{Call}
use Rattle.dcx_convex.specs.Nodes.{Head, Variable, Parameter, Constant, Apply, Node, IsNode, Numbers, Point, Setting, IsOrdered, first_of, arguments, value_by, value_at}
use Rattle.dcx_convex.specs.Rules.{Rules, Plain, Parametrized, Judgement, is_constant, judgement_by, judgement_at}
use Rattle.dcx_convex.specs.Reductions.{StandsFor}
use Rattle.dcx_convex.proofs.Told.{value_tells, judgement_tells}
use Rattle.dcx_convex.proofs.Arguments.{args_same}
use Rattle.dcx_convex.proofs.Beyond.{beyond_same}
use Rattle.dcx_convex.proofs.SideInduction.{both_constant}

-- what has the value at what stands for the arguments stands for the node
pub value_stands : (rules : Rules) (s : Setting) (x : Point) (head : Head) (judged : List Judgement) (args : List Numbers) (v : Numbers) →
    v ≡ value_by s x head args → StandsFor rules s x head judged args v
value_stands rules s x (Variable d) judged args v e = e
value_stands rules s x (Parameter d) judged args v e = e
value_stands rules s x (Constant xs) judged args v e = e
value_stands rules s x (Apply c) judged args v e = record { beyond = λ bend t j. beyond_same bend (ap (λ w. w j) (sym e)); same = λ t. e }

-- a call is constant where all its arguments are, and nowhere else
parts_constant : (args : List Judgement) → IsTrue (list_all (is_constant Parametrized) args) → IsTrue (list_all (λ g. g.fixed) args) × IsTrue (list_all (λ g. g.unparametrized) args)
parts_constant [] t = (refl, refl)
parts_constant (g ∷ args) t =
    let b = and_parts (g.fixed && g.unparametrized) (list_all (is_constant Parametrized) args) t in
    let here = and_parts g.fixed g.unparametrized b.0 in
    let rest = parts_constant args b.1 in
    (and_from g.fixed (list_all (λ g. g.fixed) args) here.0 rest.0, and_from g.unparametrized (list_all (λ g. g.unparametrized) args) here.1 rest.1)

pub call_constant : (rules : Rules) (c : Call) (args : List Judgement) → IsTrue (list_all (is_constant rules) args) → IsTrue (is_constant rules (judgement_by rules (Apply c) args))
call_constant Plain c args t = t
call_constant Parametrized c args t =
    let b = parts_constant args t in
    and_from (list_all (λ g. g.fixed) args) (list_all (λ g. g.unparametrized) args) b.0 b.1

args_constant : (rules : Rules) (c : Call) (args : List Judgement) → IsTrue (is_constant rules (judgement_by rules (Apply c) args)) → IsTrue (list_all (is_constant rules) args)
args_constant Plain c args t = t
args_constant Parametrized c args t = both_constant args t

pub numbers_constant : (rules : Rules) (xs : List ℚ) (args : List Judgement) → IsTrue (is_constant rules (judgement_by rules (Constant xs) args))
numbers_constant Plain xs args = refl
numbers_constant Parametrized xs args = refl

-- a constant head has one value at arguments that agree
alike : (rules : Rules) (s : Setting) (x : Point) (head : Head) (judged : List Judgement) (us vs : List Numbers) → IsTrue (is_constant rules (judgement_by rules head judged)) →
    (IsTrue (list_all (is_constant rules) judged) → us ≡ vs) → value_by s x head us ≡ value_by s x head vs
alike rules s x (Variable d) judged us vs t h = refl
alike rules s x (Parameter d) judged us vs t h = refl
alike rules s x (Constant xs) judged us vs t h = refl
alike rules s x (Apply c) judged us vs t h = ap (λ l. first_of c.size (c.value (arguments l))) (h (args_constant rules c judged t))

module _ (rules : Rules) (nodes : List Node) (ordered : IsOrdered nodes) (s : Setting) (x : Point) (f : ℕ → Numbers)
    (known : (i : ℕ) → i < length nodes → IsTrue (is_constant rules (judgement_at rules nodes i)) → f i ≡ value_at nodes s x i) where
  -- what stands for a number is its value at what stands for its arguments
  pub number_is : (i : ℕ) (n : Node) → i < length nodes → IsNode nodes i n → IsTrue (is_constant rules (judgement_at rules nodes i)) → f i ≡ value_by s x n.head (map f n.args)
  number_is i n within at t =
      let judged = judgement_at rules nodes in
      let v = value_at nodes s x in
      let told = subst (λ q. IsTrue (is_constant rules q)) (judgement_tells rules nodes ordered i n at) t in
      known i within t ∙ value_tells nodes ordered s x i n at
      ∙ alike rules s x n.head (map judged n.args) (map v n.args) (map f n.args) told
      (λ all. args_same judged v f (λ a. a < i) (is_constant rules) (λ a b c. sym (known a (omega (arith, b, within)) c)) n.args (ordered i n at) all)
