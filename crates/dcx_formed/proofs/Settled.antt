-- Nodes that reach no parameter have one value at all settings, and the sign of a node that reaches nothing is true of its
-- value, whatever the setting and the point are.
use Rattle.std.proofs.Common.{◌≡◌, ℕ, zero, suc, IsTrue, List, map, Option, Some, None, slice_get, refl, ap, ◌∙◌, pos}
use Rattle.std.proofs.lemmas.Bool.{and_parts, false≢true}
use Rattle.dcx_math.specs.Rational.{whole}
use Rattle.dcx_math.proofs.Orders.{≤ℚ_refl, ≤ℚ_antisym}
use Rattle.dcx_shape.specs.declared.shape.Sides.{Sides}
use Rattle.dcx_atom.specs.Signs.{is_zero}
use Rattle.dcx_convex.specs.Nodes.{Attribute, Free, Nonneg, Nonpos, Symmetric, Diag, Head, Variable, Parameter, Constant, Apply, Node, Numbers, Point, Setting, told}
use Rattle.dcx_convex.specs.Nodes.{told_within, zeros, first_of, arguments, value_by, value_at, Keeps, VariableKeeps, ParameterKeeps, AreLawful}
use Rattle.dcx_convex.specs.Rules.{Rules, Plain, Judgement, no_argument, judgement_by, judgement_at}
use Rattle.dcx_convex.proofs.Arguments.{args_same, tests_same}
use Rattle.dcx_convex.proofs.Signs.{value_signed}
use Rattle.dcx_convex.proofs.LawsHold.{constants_are_fixed}

-- ---- what reaches no parameter
head_same : (rules : Rules) (head : Head) (args : List ℕ) (judged : ℕ → Judgement) (u v : ℕ → Numbers) (s t : Setting) (x : Point) → ((i : ℕ) → IsTrue (judged i).unparametrized → u i ≡ v i) →
    IsTrue (judgement_by rules head (map judged args)).unparametrized → value_by s x head (map u args) ≡ value_by t x head (map v args)
head_same rules (Variable d) args judged u v s t x h b = refl
head_same rules (Parameter d) args judged u v s t x h b = absurd (false≢true b)
head_same rules (Constant xs) args judged u v s t x h b = refl
head_same rules (Apply c) args judged u v s t x h b =
    ap (λ l. first_of c.size (c.value (arguments l))) (args_same judged u v (λ _. Unit {0}) (λ g. g.unparametrized) (λ i _. h i) args (λ _ _ _. tt) b)

settled_within : (rules : Rules) (nodes : List Node) (s t : Setting) (x : Point) (n i : ℕ) → IsTrue (told_within no_argument (judgement_by rules) nodes n i).unparametrized →
    told_within zeros (value_by s x) nodes n i ≡ told_within zeros (value_by t x) nodes n i
settled_within rules nodes s t x zero i = λ b. refl
settled_within rules nodes s t x (suc n) i = by (slice_get nodes i) (settled_within rules nodes s t x n)
  where
    by : (o : Option Node) → ((i : ℕ) → IsTrue (told_within no_argument (judgement_by rules) nodes n i).unparametrized
        → told_within zeros (value_by s x) nodes n i ≡ told_within zeros (value_by t x) nodes n i)
        → IsTrue (told no_argument (judgement_by rules) (told_within no_argument (judgement_by rules) nodes n) o).unparametrized →
        told zeros (value_by s x) (told_within zeros (value_by s x) nodes n) o ≡ told zeros (value_by t x) (told_within zeros (value_by t x) nodes n) o
    by None ih b = refl
    by (Some node) ih b =
        head_same rules node.head node.args (told_within no_argument (judgement_by rules) nodes n) (told_within zeros (value_by s x) nodes n) (told_within zeros (value_by t x) nodes n) s t x ih b

-- one value at all settings
pub value_settled : (rules : Rules) (nodes : List Node) (s t : Setting) (x : Point) (i : ℕ) → IsTrue (judgement_at rules nodes i).unparametrized → value_at nodes s x i ≡ value_at nodes t x i
unfolding value_at judgement_at
value_settled rules nodes s t x i b = settled_within rules nodes s t x (suc i) i b

-- ---- what is reached is the same by both rules
module _ (f g : ℕ → Judgement) (h : (i : ℕ) → (f i).fixed ≡ (g i).fixed) where
  head_alike : (rules : Rules) (head : Head) (args : List ℕ) → (judgement_by rules head (map f args)).fixed ≡ (judgement_by Plain head (map g args)).fixed
  head_alike rules (Variable d) args = refl
  head_alike rules (Parameter d) args = refl
  head_alike rules (Constant xs) args = refl
  head_alike rules (Apply c) args = tests_same (λ x. x.fixed) f g h args

fixed_within : (rules : Rules) (nodes : List Node) (n i : ℕ) → (told_within no_argument (judgement_by rules) nodes n i).fixed ≡ (told_within no_argument (judgement_by Plain) nodes n i).fixed
fixed_within rules nodes zero i = refl
fixed_within rules nodes (suc n) i = by (slice_get nodes i) (fixed_within rules nodes n)
  where
    by : (o : Option Node) → ((i : ℕ) → (told_within no_argument (judgement_by rules) nodes n i).fixed ≡ (told_within no_argument (judgement_by Plain) nodes n i).fixed) →
        (told no_argument (judgement_by rules) (told_within no_argument (judgement_by rules) nodes n) o).fixed
        ≡ (told no_argument (judgement_by Plain) (told_within no_argument (judgement_by Plain) nodes n) o).fixed
    by None ih = refl
    by (Some node) ih = head_alike (told_within no_argument (judgement_by rules) nodes n) (told_within no_argument (judgement_by Plain) nodes n) ih rules node.head node.args

pub fixed_alike : (rules : Rules) (nodes : List Node) (i : ℕ) → (judgement_at rules nodes i).fixed ≡ (judgement_at Plain nodes i).fixed
unfolding judgement_at
fixed_alike rules nodes i = fixed_within rules nodes (suc i) i

-- ---- signs
-- 0 is in each domain
zero_keeps : (a : Attribute) (sides : Sides) → Keeps a sides (λ j. whole (pos 0))
zero_keeps Free sides = tt
zero_keeps Nonneg sides = λ j b. ≤ℚ_refl (whole (pos 0))
zero_keeps Nonpos sides = λ j b. ≤ℚ_refl (whole (pos 0))
zero_keeps Symmetric sides = λ i j h. refl
zero_keeps Diag sides = λ i j h d. refl

parameter_keeps : (head : Head) → ParameterKeeps (λ k j. whole (pos 0)) head
parameter_keeps (Variable d) = tt
parameter_keeps (Parameter d) = zero_keeps d.attribute d.sides
parameter_keeps (Constant xs) = tt
parameter_keeps (Apply c) = tt

variable_keeps : (head : Head) → VariableKeeps (λ k j. whole (pos 0)) head
variable_keeps (Variable d) = zero_keeps d.attribute d.sides
variable_keeps (Parameter d) = tt
variable_keeps (Constant xs) = tt
variable_keeps (Apply c) = tt

-- a node that reaches nothing and whose sign is that of 0 is 0
pub settled_zero : (rules : Rules) (nodes : List Node) → AreLawful nodes → (s : Setting) (x : Point) (i j : ℕ) →
    IsTrue (judgement_at rules nodes i).fixed → IsTrue (judgement_at rules nodes i).unparametrized → IsTrue (is_zero (judgement_at rules nodes i).sign) → value_at nodes s x i j ≡ whole (pos 0)
settled_zero rules nodes law s x i j fixed settled zero_sign =
    let o : Setting = λ k e. whole (pos 0) in
    let w = value_signed rules nodes law o (λ k n at. parameter_keeps n.head) o (λ k n at. variable_keeps n.head) i j in
    let z = and_parts (judgement_at rules nodes i).sign.nonneg (judgement_at rules nodes i).sign.nonpos zero_sign in
    ap (λ (f : Numbers). f j) (value_settled rules nodes s o x i settled ∙ constants_are_fixed rules nodes o x o i fixed) ∙ ≤ℚ_antisym (w.nonpos z.1) (w.nonneg z.0)
