-- The sign of a node is true of its value, and a node that reaches no variable has one value.
use Rattle.std.proofs.Common.{◌≡◌, ℕ, zero, suc, ◌<◌, Bool, true, false, IsTrue, nat_lt, if◌then◌else◌, List, [], ◌∷◌, length, map, Option, Some, None, slice_get, refl, ap, pos}
use Rattle.std.specs.List.{list_all}
use Rattle.std.proofs.lemmas.Bool.{ltb-true, lt-ltb, and_parts, false≢true}
use Rattle.dcx_math.specs.Rational.{ℚ, whole, rat_le, ◌≤ℚ◌}
use Rattle.dcx_math.specs.Sums.{rat_at}
use Rattle.dcx_math.proofs.Orders.{≤ℚ_refl}
use Rattle.dcx_math.proofs.Ratios.{IsTrue-rat_le}
use Rattle.dcx_shape.specs.declared.shape.Sides.{Sides}
use Rattle.dcx_shape.specs.Sides.{entries_of}
use Rattle.dcx_atom.specs.declared.flags.Sign.{Sign}
use Rattle.dcx_atom.specs.Signs.{HasSign, unknown_sign}
use Rattle.dcx_convex.proofs.Arguments.{zero_signed, unknown_signed, args_signed, count_of, fixed_args_same}
use Rattle.dcx_convex.specs.Nodes.{Attribute, Free, Nonneg, Nonpos, Symmetric, Diag, Head, Variable, Parameter, Constant, Apply, Node, Numbers, Point, Setting, told, told_within}
use Rattle.dcx_convex.specs.Nodes.{zeros, first_of, arguments, value_by, value_at, Keeps, VariableKeeps, ParameterKeeps, EachNode, IsInDomain, IsLawfulHead, AreLawful}
use Rattle.dcx_convex.specs.Rules.{Rules, Judgement, attribute_sign, no_argument, judgement_by, judgement_at}

-- ---- entries below a size, and 0 past it
-- a fact of the test j < n
pub at_test : (n j : ℕ) (P : Bool → Type 0) → (j < n → P true) → P false → P (nat_lt j n)
at_test n j P f g = by (nat_lt j n) refl
  where
    by : (b : Bool) → nat_lt j n ≡ b → P b
    by true e = f (ltb-true j n e)
    by false e = g

-- below the size the array is what it is made of
pub first_in : (n : ℕ) (f : Numbers) (j : ℕ) → j < n → first_of n f j ≡ f j
first_in n f j b = ap (λ t. if t then f j else whole (pos 0)) (lt-ltb j n b)

pub first_signed : (s : Sign) (n : ℕ) (f : Numbers) → ((j : ℕ) → j < n → HasSign s (f j)) → (j : ℕ) → HasSign s (first_of n f j)
first_signed s n f h j = at_test n j (λ b. HasSign s (if b then f j else whole (pos 0))) (h j) (zero_signed s)

-- ---- the sign of each kind of node
pub keeps_signed : (a : Attribute) (sides : Sides) (x : Numbers) → Keeps a sides x → (j : ℕ) → j < entries_of sides → HasSign (attribute_sign a) (x j)
keeps_signed Free sides x h j b = unknown_signed (x j)
keeps_signed Nonneg sides x h j b = record { nonneg = λ _. h j b; nonpos = λ t. absurd (false≢true t) }
keeps_signed Nonpos sides x h j b = record { nonneg = λ t. absurd (false≢true t); nonpos = λ _. h j b }
keeps_signed Symmetric sides x h j b = unknown_signed (x j)
keeps_signed Diag sides x h j b = unknown_signed (x j)

numbers_nonneg : (xs : List ℚ) → IsTrue (list_all (λ x. rat_le (whole (pos 0)) x) xs) → (j : ℕ) → whole (pos 0) ≤ℚ rat_at xs j
numbers_nonneg [] h j = ≤ℚ_refl _
numbers_nonneg (x ∷ xs) h zero = (IsTrue-rat_le (whole (pos 0)) x).0 (and_parts (rat_le (whole (pos 0)) x) (list_all (λ x. rat_le (whole (pos 0)) x) xs) h).0
numbers_nonneg (x ∷ xs) h (suc j) = numbers_nonneg xs (and_parts (rat_le (whole (pos 0)) x) (list_all (λ x. rat_le (whole (pos 0)) x) xs) h).1 j

numbers_nonpos : (xs : List ℚ) → IsTrue (list_all (λ x. rat_le x (whole (pos 0))) xs) → (j : ℕ) → rat_at xs j ≤ℚ whole (pos 0)
numbers_nonpos [] h j = ≤ℚ_refl _
numbers_nonpos (x ∷ xs) h zero = (IsTrue-rat_le x (whole (pos 0))).0 (and_parts (rat_le x (whole (pos 0))) (list_all (λ x. rat_le x (whole (pos 0))) xs) h).0
numbers_nonpos (x ∷ xs) h (suc j) = numbers_nonpos xs (and_parts (rat_le x (whole (pos 0))) (list_all (λ x. rat_le x (whole (pos 0))) xs) h).1 j

head_signed : (rules : Rules) (head : Head) (args : List ℕ) (judged : ℕ → Judgement) (values : ℕ → Numbers) (s : Setting) (x : Point) →
    IsLawfulHead head (length args) → ParameterKeeps s head → VariableKeeps x head → ((i j : ℕ) → HasSign (judged i).sign (values i j)) →
    (j : ℕ) → HasSign (judgement_by rules head (map judged args)).sign (value_by s x head (map values args) j)
head_signed rules (Variable d) args judged values s x law fit dom h = first_signed (attribute_sign d.attribute) (entries_of d.sides) (x d.number) (keeps_signed d.attribute d.sides (x d.number) dom)
head_signed rules (Parameter d) args judged values s x law fit dom h = first_signed (attribute_sign d.attribute) (entries_of d.sides) (s d.number) (keeps_signed d.attribute d.sides (s d.number) fit)
head_signed rules (Constant xs) args judged values s x law fit dom h = λ j. record { nonneg = λ t. numbers_nonneg xs t j; nonpos = λ t. numbers_nonpos xs t j }
head_signed rules (Apply c) args judged values s x law fit dom h =
    first_signed (c.sign (map (λ g. g.sign) (map judged args))) c.size (c.value (arguments (map values args)))
    (law.sign_law (map (λ g. g.sign) (map judged args)) (arguments (map values args)) (count_of judged (λ g. g.sign) args) (args_signed judged values h args))

module _ (rules : Rules) (nodes : List Node) (law : AreLawful nodes) (s : Setting) (fit : EachNode nodes (λ n. ParameterKeeps s n.head)) (x : Point) (dom : IsInDomain nodes x) where
  -- the sign of a node is true of its value
  pub signed : (n i j : ℕ) → HasSign (told_within no_argument (judgement_by rules) nodes n i).sign (told_within zeros (value_by s x) nodes n i j)
  signed zero i j = zero_signed unknown_sign
  signed (suc n) i j = by (slice_get nodes i) refl (signed n)
    where
      by : (o : Option Node) → slice_get nodes i ≡ o → ((i j : ℕ) → HasSign (told_within no_argument (judgement_by rules) nodes n i).sign (told_within zeros (value_by s x) nodes n i j)) →
          HasSign (told no_argument (judgement_by rules) (told_within no_argument (judgement_by rules) nodes n) o).sign (told zeros (value_by s x) (told_within zeros (value_by s x) nodes n) o j)
      by None e ih = zero_signed unknown_sign
      by (Some node) e ih =
          head_signed rules node.head node.args (told_within no_argument (judgement_by rules) nodes n) (told_within zeros (value_by s x) nodes n) s x (law i node e) (fit i node e) (dom i node e) ih j

-- ---- what reaches no variable
head_same : (rules : Rules) (head : Head) (args : List ℕ) (judged : ℕ → Judgement) (u v : ℕ → Numbers) (s : Setting) (x y : Point) → ((i : ℕ) → IsTrue (judged i).fixed → u i ≡ v i) →
    IsTrue (judgement_by rules head (map judged args)).fixed → value_by s x head (map u args) ≡ value_by s y head (map v args)
head_same rules (Variable d) args judged u v s x y h t = absurd (false≢true t)
head_same rules (Parameter d) args judged u v s x y h t = refl
head_same rules (Constant xs) args judged u v s x y h t = refl
head_same rules (Apply c) args judged u v s x y h t = ap (λ l. first_of c.size (c.value (arguments l))) (fixed_args_same judged u v h args t)

-- a node that reaches no variable has one value at all points
pub fixed_same : (rules : Rules) (nodes : List Node) (s : Setting) (x y : Point) (n i : ℕ) → IsTrue (told_within no_argument (judgement_by rules) nodes n i).fixed →
    told_within zeros (value_by s x) nodes n i ≡ told_within zeros (value_by s y) nodes n i
fixed_same rules nodes s x y zero i = λ t. refl
fixed_same rules nodes s x y (suc n) i = by (slice_get nodes i) (fixed_same rules nodes s x y n)
  where
    by : (o : Option Node) → ((i : ℕ) → IsTrue (told_within no_argument (judgement_by rules) nodes n i).fixed
        → told_within zeros (value_by s x) nodes n i ≡ told_within zeros (value_by s y) nodes n i) →
        IsTrue (told no_argument (judgement_by rules) (told_within no_argument (judgement_by rules) nodes n) o).fixed →
        told zeros (value_by s x) (told_within zeros (value_by s x) nodes n) o ≡ told zeros (value_by s y) (told_within zeros (value_by s y) nodes n) o
    by None ih t = refl
    by (Some node) ih t =
        head_same rules node.head node.args (told_within no_argument (judgement_by rules) nodes n) (told_within zeros (value_by s x) nodes n) (told_within zeros (value_by s y) nodes n) s x y ih t

-- ---- the same of values and judgements
pub value_signed : (rules : Rules) (nodes : List Node) → AreLawful nodes → (s : Setting) → EachNode nodes (λ n. ParameterKeeps s n.head) → (x : Point) → IsInDomain nodes x →
    (i j : ℕ) → HasSign (judgement_at rules nodes i).sign (value_at nodes s x i j)
unfolding value_at judgement_at
value_signed rules nodes law s fit x dom i j = signed rules nodes law s fit x dom (suc i) i j

pub value_fixed : (rules : Rules) (nodes : List Node) (s : Setting) (x y : Point) (i : ℕ) → IsTrue (judgement_at rules nodes i).fixed → value_at nodes s x i ≡ value_at nodes s y i
unfolding value_at judgement_at
value_fixed rules nodes s x y i = fixed_same rules nodes s x y (suc i) i
