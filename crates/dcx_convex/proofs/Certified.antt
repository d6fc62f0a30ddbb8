-- A certificate bounds what its coefficients start from, at every point of the domain.
use Rattle.std.proofs.Common.{◌≡◌, ℕ, Bool, true, false, IsTrue, IsFalse, if◌then◌else◌, List, [], ◌∷◌, length, map, Option, Some, None, slice_get, refl, sym, ap, ◌∙◌, pos}
use Rattle.std.proofs.lemmas.Bool.{false≢true}
use Rattle.dcx_math.specs.Rational.{ℚ, whole, ◌+ℚ◌, ◌*ℚ◌, ◌≤ℚ◌}
use Rattle.dcx_math.specs.Sums.{rat_sum_below}
use Rattle.dcx_math.proofs.Ring.{reads}
use Rattle.dcx_math.proofs.Orders.{≤ℚ_refl, ≤ℚ_trans, ≤ℚ-from_≡, linear, +ℚ-≤ℚ, +ℚ_idl, +ℚ_idr}
use Rattle.dcx_math.proofs.Sums.{rat_sum_below-same, rat_sum_below-monotone, rat_sum_below-+ℚ}
use Rattle.dcx_shape.specs.Sides.{entries_of}
use Rattle.dcx_convex.specs.Nodes.{Head, Variable, Parameter, Constant, Apply, Node, Numbers, Point, Setting, IsOrdered, zeros, first_of, arguments, value_by, value_at, VariableKeeps, IsInDomain}
use Rattle.dcx_convex.specs.Rules.{Plain, judgement_by, judgement_at}
use Rattle.dcx_convex.specs.Certificates.{size_of, size_if, size_at, Coefficients, Slopes, times, is_fixed, handed_by, handed_if, handed_at, AreCollected, MayHandOn, given_at, IsCertificate, total}
use Rattle.dcx_convex.proofs.Told.{value_tells, judgement_tells}
use Rattle.dcx_convex.proofs.Signs.{first_in, value_fixed}
use Rattle.dcx_convex.proofs.Arguments.{fixed_argument_same}

times_first : (n : ℕ) (c f : Numbers) → times n c (first_of n f) ≡ times n c f
times_first n c f = rat_sum_below-same n (λ e. c e *ℚ first_of n f e) (λ e. c e *ℚ f e) (λ j b. ap (λ u. c j *ℚ u) (first_in n f j b))

settle : (t h l c : ℚ) → c ≡ l +ℚ h → t +ℚ h ≤ℚ c → t ≤ℚ l
settle t h l c e k = linear (t ∷ h ∷ l ∷ c ∷ []) (+ℚ-≤ℚ k (≤ℚ-from_≡ e)) (search reads depth 30) tt

zero_below : (a b : ℚ) → a ≤ℚ b → whole (pos 0) +ℚ a ≤ℚ b
zero_below a b h = ≤ℚ_trans (≤ℚ-from_≡ (+ℚ_idl a)) h

module _ (nodes : List Node) (ordered : IsOrdered nodes) (s : Setting) (y : Point) (dom : IsInDomain nodes y) (c : Coefficients) (g : Slopes) where
  -- nodes that reach no variable have their given values
  given_same : (i : ℕ) → IsTrue (is_fixed nodes i) → value_at nodes s y i ≡ given_at nodes s i
  given_same i t = value_fixed Plain nodes s y (λ number. zeros) i t

  -- what a node that reaches a variable hands on is at most its coefficients times its values
  head_bound : (head : Head) (args : List ℕ) (cs : Numbers) (gs : ℕ → Numbers) → VariableKeeps y head → IsFalse (judgement_by Plain head (map (judgement_at Plain nodes) args)).fixed →
      MayHandOn nodes (given_at nodes s) head args cs gs →
      handed_by nodes head args gs (value_at nodes s y) ≤ℚ times (size_of head) cs (value_by s y head (map (value_at nodes s y) args))
  head_bound (Variable d) args cs gs keeps loose may = ≤ℚ_trans (may (y d.number) keeps) (≤ℚ-from_≡ (sym (times_first (entries_of d.sides) cs (y d.number))))
  head_bound (Parameter d) args cs gs keeps loose may = absurd (false≢true (sym loose))
  head_bound (Constant xs) args cs gs keeps loose may = absurd (false≢true (sym loose))
  head_bound (Apply call) args cs gs keeps loose may =
      ≤ℚ_trans (may (arguments (map (value_at nodes s y) args)) (fixed_argument_same (judgement_at Plain nodes) (value_at nodes s y) (given_at nodes s) given_same args))
      (≤ℚ-from_≡ (sym (times_first call.size cs (call.value (arguments (map (value_at nodes s y) args))))))

  module _ (may : (i : ℕ) (n : Node) → slice_get nodes i ≡ Some n → IsFalse (is_fixed nodes i) → MayHandOn nodes (given_at nodes s) n.head n.args (c i) (g i)) where
    -- what a node adds to the total and what it hands on are at most its coefficients times its values
    loose_bound : (i : ℕ) (o : Option Node) → slice_get nodes i ≡ o → IsFalse (is_fixed nodes i) → handed_if nodes o (g i) (value_at nodes s y) ≤ℚ times (size_if o) (c i) (value_at nodes s y i)
    loose_bound i None e loose = ≤ℚ_refl _
    loose_bound i (Some n) e loose =
        ≤ℚ_trans
        (head_bound n.head n.args (c i) (g i) (dom i n e) (sym (ap (λ q. q.fixed) (judgement_tells Plain nodes ordered i n e)) ∙ loose) (may i n e loose))
        (≤ℚ-from_≡ (ap (λ v. times (size_of n.head) (c i) v) (sym (value_tells nodes ordered s y i n e))))

    node_bound : (i : ℕ) → (if is_fixed nodes i then times (size_at nodes i) (c i) (given_at nodes s i) else whole (pos 0)) +ℚ handed_at nodes g (value_at nodes s y) i
        ≤ℚ times (size_at nodes i) (c i) (value_at nodes s y i)
    node_bound i = by (is_fixed nodes i) refl
      where
        by : (b : Bool) → is_fixed nodes i ≡ b →
            (if b then times (size_at nodes i) (c i) (given_at nodes s i) else whole (pos 0)) +ℚ (if b then whole (pos 0) else handed_if nodes (slice_get nodes i) (g i) (value_at nodes s y))
            ≤ℚ times (size_at nodes i) (c i) (value_at nodes s y i)
        by true e = ≤ℚ-from_≡ (+ℚ_idr _ ∙ ap (λ v. times (size_at nodes i) (c i) v) (sym (given_same i e)))
        by false e = zero_below _ _ (loose_bound i (slice_get nodes i) refl e)

    -- the total is at most what the coefficients start from, at the values of y
    pub total_below : (start : (ℕ → Numbers) → ℚ) → AreCollected nodes start c g → total nodes s c ≤ℚ start (value_at nodes s y)
    total_below start collected =
        let fixed = λ (i : ℕ). if is_fixed nodes i then times (size_at nodes i) (c i) (given_at nodes s i) else whole (pos 0) in
        let handed = handed_at nodes g (value_at nodes s y) in
        let all = λ (i : ℕ). times (size_at nodes i) (c i) (value_at nodes s y i) in
        settle (total nodes s c) (rat_sum_below (length nodes) handed) (start (value_at nodes s y)) (rat_sum_below (length nodes) all) (collected (value_at nodes s y))
        (≤ℚ_trans (≤ℚ-from_≡ (sym (rat_sum_below-+ℚ (length nodes) fixed handed))) (rat_sum_below-monotone (length nodes) (λ i. fixed i +ℚ handed i) all (λ i b. node_bound i)))

pub bounds : (nodes : List Node) → IsOrdered nodes → (s : Setting) (start : (ℕ → Numbers) → ℚ) (c : Coefficients) (g : Slopes) → IsCertificate nodes s start c g →
    (y : Point) → IsInDomain nodes y → total nodes s c ≤ℚ start (value_at nodes s y)
bounds nodes ordered s start c g certificate y dom = total_below nodes ordered s y dom c g certificate.handed start certificate.collected
