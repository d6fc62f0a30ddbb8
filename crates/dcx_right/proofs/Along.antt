-- From a point along a ray, a node isn't beyond its value at the point and its steepness for each step, as far as the rules say.
use Rattle.std.proofs.Common.{◌≡◌, inl, inr, ℕ, zero, suc, ◌<◌, arith, Bool, true, false, IsTrue, IsFalse, if◌then◌else◌}
use Rattle.std.proofs.Common.{List, [], ◌∷◌, length, map, All, Option, Some, None, slice_get, refl, sym, ap, ◌∙◌, subst, pos}
use Rattle.std.specs.Prelude.{◌⊎◌, ◌&&◌}
use Rattle.std.specs.List.{list_all}
use Rattle.std.proofs.lemmas.Bool.{and_parts, or_cases, false≢true}
use Rattle.dcx_math.specs.Rational.{ℚ, whole, ◌+ℚ◌, ◌*ℚ◌}
use Rattle.dcx_math.specs.Sums.{IsNonnegative}
use Rattle.dcx_math.proofs.Ring.{ring, reads}
use Rattle.dcx_math.proofs.Orders.{whole-≤ℤ, zero_shifted}
use Rattle.dcx_shape.specs.Sides.{entries_of}
use Rattle.dcx_atom.specs.declared.flags.Bend.{Bend}
use Rattle.dcx_atom.specs.Arrays.{Entries}
use Rattle.dcx_atom.specs.Signs.{IsBeyond, shifted}
use Rattle.dcx_convex.specs.Calls.{Kind, Nonlinear, Linear, Product, Quotient, Call, IsLawful}
use Rattle.dcx_convex.specs.Nodes.{Head, Variable, Parameter, Constant, Apply, Node, Numbers, Point, Setting, IsOrdered, zeros, first_of}
use Rattle.dcx_convex.specs.Nodes.{arguments, value_by, value_at, ParameterKeeps, EachNode, IsInDomain, IsLawfulHead, AreLawful}
use Rattle.dcx_convex.specs.Rules.{Plain, Judgement, is_constant, is_bent, argument, bends, all_suit, is_bent_by, judgement_by, judgement_at}
use Rattle.dcx_convex.specs.Certificates.{is_fixed, given_at}
use Rattle.dcx_convex.proofs.Told.{value_tells, judgement_tells}
use Rattle.dcx_convex.proofs.Arguments.{args_signed, fixed_argument_same}
use Rattle.dcx_convex.proofs.Signs.{at_test, value_signed, value_fixed}
use Rattle.dcx_convex.proofs.Beyond.{beyond_same, IsBeyondAs, args_follow}
use Rattle.dcx_convex.proofs.Convexity.{same_bend_is, bent_is, mixed_domain, bends_between}
use Rattle.dcx_right.specs.Steepness.{taken_at, steep_by, steep_at}
use Rattle.dcx_right.specs.Rays.{BendsAlong, HeadRecedes, Recedes, AreReceding}
use Rattle.dcx_atom.proofs.Sublinear.{one_combination}
use Rattle.dcx_right.proofs.Told.{none_fixed, level, steep_tells}
use Rattle.dcx_atom.specs.Farthest.{beyond_refl, beyond_trans}

-- the domain goes along with its rays
pub shifted_domain : (nodes : List Node) (x d : Point) (k : ℚ) → IsNonnegative k → IsInDomain nodes x → IsInDomain nodes d → IsInDomain nodes (shifted x k d)
shifted_domain nodes x d k low dx dd =
    subst (IsInDomain nodes) (one_combination x k d) (mixed_domain nodes (whole (pos 1)) k x d (whole-≤ℤ (pos 0) (pos 1) (record { le = tt })) low dx dd)

still : (k w : ℚ) → w ≡ w +ℚ k *ℚ whole (pos 0)
still k w = ring (k ∷ w ∷ []) (search reads depth 30) tt

-- ---- one node
-- an array that is beyond below n is so everywhere
first_along : (bend : Bend) (k : ℚ) (n : ℕ) (f g h : Numbers) → ((j : ℕ) → j < n → IsBeyond bend (f j) (g j +ℚ k *ℚ h j)) → (j : ℕ) →
    IsBeyond bend (first_of n f j) (first_of n g j +ℚ k *ℚ first_of n h j)
first_along bend k n f g h b j =
    at_test n j (λ t. IsBeyond bend (if t then f j else whole (pos 0)) ((if t then g j else whole (pos 0)) +ℚ k *ℚ (if t then h j else whole (pos 0))))
    (b j) (beyond_same bend (zero_shifted k))

-- the arguments go along with the nodes
arguments_shifted : (k : ℚ) (v f : ℕ → Numbers) (args : List ℕ) (i e : ℕ) →
    arguments (map (λ i j. v i j +ℚ k *ℚ f i j) args) i e ≡ shifted (arguments (map v args)) k (arguments (map f args)) i e
arguments_shifted k v f [] i e = zero_shifted k
arguments_shifted k v f (n ∷ args) zero e = refl
arguments_shifted k v f (n ∷ args) (suc i) e = arguments_shifted k v f args i e

-- and along the way from a to c, where those arguments stand still and are what they are taken at
bends_along : (kind : Kind) (bend : Bend) (args : List Judgement) (k : ℚ) (given steep a c : Entries) → IsTrue (bends Plain kind bend args) → c ≡ shifted a k steep →
    ((i : ℕ) → IsTrue (argument args i).fixed → given i ≡ a i) → ((i : ℕ) → IsTrue (argument args i).fixed → c i ≡ a i) →
    BendsAlong kind bend k a (taken_at kind (argument args 0).fixed given steep) c
bends_along (Nonlinear own) bend args k given steep a c t moved same stands = (same_bend_is own bend t, moved)
bends_along Linear bend args k given steep a c t moved same stands = moved
bends_along Product bend args k given steep a c t moved same stands = by (argument args 0).fixed refl
  where
    by : (first : Bool) → (argument args 0).fixed ≡ first → BendsAlong Product bend k a (taken_at Product first given steep) c
    by true e = inl (record { still = stands 0 e; same = same 0 e; moved = ap (λ z. z 1) moved })
    by false e =
        let second : IsTrue (argument args 1).fixed = elim (or_cases (argument args 0).fixed (argument args 1).fixed t) [ inl p ↦ absurd (false≢true (sym e ∙ p)) | inr p ↦ p ] in
        inr (record { still = stands 1 second; same = same 1 second; moved = ap (λ z. z 0) moved })
bends_along Quotient bend args k given steep a c t moved same stands = record { still = stands 1 t; same = same 1 t; moved = ap (λ z. z 0) moved }

module _ (nodes : List Node) (ordered : IsOrdered nodes) (law : AreLawful nodes) (recede : AreReceding nodes) (s : Setting) (fit : EachNode nodes (λ n. ParameterKeeps s n.head))
    (x d : Point) (dx : IsInDomain nodes x) (dd : IsInDomain nodes d) (k : ℚ) (low : IsNonnegative k) where
  abbrev judged : ℕ → Judgement
  judged = judgement_at Plain nodes

  -- the values at x and along the ray, the steepness, and the values at x and k times the steepness
  abbrev here : ℕ → Numbers
  here = value_at nodes s x

  abbrev there : ℕ → Numbers
  there = value_at nodes s (shifted x k d)

  abbrev steep : ℕ → Numbers
  steep = steep_at nodes s d

  abbrev ahead : ℕ → Numbers
  ahead i j = here i j +ℚ k *ℚ steep i j

  -- what is said of node i
  abbrev IsAlong : ℕ → Type 0
  IsAlong i = (j : ℕ) → IsBeyondAs (judged i) (there i j) (ahead i j)

  -- a node that reaches no variable stands still
  ahead_still : (i : ℕ) → IsTrue (is_fixed nodes i) → ahead i ≡ here i
  ahead_still i t = λ u j. (ap (λ (z : Numbers). here i j +ℚ k *ℚ z j) (level nodes s d i t) ∙ sym (still k (here i j))) u

  there_still : (i : ℕ) → IsTrue (is_fixed nodes i) → there i ≡ ahead i
  there_still i t = value_fixed Plain nodes s (shifted x k d) x i t ∙ sym (ahead_still i t)

  module _ (n : ℕ) (known : (i : ℕ) → i < n → IsAlong i) (args : List ℕ) (all : All (λ a. a < n) args) where
    -- a call of arguments that suit it: by its monotonicity law and then by its recession law
    call_along : (c : Call) → IsLawful c (length args) → Recedes c → (bend : Bend) → IsTrue (bends Plain c.kind bend (map judged args)) →
        IsTrue (all_suit bend (c.trend (map (λ g. g.sign) (map judged args))) (map judged args)) → (j : ℕ) → j < c.size →
        IsBeyond bend (c.value (arguments (map there args)) j)
        (c.value (arguments (map here args)) j +ℚ k *ℚ c.value (taken_at c.kind (argument (map judged args) 0).fixed (arguments (map (given_at nodes s) args)) (arguments (map steep args))) j)
    call_along c lawful recedes bend bent suit j below =
        let signs = map (λ g. g.sign) (map judged args) in
        beyond_trans bend _ (c.value (arguments (map ahead args)) j) _
        (lawful.monotonicity bend signs (arguments (map there args)) (arguments (map ahead args))
        (bends_between c.kind bend (map judged args) (arguments (map there args)) (arguments (map ahead args)) bent (fixed_argument_same judged there ahead there_still args))
        (args_signed judged there (value_signed Plain nodes law s fit (shifted x k d) (shifted_domain nodes x d k low dx dd)) args)
        (args_follow bend (c.trend signs) judged there ahead (λ i. i < n) (λ i b. known i b) args all suit) j below)
        (recedes bend k (arguments (map here args))
        (taken_at c.kind (argument (map judged args) 0).fixed (arguments (map (given_at nodes s) args)) (arguments (map steep args))) (arguments (map ahead args)) low
        (bends_along c.kind bend (map judged args) k (arguments (map (given_at nodes s) args)) (arguments (map steep args)) (arguments (map here args)) (arguments (map ahead args)) bent
        (λ t i e. arguments_shifted k here steep args i e t)
        (fixed_argument_same judged (given_at nodes s) here (λ i t. value_fixed Plain nodes s (λ number. zeros) x i t) args)
        (fixed_argument_same judged ahead here ahead_still args)) j below)

    -- any node that reaches a variable
    head_along : (head : Head) → IsLawfulHead head (length args) → HeadRecedes head → IsFalse (judgement_by Plain head (map judged args)).fixed → (bend : Bend)
        → IsTrue (is_bent_by Plain bend head (map judged args)) → (j : ℕ) →
        IsBeyond bend (value_by s (shifted x k d) head (map there args) j) (value_by s x head (map here args) j +ℚ k *ℚ steep_by nodes s d head args steep j)
    head_along (Variable v) lawful recedes loose bend b j =
        first_along bend k (entries_of v.sides) (shifted x k d v.number) (x v.number) (d v.number) (λ i _. beyond_refl bend (shifted x k d v.number i)) j
    head_along (Parameter q) lawful recedes loose bend b j = absurd (false≢true (sym loose))
    head_along (Constant xs) lawful recedes loose bend b j = absurd (false≢true (sym loose))
    head_along (Apply c) lawful recedes loose bend b j =
        by (or_cases (list_all (is_constant Plain) (map judged args)) (bends Plain c.kind bend (map judged args) && all_suit bend (c.trend (map (λ g. g.sign) (map judged args))) (map judged args)) b)
      where
        by : IsTrue (list_all (is_constant Plain) (map judged args))
            ⊎ IsTrue (bends Plain c.kind bend (map judged args) && all_suit bend (c.trend (map (λ g. g.sign) (map judged args))) (map judged args)) →
            IsBeyond bend (first_of c.size (c.value (arguments (map there args))) j)
            (first_of c.size (c.value (arguments (map here args))) j +ℚ k
            *ℚ first_of c.size (c.value (taken_at c.kind (argument (map judged args) 0).fixed (arguments (map (given_at nodes s) args)) (arguments (map steep args)))) j)
        by (inl t) = absurd (false≢true (sym loose ∙ t))
        by (inr t) =
            let f = and_parts (bends Plain c.kind bend (map judged args)) (all_suit bend (c.trend (map (λ g. g.sign) (map judged args))) (map judged args)) t in
            first_along bend k c.size _ _ _ (call_along c lawful recedes bend f.0 f.1) j

  -- ---- all nodes
  fixed_along : (i : ℕ) → IsTrue (is_fixed nodes i) → IsAlong i
  fixed_along i t = λ j bend b. beyond_same bend (ap (λ (z : Numbers). z j) (there_still i t))

  node_along : (i : ℕ) (n : Node) → slice_get nodes i ≡ Some n → IsFalse (is_fixed nodes i) → ((a : ℕ) → a < i → IsAlong a) → IsAlong i
  node_along i n e loose known = λ j bend b.
      let g = judgement_tells Plain nodes ordered i n e in
      let told : steep i ≡ steep_by nodes s d n.head n.args steep = steep_tells nodes s d ordered i n e ∙ ap (λ t. if t then zeros else steep_by nodes s d n.head n.args steep) loose in
      subst (λ (z : Numbers). IsBeyond bend (z j) (ahead i j)) (sym (value_tells nodes ordered s (shifted x k d) i n e))
      (subst (λ (z : Numbers). IsBeyond bend (value_by s (shifted x k d) n.head (map there n.args) j) (z j +ℚ k *ℚ steep i j)) (sym (value_tells nodes ordered s x i n e))
      (subst (λ (z : Numbers). IsBeyond bend (value_by s (shifted x k d) n.head (map there n.args) j) (value_by s x n.head (map here n.args) j +ℚ k *ℚ z j)) (sym told)
      (head_along i known n.args (ordered i n e) n.head (law i n e) (recede i n e) (sym (ap (λ (q : Judgement). q.fixed) g) ∙ loose) bend
      (subst (λ t. IsTrue t) (ap (is_bent bend) g ∙ bent_is Plain bend n.head (map judged n.args)) b) j)))

  one_along : (i : ℕ) → ((a : ℕ) → a < i → IsAlong a) → IsAlong i
  one_along i known = by (is_fixed nodes i) refl
    where
      at : (o : Option Node) → slice_get nodes i ≡ o → IsFalse (is_fixed nodes i) → IsAlong i
      at None e loose = fixed_along i (none_fixed nodes i e)
      at (Some m) e loose = node_along i m e loose known

      by : (t : Bool) → is_fixed nodes i ≡ t → IsAlong i
      by true e = fixed_along i e
      by false e = at (slice_get nodes i) refl e

  all_along : (n i : ℕ) → i < n → IsAlong i
  all_along zero i l = absurd (omega arith)
  all_along (suc n) i l = one_along i (λ a b. all_along n a (omega arith))

  -- each node
  pub nodes_along : (i : ℕ) → IsAlong i
  nodes_along i = all_along (suc i) i (omega arith)
