-- Along a ray a node goes as its steepness, up to a number that stays: at least that where it is convex, at most that where it is concave.
use Rattle.std.proofs.Common.{◌≡◌, inl, inr, ℕ, zero, suc, ◌<◌, arith, Bool, true, false, IsTrue, IsFalse, nat_lt, if◌then◌else◌, List, []}
use Rattle.std.proofs.Common.{◌∷◌, length, map, All, Option, Some, None, slice_get, refl, sym, ap, ◌∙◌, subst, pos}
use Rattle.std.specs.Prelude.{◌⊎◌, ◌&&◌}
use Rattle.std.specs.List.{list_all}
use Rattle.std.proofs.lemmas.Bool.{and_parts, or_cases, false≢true, ltb-true, ltb-false}
use Rattle.dcx_math.specs.Rational.{ℚ, whole, ◌+ℚ◌, ◌-ℚ◌, ◌*ℚ◌, neg_ℚ, inverse, ◌≤ℚ◌, ◌<ℚ◌}
use Rattle.dcx_math.proofs.Ring.{ring, reads}
use Rattle.dcx_math.proofs.Orders.{≤ℚ_trans, ≤ℚ-from_≡, <ℚ-≤ℚ, *ℚ-≤ℚ, *ℚ-zero, *ℚ_assoc, *ℚ_idl, *ℚ_comm, -ℚ_self, +ℚ-≤ℚ_right, +ℚ_idl, zero_shifted}
use Rattle.dcx_math.proofs.Products.{*ℚ-nonnegative, *ℚ-nonpositive, *ℚ-inverse_positive, inverse-positive}
use Rattle.dcx_shape.specs.Sides.{entries_of}
use Rattle.dcx_atom.specs.declared.flags.Sign.{Sign}
use Rattle.dcx_atom.specs.declared.flags.Bend.{Bend}
use Rattle.dcx_atom.specs.declared.flags.Bend.TheVariants.{Convex, Concave}
use Rattle.dcx_atom.specs.Arrays.{Entries}
use Rattle.dcx_atom.specs.Signs.{HasSign, IsBeyond, shifted}
use Rattle.dcx_convex.specs.Calls.{Call, IsLawful}
use Rattle.dcx_convex.specs.Nodes.{Head, Variable, Parameter, Constant, Apply, Node, Numbers, Point, Setting, IsOrdered, zeros, first_of}
use Rattle.dcx_convex.specs.Nodes.{arguments, value_by, value_at, ParameterKeeps, EachNode, IsInDomain, IsLawfulHead, AreLawful}
use Rattle.dcx_convex.specs.Rules.{Plain, Judgement, is_constant, is_bent, argument, bends, all_suit, is_bent_by, judgement_by, judgement_at}
use Rattle.dcx_convex.specs.Certificates.{is_fixed, given_at}
use Rattle.dcx_convex.proofs.Told.{value_tells, judgement_tells}
use Rattle.dcx_convex.proofs.Arguments.{args_signed, fixed_argument_same}
use Rattle.dcx_convex.proofs.Signs.{at_test, value_fixed}
use Rattle.dcx_convex.proofs.Beyond.{beyond_same, IsBeyondAs, args_follow}
use Rattle.dcx_convex.proofs.Convexity.{bent_is}
use Rattle.dcx_right.specs.Steepness.{taken_at, steep_by, steep_at}
use Rattle.dcx_right.specs.Rays.{HeadRecedes, Recedes, AreReceding}
use Rattle.dcx_right.proofs.Told.{none_fixed, level, steep_tells}
use Rattle.dcx_cert_complete.proofs.Level.{nothing, HeadStarts, AreStarting}
use Rattle.dcx_cert_complete.proofs.Taken.{taken_signed, taken_follow, kind_bends, taken_between, start_along, fixed_stands, along_taken, start_low}
use Rattle.dcx_cert_complete.proofs.Steep.{given_signed, steep_signed}
use Rattle.dcx_atom.specs.Farthest.{beyond_trans}
use Rattle.dcx_atom.proofs.Units.{one_nonnegative}

-- ---- numbers
scaled_signed : (s : Sign) (k y : ℚ) → whole (pos 0) ≤ℚ k → HasSign s y → HasSign s (k *ℚ y)
scaled_signed s k y low h = record { nonneg = λ t. *ℚ-nonnegative low (h.nonneg t); nonpos = λ t. *ℚ-nonpositive low (h.nonpos t) }

back : (k y : ℚ) → whole (pos 0) <ℚ k → k *ℚ (inverse k *ℚ y) ≡ y
back k y low = sym (*ℚ_assoc k (inverse k) y) ∙ ap (λ z. z *ℚ y) (*ℚ-inverse_positive low) ∙ *ℚ_idl y

back_again : (k y : ℚ) → whole (pos 0) <ℚ k → y ≡ whole (pos 0) +ℚ inverse k *ℚ (k *ℚ y)
back_again k y low =
    sym (+ℚ_idl (inverse k *ℚ (k *ℚ y)) ∙ sym (*ℚ_assoc (inverse k) k y) ∙ ap (λ z. z *ℚ y) (*ℚ_comm (inverse k) k ∙ *ℚ-inverse_positive low) ∙ *ℚ_idl y)

-- a call is at most k times what it is at a kth of the arguments, where it isn't beyond 0 at nothing
scaled_up : (bend : Bend) (k z v w : ℚ) → whole (pos 0) <ℚ k → IsBeyond bend v (z +ℚ inverse k *ℚ w) → IsBeyond bend z (whole (pos 0)) → IsBeyond bend (k *ℚ v) w
scaled_up Convex k z v w low h start =
    ≤ℚ_trans (*ℚ-≤ℚ (<ℚ-≤ℚ low) (≤ℚ_trans h (+ℚ-≤ℚ_right (inverse k *ℚ w) start))) (≤ℚ-from_≡ (ap (λ y. k *ℚ y) (+ℚ_idl (inverse k *ℚ w)) ∙ back k w low))
scaled_up Concave k z v w low h start =
    ≤ℚ_trans (≤ℚ-from_≡ (sym (ap (λ y. k *ℚ y) (+ℚ_idl (inverse k *ℚ w)) ∙ back k w low))) (*ℚ-≤ℚ (<ℚ-≤ℚ low) (≤ℚ_trans (+ℚ-≤ℚ_right (inverse k *ℚ w) start) h))

less_turned : (x y : ℚ) → x +ℚ whole (pos 1) *ℚ y ≡ x -ℚ neg_ℚ y
less_turned x y = ring (x ∷ y ∷ []) (search reads depth 30) tt

turned_less : (x y : ℚ) → x -ℚ y ≡ x +ℚ whole (pos 1) *ℚ neg_ℚ y
turned_less x y = ring (x ∷ y ∷ []) (search reads depth 30) tt

moved_by : (k x y : ℚ) → k *ℚ y ≡ (x +ℚ k *ℚ y) -ℚ x
moved_by k x y = ring (k ∷ x ∷ y ∷ []) (search reads depth 30) tt

no_move : (k : ℚ) → k *ℚ whole (pos 0) ≡ whole (pos 0) -ℚ whole (pos 0)
no_move k = ring (k ∷ []) (search reads depth 30) tt

-- ---- arguments
arguments_less : (v f : ℕ → Numbers) (args : List ℕ) (i e : ℕ) →
    arguments (map (λ i j. v i j -ℚ f i j) args) i e ≡ shifted (arguments (map v args)) (whole (pos 1)) (arguments (map (λ i j. neg_ℚ (f i j)) args)) i e
arguments_less v f [] i e = zero_shifted (whole (pos 1))
arguments_less v f (n ∷ args) zero e = turned_less (v n e) (f n e)
arguments_less v f (n ∷ args) (suc i) e = arguments_less v f args i e

arguments_scaled : (k : ℚ) → whole (pos 0) <ℚ k → (f : ℕ → Numbers) (args : List ℕ) (i e : ℕ) → arguments (map f args) i e ≡ shifted nothing (inverse k) (arguments (map (λ i j. k *ℚ f i j) args)) i e
arguments_scaled k low f [] i e = zero_shifted (inverse k)
arguments_scaled k low f (n ∷ args) zero e = back_again k (f n e) low
arguments_scaled k low f (n ∷ args) (suc i) e = arguments_scaled k low f args i e

module _ (nodes : List Node) (ordered : IsOrdered nodes) (law : AreLawful nodes) (recede : AreReceding nodes) (start : AreStarting nodes) (s : Setting)
    (fit : EachNode nodes (λ n. ParameterKeeps s n.head))
    (x d : Point) (dd : IsInDomain nodes d) where
  abbrev judged : ℕ → Judgement
  judged = judgement_at Plain nodes

  abbrev given : ℕ → Numbers
  given = given_at nodes s

  abbrev steep : ℕ → Numbers
  steep = steep_at nodes s d

  abbrev there : ℚ → ℕ → Numbers
  there k = value_at nodes s (shifted x k d)

  -- the number that stays
  abbrev pub IsRest : ℕ → Numbers → Type 0
  IsRest i r = (k : ℚ) → whole (pos 0) <ℚ k → (j : ℕ) → IsBeyondAs (judged i) (k *ℚ steep i j) (there k i j -ℚ r j)

  fixed_rest : (i : ℕ) → IsTrue (is_fixed nodes i) → IsRest i (given i)
  fixed_rest i t k low j bend b =
      beyond_same bend (ap (λ (z : Numbers). k *ℚ z j) (level nodes s d i t) ∙ *ℚ-zero k ∙ sym (-ℚ_self (given i j))
      ∙ ap (λ (z : Numbers). z j -ℚ given i j) (value_fixed Plain nodes s (λ number. zeros) (shifted x k d) i t))

  module _ (n : ℕ) (f : ℕ → Numbers) (known : (a : ℕ) → a < n → IsRest a (f a)) (args : List ℕ) (all : All (λ a. a < n) args) where
    abbrev gs : List Judgement
    gs = map judged args

    abbrev first : Bool
    first = (argument gs 0).fixed

    abbrev G : Entries
    G = arguments (map given args)

    abbrev B : Entries
    B = arguments (map steep args)

    abbrev less : ℕ → Numbers
    less i j = neg_ℚ (f i j)

    abbrev R : Entries
    R = arguments (map less args)

    module _ (k : ℚ) (low : whole (pos 0) <ℚ k) where
      abbrev ahead : ℕ → Numbers
      ahead i j = k *ℚ steep i j

      abbrev behind : ℕ → Numbers
      behind i j = there k i j -ℚ f i j

      abbrev T : Entries
      T = arguments (map (there k) args)

      module _ (c : Call) (lawful : IsLawful c (length args)) (recedes : Recedes c) (starts : HeadStarts (Apply c)) (bend : Bend) (bent : IsTrue (bends Plain c.kind bend gs))
          (suit : IsTrue (all_suit bend (c.trend (map (λ g. g.sign) gs)) gs)) (j : ℕ) (below : j < c.size) where
        abbrev at : Entries → Entries
        at v = taken_at c.kind first G v

        -- by homogeneity, monotonicity and recession
        scaled : IsBeyond bend (k *ℚ c.value (at B) j) (c.value (at (arguments (map ahead args))) j)
        scaled =
            scaled_up bend k (c.value (at nothing) j) (c.value (at B) j) (c.value (at (arguments (map ahead args))) j) low
            (recedes bend (inverse k) (at nothing) (at (arguments (map ahead args))) (at B) (<ℚ-≤ℚ (inverse-positive low))
            (start_along c.kind bend first (inverse k) G (arguments (map ahead args)) B (kind_bends c.kind bend gs bent) (λ t i e. arguments_scaled k low steep args i e t)) j below)
            (start_low c recedes starts bend (kind_bends c.kind bend gs bent) first G j below)

        followed : IsBeyond bend (c.value (at (arguments (map ahead args))) j) (c.value (at (arguments (map behind args))) j)
        followed =
            let signs = map (λ g. g.sign) gs in
            lawful.monotonicity bend signs (at (arguments (map ahead args))) (at (arguments (map behind args)))
            (taken_between c.kind bend first G (arguments (map ahead args)) (arguments (map behind args)) (kind_bends c.kind bend gs bent))
            (taken_signed c.kind first signs G (arguments (map ahead args)) (args_signed judged given (given_signed nodes ordered law s fit d dd) args)
            (args_signed judged ahead (λ i e. scaled_signed (judged i).sign k (steep i e) (<ℚ-≤ℚ low) (steep_signed nodes ordered law s fit d dd i e)) args))
            (taken_follow bend (c.trend signs) G (arguments (map ahead args)) (arguments (map behind args))
            (args_follow bend (c.trend signs) judged ahead behind (λ a. a < n) (λ a b e. known a b k low e) args all suit) c.kind first) j below

        receded : IsBeyond bend (c.value (at (arguments (map behind args))) j) (c.value T j +ℚ whole (pos 1) *ℚ c.value (at R) j)
        receded =
            recedes bend (whole (pos 1)) T (at R) (at (arguments (map behind args))) one_nonnegative
            (along_taken c.kind bend first (whole (pos 1)) G T R (arguments (map behind args)) (kind_bends c.kind bend gs bent)
            (fixed_stands c.kind bend gs T G bent (fixed_argument_same judged (there k) given (λ i t. value_fixed Plain nodes s (shifted x k d) (λ number. zeros) i t) args))
            (λ t i e. arguments_less (there k) f args i e t)) j below

        call_rest : IsBeyond bend (k *ℚ c.value (at B) j) (c.value T j -ℚ neg_ℚ (c.value (at R) j))
        call_rest =
            beyond_trans bend _ (c.value (at (arguments (map ahead args))) j) _ scaled
            (beyond_trans bend _ (c.value (at (arguments (map behind args))) j) _ followed
            (subst (λ z. IsBeyond bend (c.value (at (arguments (map behind args))) j) z) (less_turned (c.value T j) (c.value (at R) j)) receded))

    -- what stays of any node that reaches a variable
    rest_by : Head → Numbers
    rest_by (Variable v) = first_of (entries_of v.sides) (x v.number)
    rest_by (Parameter q) = zeros
    rest_by (Constant xs) = zeros
    rest_by (Apply c) = first_of c.size (λ j. neg_ℚ (c.value (taken_at c.kind first G R) j))

    head_rest : (head : Head) → IsLawfulHead head (length args) → HeadRecedes head → HeadStarts head → IsFalse (judgement_by Plain head gs).fixed → (k : ℚ) → whole (pos 0) <ℚ k → (bend : Bend) →
        IsTrue (is_bent_by Plain bend head gs) → (j : ℕ) → IsBeyond bend (k *ℚ steep_by nodes s d head args steep j) (value_by s (shifted x k d) head (map (there k) args) j -ℚ rest_by head j)
    unfolding rest_by
    head_rest (Variable v) lawful recedes starts loose k low bend b j =
        at_test (entries_of v.sides) j (λ t. IsBeyond bend (k *ℚ (if t then d v.number j else whole (pos 0)))
        ((if t then x v.number j +ℚ k *ℚ d v.number j else whole (pos 0)) -ℚ (if t then x v.number j else whole (pos 0))))
        (λ _. beyond_same bend (moved_by k (x v.number j) (d v.number j))) (beyond_same bend (no_move k))
    head_rest (Parameter q) lawful recedes starts loose k low bend b j = absurd (false≢true (sym loose))
    head_rest (Constant xs) lawful recedes starts loose k low bend b j = absurd (false≢true (sym loose))
    head_rest (Apply c) lawful recedes starts loose k low bend b j =
        by (or_cases (list_all (is_constant Plain) gs) (bends Plain c.kind bend gs && all_suit bend (c.trend (map (λ g. g.sign) gs)) gs) b)
      where
        by : IsTrue (list_all (is_constant Plain) gs) ⊎ IsTrue (bends Plain c.kind bend gs && all_suit bend (c.trend (map (λ g. g.sign) gs)) gs) →
            IsBeyond bend (k *ℚ first_of c.size (c.value (taken_at c.kind first G B)) j)
            (first_of c.size (c.value (arguments (map (there k) args))) j -ℚ first_of c.size (λ e. neg_ℚ (c.value (taken_at c.kind first G R) e)) j)
        by (inl t) = absurd (false≢true (sym loose ∙ t))
        by (inr t) =
            let g = and_parts (bends Plain c.kind bend gs) (all_suit bend (c.trend (map (λ g. g.sign) gs)) gs) t in
            at_test c.size j
            (λ t. IsBeyond bend (k *ℚ (if t then c.value (taken_at c.kind first G B) j else whole (pos 0)))
            ((if t then c.value (arguments (map (there k) args)) j else whole (pos 0)) -ℚ (if t then neg_ℚ (c.value (taken_at c.kind first G R) j) else whole (pos 0))))
            (λ below. call_rest k low c lawful recedes starts bend g.0 g.1 j below) (beyond_same bend (no_move k))

  -- ---- all nodes
  node_rest : (i : ℕ) (n : Node) → slice_get nodes i ≡ Some n → IsFalse (is_fixed nodes i) → (f : ℕ → Numbers) → ((a : ℕ) → a < i → IsRest a (f a)) → (r : Numbers) × IsRest i r
  node_rest i n e loose f known = (
    rest_by i f known n.args (ordered i n e) n.head,
    λ k low j bend b.
        let g = judgement_tells Plain nodes ordered i n e in
        let told : steep i ≡ steep_by nodes s d n.head n.args steep = steep_tells nodes s d ordered i n e ∙ ap (λ t. if t then zeros else steep_by nodes s d n.head n.args steep) loose in
        let r = rest_by i f known n.args (ordered i n e) n.head in
        subst (λ (z : Numbers). IsBeyond bend (k *ℚ steep i j) (z j -ℚ r j)) (sym (value_tells nodes ordered s (shifted x k d) i n e))
        (subst (λ (z : Numbers). IsBeyond bend (k *ℚ z j) (value_by s (shifted x k d) n.head (map (there k) n.args) j -ℚ r j)) (sym told)
        (head_rest i f known n.args (ordered i n e) n.head (law i n e) (recede i n e) (start i n e) (sym (ap (λ (q : Judgement). q.fixed) g) ∙ loose) k low bend
        (subst (λ t. IsTrue t) (ap (is_bent bend) g ∙ bent_is Plain bend n.head (map judged n.args)) b) j)),
  )

  one_rest : (i : ℕ) (f : ℕ → Numbers) → ((a : ℕ) → a < i → IsRest a (f a)) → (r : Numbers) × IsRest i r
  one_rest i f known = by (is_fixed nodes i) refl
    where
      at : (o : Option Node) → slice_get nodes i ≡ o → IsFalse (is_fixed nodes i) → (r : Numbers) × IsRest i r
      at None e loose = (given i, fixed_rest i (none_fixed nodes i e))
      at (Some m) e loose = node_rest i m e loose f known

      by : (t : Bool) → is_fixed nodes i ≡ t → (r : Numbers) × IsRest i r
      by true e = (given i, fixed_rest i e)
      by false e = at (slice_get nodes i) refl e

  abbrev AreRests : ℕ → (ℕ → Numbers) → Type 0
  AreRests n f = (i : ℕ) → i < n → IsRest i (f i)

  one_more : (n : ℕ) (f : ℕ → Numbers) → AreRests n f → (r : Numbers) → IsRest n r → AreRests (suc n) (λ i. if nat_lt i n then f i else r)
  one_more n f h r is i b = by (nat_lt i n) refl
    where
      by : (t : Bool) → nat_lt i n ≡ t → IsRest i (if t then f i else r)
      by true e = h i (ltb-true i n e)
      by false e = let same : n ≡ i = omega (arith, b, ltb-false i n e) in subst (λ a. IsRest a r) same is

  all_rests : (n : ℕ) → (f : ℕ → Numbers) × AreRests n f
  all_rests zero = (λ i. zeros, λ i b. absurd (omega (arith, b)))
  all_rests (suc n) = let (f, h) = all_rests n in let (r, is) = one_rest n f h in (λ i. if nat_lt i n then f i else r, one_more n f h r is)

  -- each node
  pub rest_of : (i : ℕ) → (r : Numbers) × IsRest i r
  rest_of i = let (f, h) = all_rests (suc i) in (f i, h i (omega arith))
