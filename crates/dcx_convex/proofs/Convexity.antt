-- A node that the rules call convex is convex, and one that they call concave is concave: between any two points of the
-- domain. One induction over the laws of calls.
use Rattle.std.proofs.Common.{◌≡◌, inl, inr, ℕ, zero, suc, ◌<◌, IsTrue, if◌then◌else◌, List, [], ◌∷◌, length, map, Option, Some, None, slice_get, refl, sym, ap, ap₂, ◌∙◌, subst, pos}
use Rattle.std.specs.Prelude.{◌⊎◌, ◌&&◌}
use Rattle.std.specs.List.{list_all}
use Rattle.std.proofs.lemmas.Bool.{and_parts, or_cases, false≢true}
use Rattle.dcx_math.specs.Rational.{ℚ, whole, ◌+ℚ◌, ◌*ℚ◌}
use Rattle.dcx_math.specs.Sums.{IsNonnegative, rat_at}
use Rattle.dcx_math.proofs.Ring.{ring, reads}
use Rattle.dcx_shape.specs.declared.shape.Sides.{Sides}
use Rattle.dcx_shape.specs.Sides.{entries_of}
use Rattle.dcx_atom.specs.declared.flags.Bend.{Bend}
use Rattle.dcx_atom.specs.declared.flags.Bend.TheVariants.{Convex, Concave}
use Rattle.dcx_atom.specs.Arrays.{Entries}
use Rattle.dcx_atom.specs.Signs.{HasSign, IsBeyond, Follows, combination}
use Rattle.dcx_atom.proofs.RowSums.{zero_combination, nonnegative_combination, nonpositive_combination}
use Rattle.dcx_convex.specs.Calls.{Kind, Nonlinear, Linear, Product, Quotient, Call, BendsBetween, IsLawful}
use Rattle.dcx_convex.specs.Nodes.{Attribute, Free, Nonneg, Nonpos, Symmetric, Diag, Head, Variable, Parameter, Constant, Apply, Node, Numbers, Point, Setting, told}
use Rattle.dcx_convex.specs.Nodes.{told_within, zeros, first_of, arguments, value_by, Keeps, VariableKeeps, ParameterKeeps, EachNode, IsInDomain, IsLawfulHead, AreLawful}
use Rattle.dcx_convex.specs.Rules.{Rules, Plain, Judgement, is_constant, is_bent, same_bend, no_argument, argument, bends, all_suit, is_bent_by, judgement_by}
use Rattle.dcx_convex.proofs.Arguments.{args_signed, fixed_args_same, fixed_argument_same}
use Rattle.dcx_convex.proofs.Signs.{at_test, signed, fixed_same}
use Rattle.dcx_convex.proofs.Beyond.{beyond_same, IsBeyondAs, args_follow}
use Rattle.dcx_atom.specs.Farthest.{beyond_refl, beyond_trans}

-- a mixture of a number with itself
pub same_mixed : (t r w : ℚ) → t +ℚ r ≡ whole (pos 1) → w ≡ t *ℚ w +ℚ r *ℚ w
same_mixed t r w h =
    let a : w ≡ whole (pos 1) *ℚ w = ring (w ∷ []) (search reads depth 30) tt in
    let b : (t +ℚ r) *ℚ w ≡ t *ℚ w +ℚ r *ℚ w = ring (t ∷ r ∷ w ∷ []) (search reads depth 30) tt in
    a ∙ ap (λ u. u *ℚ w) (sym h) ∙ b

-- ---- the domain
mixed_keeps : (a : Attribute) (sides : Sides) (t r : ℚ) (x y : Numbers) → IsNonnegative t → IsNonnegative r → Keeps a sides x → Keeps a sides y → Keeps a sides (λ j. t *ℚ x j +ℚ r *ℚ y j)
mixed_keeps Free sides t r x y p q h k = tt
mixed_keeps Nonneg sides t r x y p q h k = λ j b. nonnegative_combination p q (h j b) (k j b)
mixed_keeps Nonpos sides t r x y p q h k = λ j b. nonpositive_combination p q (h j b) (k j b)
mixed_keeps Symmetric sides t r x y p q h k = λ i j e. ap₂ (λ u v. t *ℚ u +ℚ r *ℚ v) (h i j e) (k i j e)
mixed_keeps Diag sides t r x y p q h k = λ i j e d. ap₂ (λ u v. t *ℚ u +ℚ r *ℚ v) (h i j e d) (k i j e d) ∙ sym (zero_combination t r)

mixed_variable : (head : Head) (t r : ℚ) (x y : Point) → IsNonnegative t → IsNonnegative r → VariableKeeps x head → VariableKeeps y head → VariableKeeps (combination t r x y) head
mixed_variable (Variable d) t r x y p q h k = mixed_keeps d.attribute d.sides t r (x d.number) (y d.number) p q h k
mixed_variable (Parameter d) t r x y p q h k = tt
mixed_variable (Constant xs) t r x y p q h k = tt
mixed_variable (Apply c) t r x y p q h k = tt

-- the domain is a convex set
pub mixed_domain : (nodes : List Node) (t r : ℚ) (x y : Point) → IsNonnegative t → IsNonnegative r → IsInDomain nodes x → IsInDomain nodes y → IsInDomain nodes (combination t r x y)
mixed_domain nodes t r x y p q h k = λ i n e. mixed_variable n.head t r x y p q (h i n e) (k i n e)

-- ---- one node
-- the test of equal bends
pub same_bend_is : (b c : Bend) → IsTrue (same_bend b c) → b ≡ c
same_bend_is Convex Convex t = refl
same_bend_is Convex Concave t = absurd (false≢true t)
same_bend_is Concave Convex t = absurd (false≢true t)
same_bend_is Concave Concave t = refl

-- a call bends between two arguments that agree at the constant ones
pub bends_between : (kind : Kind) (bend : Bend) (args : List Judgement) (a b : Entries) → IsTrue (bends Plain kind bend args)
    → ((k : ℕ) → IsTrue (argument args k).fixed → a k ≡ b k) → BendsBetween kind bend a b
bends_between (Nonlinear own) bend args a b t h = same_bend_is own bend t
bends_between Linear bend args a b t h = tt
bends_between Product bend args a b t h = elim (or_cases (argument args 0).fixed (argument args 1).fixed t) [ inl k ↦ inl (h 0 k) | inr k ↦ inr (h 1 k) ]
bends_between Quotient bend args a b t h = h 1 t

-- what is judged of a node is what the rules judge
pub bent_is : (rules : Rules) (bend : Bend) (head : Head) (args : List Judgement) → is_bent bend (judgement_by rules head args) ≡ is_bent_by rules bend head args
bent_is rules Convex head args = refl
bent_is rules Concave head args = refl

-- an array that is beyond the mixture below n is so everywhere
first_mixed : (bend : Bend) (t r : ℚ) (n : ℕ) (f g h : Numbers) → ((j : ℕ) → j < n → IsBeyond bend (f j) (t *ℚ g j +ℚ r *ℚ h j)) → (j : ℕ) →
    IsBeyond bend (first_of n f j) (t *ℚ first_of n g j +ℚ r *ℚ first_of n h j)
first_mixed bend t r n f g h k j =
    at_test n j (λ b. IsBeyond bend (if b then f j else whole (pos 0)) (t *ℚ (if b then g j else whole (pos 0)) +ℚ r *ℚ (if b then h j else whole (pos 0))))
    (k j) (beyond_same bend (zero_combination t r))

-- the mixture of arguments
arguments_mixed : (t r : ℚ) (u v : ℕ → Numbers) (args : List ℕ) (k e : ℕ) →
    arguments (map (λ i j. t *ℚ u i j +ℚ r *ℚ v i j) args) k e ≡ combination t r (arguments (map u args)) (arguments (map v args)) k e
arguments_mixed t r u v [] k e = zero_combination t r
arguments_mixed t r u v (i ∷ args) zero e = refl
arguments_mixed t r u v (i ∷ args) (suc k) e = arguments_mixed t r u v args k e

-- what is known of earlier nodes at z and at two points x and y: signs of the values at z, the same values where no
-- variable is reached, and values at z that are beyond the mixtures as far as the rules say
pub record AreBetween (t r : ℚ) (judged : ℕ → Judgement) (vz vx vy : ℕ → Numbers) : Type 0 where
  pub signs : (i j : ℕ) → HasSign (judged i).sign (vz i j)
  pub left : (i : ℕ) → IsTrue (judged i).fixed → vz i ≡ vx i
  pub right : (i : ℕ) → IsTrue (judged i).fixed → vx i ≡ vy i
  pub beyond : (i j : ℕ) → IsBeyondAs (judged i) (vz i j) (t *ℚ vx i j +ℚ r *ℚ vy i j)

module _ (t r : ℚ) (p : IsNonnegative t) (q : IsNonnegative r) (one : t +ℚ r ≡ whole (pos 1)) where
  -- a call of arguments that suit it: by its monotonicity law and then by its curvature law
  call_between : (c : Call) (args : List ℕ) → IsLawful c (length args) → (bend : Bend) (judged : ℕ → Judgement) (vz vx vy : ℕ → Numbers) → AreBetween t r judged vz vx vy →
      IsTrue (bends Plain c.kind bend (map judged args)) → IsTrue (all_suit bend (c.trend (map (λ g. g.sign) (map judged args))) (map judged args)) → (j : ℕ) → j < c.size →
      IsBeyond bend (c.value (arguments (map vz args)) j) (t *ℚ c.value (arguments (map vx args)) j +ℚ r *ℚ c.value (arguments (map vy args)) j)
  call_between c args law bend judged vz vx vy h bent suit j b =
      let a = arguments (map vz args) in
      let u = arguments (map vx args) in
      let v = arguments (map vy args) in
      let signs = map (λ g. g.sign) (map judged args) in
      let same : (k : ℕ) → IsTrue (argument (map judged args) k).fixed → a k ≡ combination t r u v k =
      λ k f. fixed_argument_same judged vz vx h.left args k f ∙ (λ i e. same_mixed t r (u k e) one i)
      ∙ ap (λ w. λ e. t *ℚ u k e +ℚ r *ℚ w e) (fixed_argument_same judged vx vy h.right args k f) in
      let trend = c.trend signs in
      beyond_trans bend _ (c.value (combination t r u v) j) _
      (law.monotonicity bend signs a (combination t r u v) (bends_between c.kind bend (map judged args) a (combination t r u v) bent same) (args_signed judged vz h.signs args)
      (λ k e. subst (λ w. Follows bend (trend k) (a k e) w) (arguments_mixed t r vx vy args k e)
      (args_follow bend trend judged vz (λ i j. t *ℚ vx i j +ℚ r *ℚ vy i j) (λ _. Unit {0}) (λ i _. h.beyond i) args (λ _ _ _. tt) suit k e)) j b)
      (law.curvature bend t r u v (bends_between c.kind bend (map judged args) u v bent (fixed_argument_same judged vx vy h.right args)) p q one j b)

  -- any node
  head_between : (head : Head) (args : List ℕ) → IsLawfulHead head (length args) → (s : Setting) (x y : Point) (judged : ℕ → Judgement) (vz vx vy : ℕ → Numbers) → AreBetween t r judged vz vx vy →
      (bend : Bend) → IsTrue (is_bent_by Plain bend head (map judged args)) → (j : ℕ) →
      IsBeyond bend (value_by s (combination t r x y) head (map vz args) j) (t *ℚ value_by s x head (map vx args) j +ℚ r *ℚ value_by s y head (map vy args) j)
  head_between (Variable d) args law s x y judged vz vx vy h bend b = first_mixed bend t r (entries_of d.sides) _ _ _ (λ j _. beyond_refl bend _)
  head_between (Parameter d) args law s x y judged vz vx vy h bend b = λ j. beyond_same bend (same_mixed t r (first_of (entries_of d.sides) (s d.number) j) one)
  head_between (Constant xs) args law s x y judged vz vx vy h bend b = λ j. beyond_same bend (same_mixed t r (rat_at xs j) one)
  head_between (Apply c) args law s x y judged vz vx vy h bend b =
      by (or_cases (list_all (is_constant Plain) (map judged args)) (bends Plain c.kind bend (map judged args) && all_suit bend (c.trend (map (λ g. g.sign) (map judged args))) (map judged args)) b)
    where
      by : IsTrue (list_all (is_constant Plain) (map judged args))
          ⊎ IsTrue (bends Plain c.kind bend (map judged args) && all_suit bend (c.trend (map (λ g. g.sign) (map judged args))) (map judged args)) →
          (j : ℕ) → IsBeyond bend (first_of c.size (c.value (arguments (map vz args))) j) (t *ℚ first_of c.size (c.value (arguments (map vx args))) j +ℚ r
          *ℚ first_of c.size (c.value (arguments (map vy args))) j)
      by (inl k) = λ j. beyond_same bend
          (ap (λ l. first_of c.size (c.value (arguments l)) j) (fixed_args_same judged vz vx h.left args k) ∙ same_mixed t r _ one
          ∙ ap (λ l. t *ℚ first_of c.size (c.value (arguments (map vx args))) j +ℚ r *ℚ first_of c.size (c.value (arguments l)) j) (fixed_args_same judged vx vy h.right args k))
      by (inr k) =
          let f = and_parts (bends Plain c.kind bend (map judged args)) (all_suit bend (c.trend (map (λ g. g.sign) (map judged args))) (map judged args)) k in
          first_mixed bend t r c.size _ _ _ (call_between c args law bend judged vz vx vy h f.0 f.1)

  -- ---- all nodes
  module _ (nodes : List Node) (law : AreLawful nodes) (s : Setting) (fit : EachNode nodes (λ n. ParameterKeeps s n.head)) (x y : Point) (dx : IsInDomain nodes x) (dy : IsInDomain nodes y) where
    -- what the rules call convex (concave) is convex (concave) between x and y
    pub nodes_between : (n i j : ℕ) → IsBeyondAs (told_within no_argument (judgement_by Plain) nodes n i)
        (told_within zeros (value_by s (combination t r x y)) nodes n i j) (t *ℚ told_within zeros (value_by s x) nodes n i j +ℚ r *ℚ told_within zeros (value_by s y) nodes n i j)
    nodes_between zero i j = λ bend _. beyond_same bend (zero_combination t r)
    nodes_between (suc n) i j = by (slice_get nodes i) refl (record {
      signs = signed Plain nodes law s fit (combination t r x y) (mixed_domain nodes t r x y p q dx dy) n;
      left = fixed_same Plain nodes s (combination t r x y) x n;
      right = fixed_same Plain nodes s x y n;
      beyond = nodes_between n;
    })
      where
        by : (o : Option Node) → slice_get nodes i ≡ o →
            AreBetween t r (told_within no_argument (judgement_by Plain) nodes n) (told_within zeros (value_by s (combination t r x y)) nodes n)
            (told_within zeros (value_by s x) nodes n) (told_within zeros (value_by s y) nodes n) →
            IsBeyondAs (told no_argument (judgement_by Plain) (told_within no_argument (judgement_by Plain) nodes n) o)
            (told zeros (value_by s (combination t r x y)) (told_within zeros (value_by s (combination t r x y)) nodes n) o j)
            (t *ℚ told zeros (value_by s x) (told_within zeros (value_by s x) nodes n) o j +ℚ r *ℚ told zeros (value_by s y) (told_within zeros (value_by s y) nodes n) o j)
        by None e ih = λ bend _. beyond_same bend (zero_combination t r)
        by (Some node) e ih = λ bend b.
            head_between node.head node.args (law i node e) s x y (told_within no_argument (judgement_by Plain) nodes n) _ _ _ ih bend
            (subst (λ w. IsTrue w) (bent_is Plain bend node.head (map (told_within no_argument (judgement_by Plain) nodes n) node.args)) b) j
