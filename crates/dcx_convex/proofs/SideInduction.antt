-- Arrays that stand for the nodes are beyond their values, as far as the rules say: by the monotonicity law of calls.
use Rattle.std.proofs.Common.{◌≡◌, inl, inr, ℕ, zero, suc, ◌<◌, arith, IsTrue, if◌then◌else◌, List, [], ◌∷◌, length, map, All, Some, slice_get, sym, ap, ◌∙◌, subst, pos}
use Rattle.std.specs.Prelude.{◌⊎◌, ◌&&◌}
use Rattle.std.specs.List.{list_all}
use Rattle.std.proofs.lemmas.Bool.{and_parts, and_from, or_cases}
use Rattle.std.proofs.lemmas.Option.{slice_get_cases}
use Rattle.dcx_math.specs.Rational.{whole}
use Rattle.dcx_atom.specs.declared.flags.Bend.{Bend}
use Rattle.dcx_atom.specs.Signs.{HasSign, IsBeyond}
use Rattle.dcx_convex.specs.Calls.{Kind, Nonlinear, Linear, Product, Quotient, Call, BendsBetween, IsLawful}
use Rattle.dcx_convex.specs.Nodes.{Head, Variable, Parameter, Constant, Apply, Node, Numbers, Point, Setting, IsOrdered}
use Rattle.dcx_convex.specs.Nodes.{first_of, arguments, value_by, value_at, IsInDomain, Fits, IsLawfulHead, AreLawful}
use Rattle.dcx_convex.specs.Rules.{Rules, Plain, Parametrized, Judgement, is_constant, is_affine, is_bent, argument, scales, bends, all_suit, is_bent_by, judgement_by, judgement_at}
use Rattle.dcx_convex.specs.Reductions.{StandsFor, StandForNodes}
use Rattle.dcx_convex.proofs.Told.{value_tells, judgement_tells}
use Rattle.dcx_convex.proofs.Arguments.{args_signed, args_same, argument_same}
use Rattle.dcx_convex.proofs.Signs.{at_test, value_signed}
use Rattle.dcx_convex.proofs.Beyond.{beyond_same, IsBeyondAs, affine_same, args_follow}
use Rattle.dcx_convex.proofs.Convexity.{same_bend_is, bent_is}
use Rattle.dcx_atom.specs.Farthest.{beyond_refl, beyond_trans}

-- ---- constant arguments
-- a node is constant where all its arguments are
pub both_constant : (args : List Judgement) → IsTrue (list_all (λ g. g.fixed) args && list_all (λ g. g.unparametrized) args) → IsTrue (list_all (is_constant Parametrized) args)
both_constant args t = let b = and_parts (list_all (λ g. g.fixed) args) (list_all (λ g. g.unparametrized) args) t in both args b.0 b.1
  where
    both : (args : List Judgement) → IsTrue (list_all (λ g. g.fixed) args) → IsTrue (list_all (λ g. g.unparametrized) args) → IsTrue (list_all (is_constant Parametrized) args)
    both [] t u = t
    both (g ∷ args) t u =
        let b = and_parts g.fixed (list_all (λ g. g.fixed) args) t in
        let c = and_parts g.unparametrized (list_all (λ g. g.unparametrized) args) u in
        and_from (is_constant Parametrized g) (list_all (is_constant Parametrized) args) (and_from g.fixed g.unparametrized b.0 c.0) (both args b.1 c.1)

-- what is known of the earlier nodes, for which f stands and which have the values v
pub record AreBeyond (rules : Rules) (judged : ℕ → Judgement) (v f : ℕ → Numbers) (n : ℕ) : Type 0 where
  pub same : (i : ℕ) → i < n → IsTrue (is_constant rules (judged i)) → f i ≡ v i
  pub beyond : (i : ℕ) → i < n → (j : ℕ) → IsBeyondAs (judged i) (v i j) (f i j)

module _ (rules : Rules) (judged : ℕ → Judgement) (v f : ℕ → Numbers) (n : ℕ) (h : AreBeyond rules judged v f n) (args : List ℕ) (all : All (λ a. a < n) args) where
  constant_same : (k : ℕ) → IsTrue (is_constant rules (argument (map judged args) k)) → arguments (map v args) k ≡ arguments (map f args) k
  constant_same k t = argument_same judged v f (λ a. a < n) (is_constant rules) (λ i b c. sym (h.same i b c)) args all k t

  affine_are_same : (k : ℕ) → IsTrue (is_affine (argument (map judged args) k)) → arguments (map v args) k ≡ arguments (map f args) k
  affine_are_same k t = argument_same judged v f (λ a. a < n) is_affine (λ i b c. λ p j. affine_same (judged i) (v i j) (f i j) c (h.beyond i b j) p) args all k t

-- a side that counts as a number is the same
scaled_same : (rules : Rules) (judged : ℕ → Judgement) (v f : ℕ → Numbers) (n : ℕ) → AreBeyond rules judged v f n → (args : List ℕ) → All (λ a. a < n) args → (k : ℕ) (other : Judgement) →
    IsTrue (scales rules (argument (map judged args) k) other) → arguments (map v args) k ≡ arguments (map f args) k
scaled_same Plain judged v f n h args all k other t = constant_same Plain judged v f n h args all k t
scaled_same Parametrized judged v f n h args all k other t =
    let g = argument (map judged args) k in
    elim (or_cases (is_constant Parametrized g) (g.fixed && (is_affine g && other.unparametrized)) t) [
      | inl c ↦ constant_same Parametrized judged v f n h args all k c
      | inr c ↦ affine_are_same Parametrized judged v f n h args all k (and_parts (is_affine g) other.unparametrized (and_parts g.fixed (is_affine g && other.unparametrized) c).1).0
    ]

module _ (rules : Rules) (judged : ℕ → Judgement) (v f : ℕ → Numbers) (n : ℕ) (h : AreBeyond rules judged v f n) (args : List ℕ) (all : All (λ a. a < n) args) where
  -- the call bends between the values and what stands for them
  bends_between : (kind : Kind) (bend : Bend) → IsTrue (bends rules kind bend (map judged args)) → BendsBetween kind bend (arguments (map v args)) (arguments (map f args))
  bends_between (Nonlinear own) bend t = same_bend_is own bend t
  bends_between Linear bend t = tt
  bends_between Product bend t =
      let a = argument (map judged args) 0 in
      let b = argument (map judged args) 1 in
      elim (or_cases (scales rules a b) (scales rules b a) t) [
        | inl k ↦ inl (scaled_same rules judged v f n h args all 0 b k)
        | inr k ↦ inr (scaled_same rules judged v f n h args all 1 a k)
      ]
  bends_between Quotient bend t = constant_same rules judged v f n h args all 1 t

  call_beyond : (c : Call) → IsLawful c (length args) → ((i j : ℕ) → HasSign (judged i).sign (v i j)) → (bend : Bend) →
      IsTrue (bends rules c.kind bend (map judged args)) → IsTrue (all_suit bend (c.trend (map (λ g. g.sign) (map judged args))) (map judged args)) →
      (j : ℕ) → IsBeyond bend (first_of c.size (c.value (arguments (map v args))) j) (first_of c.size (c.value (arguments (map f args))) j)
  call_beyond c law signs bend bent suit j =
      at_test c.size j (λ b. IsBeyond bend (if b then c.value (arguments (map v args)) j else whole (pos 0)) (if b then c.value (arguments (map f args)) j else whole (pos 0)))
      (law.monotonicity bend (map (λ g. g.sign) (map judged args)) (arguments (map v args)) (arguments (map f args)) (bends_between c.kind bend bent) (args_signed judged v signs args)
      (args_follow bend (c.trend (map (λ g. g.sign) (map judged args))) judged v f (λ i. i < n) (λ i b e. h.beyond i b e) args all suit) j)
      (beyond_refl bend (whole (pos 0)))

  head_same : (head : Head) (s : Setting) (x : Point) → StandsFor rules s x head (map judged args) (map f args) (f n) → IsTrue (is_constant rules (judgement_by rules head (map judged args))) →
      f n ≡ value_by s x head (map v args)
  head_same (Variable d) s x stands t = stands
  head_same (Parameter d) s x stands t = stands
  head_same (Constant xs) s x stands t = stands
  head_same (Apply c) s x stands t =
      let k = constants rules t in
      stands.same k ∙ ap (λ l. first_of c.size (c.value (arguments l))) (args_same judged f v (λ a. a < n) (is_constant rules) h.same args all k)
    where
      constants : (rules : Rules) → IsTrue (is_constant rules (judgement_by rules (Apply c) (map judged args))) → IsTrue (list_all (is_constant rules) (map judged args))
      constants Plain t = t
      constants Parametrized t = both_constant (map judged args) t

  head_beyond : (head : Head) → IsLawfulHead head (length args) → (s : Setting) (x : Point) → ((i j : ℕ) → HasSign (judged i).sign (v i j)) →
      StandsFor rules s x head (map judged args) (map f args) (f n) → (bend : Bend) → IsTrue (is_bent_by rules bend head (map judged args)) → (j : ℕ)
      → IsBeyond bend (value_by s x head (map v args) j) (f n j)
  head_beyond (Variable d) law s x signs stands bend t j = beyond_same bend (ap (λ w. w j) (sym stands))
  head_beyond (Parameter d) law s x signs stands bend t j = beyond_same bend (ap (λ w. w j) (sym stands))
  head_beyond (Constant xs) law s x signs stands bend t j = beyond_same bend (ap (λ w. w j) (sym stands))
  head_beyond (Apply c) law s x signs stands bend t j =
      by (or_cases (list_all (is_constant rules) (map judged args)) (bends rules c.kind bend (map judged args) && all_suit bend (c.trend (map (λ g. g.sign) (map judged args))) (map judged args)) t)
    where
      by : IsTrue (list_all (is_constant rules) (map judged args))
          ⊎ IsTrue (bends rules c.kind bend (map judged args) && all_suit bend (c.trend (map (λ g. g.sign) (map judged args))) (map judged args)) →
          IsBeyond bend (first_of c.size (c.value (arguments (map v args))) j) (f n j)
      by (inl k) = beyond_same bend (ap (λ w. w j) (sym (stands.same k ∙ ap (λ l. first_of c.size (c.value (arguments l))) (args_same judged f v (λ a. a < n) (is_constant rules) h.same args all k))))
      by (inr k) =
          let b = and_parts (bends rules c.kind bend (map judged args)) (all_suit bend (c.trend (map (λ g. g.sign) (map judged args))) (map judged args)) k in
          beyond_trans bend _ (first_of c.size (c.value (arguments (map f args))) j) _ (call_beyond c law signs bend b.0 b.1 j) (stands.beyond bend b.0 j)

-- ---- all nodes
module _ (rules : Rules) (nodes : List Node) (ordered : IsOrdered nodes) (law : AreLawful nodes) (s : Setting) (fit : Fits nodes s) (x : Point) (dom : IsInDomain nodes x)
    (f : ℕ → Numbers) (stands : StandForNodes rules nodes s x f) where
  -- what is said of node i
  pub record IsBeyondAt (i : ℕ) : Type 0 where
    pub same : IsTrue (is_constant rules (judgement_at rules nodes i)) → f i ≡ value_at nodes s x i
    pub beyond : (j : ℕ) → IsBeyondAs (judgement_at rules nodes i) (value_at nodes s x i j) (f i j)

  -- node i, where it is known of the nodes before it
  node_beyond : (i : ℕ) (n : Node) → slice_get nodes i ≡ Some n → AreBeyond rules (judgement_at rules nodes) (value_at nodes s x) f i → IsBeyondAt i
  node_beyond i n e h =
      let judged = judgement_at rules nodes in
      let v = value_at nodes s x in
      let g = judgement_tells rules nodes ordered i n e in
      let w = value_tells nodes ordered s x i n e in
      record {
        same = λ t. head_same rules judged v f i h n.args (ordered i n e) n.head s x (stands i n e) (subst (λ q. IsTrue (is_constant rules q)) g t) ∙ sym w;
        beyond = λ j bend t. subst (λ u. IsBeyond bend (u j) (f i j)) (sym w)
            (head_beyond rules judged v f i h n.args (ordered i n e) n.head (law i n e) s x (value_signed rules nodes law s fit.parameters x dom) (stands i n e) bend
            (subst (λ q. IsTrue q) (ap (is_bent bend) g ∙ bent_is rules bend n.head (map judged n.args)) t) j);
      }

  all_beyond : (n i : ℕ) → i < n → i < length nodes → IsBeyondAt i
  all_beyond zero i b c = absurd (omega arith)
  all_beyond (suc n) i b c =
      elim (slice_get_cases nodes i).1 [
        | inl h ↦ node_beyond i h.0 h.2 (record { same = λ a p. (all_beyond n a (omega arith) (omega arith)).same; beyond = λ a p. (all_beyond n a (omega arith) (omega arith)).beyond })
        | inr h ↦ let l = h.0 in absurd (omega arith)
      ]

  -- the side induction
  pub side : (i : ℕ) → i < length nodes → IsBeyondAt i
  side i b = all_beyond (suc i) i (omega arith) b
