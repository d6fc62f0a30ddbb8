-- Steepness is what its rule tells of each node from that of its arguments, where these stand before the node.
use Rattle.std.proofs.Common.{◌≡◌, inl, inr, ℕ, zero, suc, ◌<◌, arith, IsTrue, if◌then◌else◌, List, length, map, Option, Some, None, slice_get, refl, sym, ap, ◌∙◌}
use Rattle.std.proofs.lemmas.Option.{slice_get_cases}
use Rattle.dcx_convex.specs.Nodes.{Head, Variable, Parameter, Constant, Apply, Node, Numbers, Point, Setting, told, told_within, IsOrdered, zeros, first_of, arguments}
use Rattle.dcx_convex.specs.Rules.{Plain, no_argument, argument, judgement_by, judgement_at}
use Rattle.dcx_convex.specs.Certificates.{is_fixed, given_at}
use Rattle.dcx_convex.proofs.Told.{map-same}
use Rattle.dcx_right.specs.Steepness.{taken_at, steep_by, steep_if, steep_from, steep_within, steep_at, AreSteep}

-- where there is no node, no variable is reached
pub none_fixed : (nodes : List Node) (i : ℕ) → slice_get nodes i ≡ None → IsTrue (is_fixed nodes i)
unfolding judgement_at
none_fixed nodes i e = ap (λ (o : Option Node). (told no_argument (judgement_by Plain) (told_within no_argument (judgement_by Plain) nodes i) o).fixed) e

-- a node that reaches no variable is level
pub level : (nodes : List Node) (s : Setting) (d : Point) (i : ℕ) → IsTrue (is_fixed nodes i) → steep_at nodes s d i ≡ zeros
unfolding steep_at
level nodes s d i t = ap (λ b. if b then zeros else steep_if nodes s d (slice_get nodes i) (steep_within nodes s d i)) t

module _ (nodes : List Node) (s : Setting) (d : Point) (ordered : IsOrdered nodes) where
  -- a rule at arguments of the same steepness
  head_same : (head : Head) (args : List ℕ) (f g : ℕ → Numbers) → map f args ≡ map g args → steep_by nodes s d head args f ≡ steep_by nodes s d head args g
  head_same (Variable v) args f g e = refl
  head_same (Parameter q) args f g e = refl
  head_same (Constant xs) args f g e = refl
  head_same (Apply c) args f g e =
      ap (λ l. first_of c.size (c.value (taken_at c.kind (argument (map (judgement_at Plain nodes) args) 0).fixed (arguments (map (given_at nodes s) args)) (arguments l)))) e

  rule_same : (f g : ℕ → Numbers) (i : ℕ) (o : Option Node) → slice_get nodes i ≡ o → ((a : ℕ) → a < i → f a ≡ g a) → steep_if nodes s d o f ≡ steep_if nodes s d o g
  rule_same f g i None e h = refl
  rule_same f g i (Some n) e h = head_same n.head n.args f g (map-same (λ a. a < i) f g h n.args (ordered i n e))

  from_same : (f g : ℕ → Numbers) (i : ℕ) → ((a : ℕ) → a < i → f a ≡ g a) → steep_from nodes s d f i ≡ steep_from nodes s d g i
  from_same f g i h = ap (λ u. if is_fixed nodes i then zeros else u) (rule_same f g i (slice_get nodes i) refl h)

  -- deep enough is deep enough
  within_same : (n m i : ℕ) → i < n → i < m → steep_within nodes s d n i ≡ steep_within nodes s d m i
  within_same zero m i b c = absurd (omega arith)
  within_same (suc n) zero i b c = absurd (omega arith)
  within_same (suc n) (suc m) i b c = from_same (steep_within nodes s d n) (steep_within nodes s d m) i (λ a l. within_same n m a (omega arith) (omega arith))

  -- the equation of each node
  at_node : (f : ℕ → Numbers) (i : ℕ) (n : Node) → slice_get nodes i ≡ Some n → steep_from nodes s d f i ≡ (if is_fixed nodes i then zeros else steep_by nodes s d n.head n.args f)
  at_node f i n e = ap (λ o. if is_fixed nodes i then zeros else steep_if nodes s d o f) e

  pub steep_tells : AreSteep nodes s d (steep_at nodes s d)
  unfolding steep_at
  steep_tells i n e =
      from_same (steep_within nodes s d i) (λ a. steep_within nodes s d (suc a) a) i (λ a l. within_same i (suc a) a l (omega arith))
      ∙ at_node (λ a. steep_within nodes s d (suc a) a) i n e

  -- nothing else meets the equations
  module _ (f : ℕ → Numbers) (law : AreSteep nodes s d f) where
    only_within : (n i : ℕ) → i < n → i < length nodes → f i ≡ steep_within nodes s d n i
    only_within zero i b c = absurd (omega arith)
    only_within (suc n) i b c =
        elim (slice_get_cases nodes i).1 [
          | inl h ↦ law i h.0 h.2 ∙ sym (at_node f i h.0 h.2) ∙ from_same f (steep_within nodes s d n) i (λ a l. only_within n a (omega arith) (omega arith))
          | inr h ↦ let l = h.0 in absurd (omega arith)
        ]

    pub only : (i : ℕ) → i < length nodes → f i ≡ steep_at nodes s d i
    unfolding steep_at
    only i b = only_within (suc i) i (omega arith) b
