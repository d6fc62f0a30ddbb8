-- Nonlinear calls, linear calls, products and quotients keep the recession law.
use Rattle.std.proofs.Common.{◌≡◌, inl, inr, ℕ, ◌<◌, List, [], ◌∷◌, Some, refl, sym, ap, ap₂, ◌∙◌, subst, pos}
use Rattle.std.specs.Prelude.{◌⊎◌}
use Rattle.dcx_math.specs.Rational.{ℚ, whole, ◌+ℚ◌, ◌*ℚ◌, inverse}
use Rattle.dcx_math.specs.Sums.{rat_sum_by}
use Rattle.dcx_math.proofs.Ring.{ring, reads, /ℚ-is}
use Rattle.dcx_math.proofs.Orders.{*ℚ_idl, zero_shifted}
use Rattle.dcx_shape.specs.declared.shape.Sides.{Sides}
use Rattle.dcx_shape.specs.Sides.{entries_of}
use Rattle.dcx_atom.specs.Arrays.{Entries}
use Rattle.dcx_atom.specs.Signs.{IsBeyond, combination, shifted}
use Rattle.dcx_atom.specs.Meaning.{Meaning}
use Rattle.dcx_atom.specs.Laws as atom
use Rattle.dcx_atom.specs.Linear.{LinearMeaning, IsLinear}
use Rattle.dcx_atom.proofs.LinearSums.{value_combination}
use Rattle.dcx_convex.specs.Atoms.{atom_call, linear_call}
use Rattle.dcx_convex.specs.Nodes.{Numbers}
use Rattle.dcx_convex.specs.Pairs.{Pair, products_at, quotients_at, product_call, quotient_call}
use Rattle.dcx_convex.proofs.Beyond.{beyond_same}
use Rattle.dcx_right.specs.Rays.{OneGoes, Recedes}
use Rattle.dcx_atom.proofs.Sublinear.{one_combination}

-- ---- nonlinear and linear calls
pub atom_recedes : (m : Meaning) → atom.Recedes m → (args : List Sides) (sides : Sides) → m.shape args ≡ Some sides → Recedes (atom_call m args sides)
atom_recedes m law args sides is bend k a b c low along j below =
    subst (λ z. IsBeyond bend (m.value args z j) (m.value args a j +ℚ k *ℚ m.value args b j)) (sym along.1)
    (subst (λ z. IsBeyond z (m.value args (shifted a k b) j) (m.value args a j +ℚ k *ℚ m.value args b j)) along.0 (law args sides is j below a b k low))

linear_shifted : (m : LinearMeaning) → IsLinear m → (args : List Sides) (sides : Sides) → m.shape args ≡ Some sides → (k : ℚ) (a b : Entries) (j : ℕ) → j < entries_of sides →
    m.value args (shifted a k b) j ≡ m.value args a j +ℚ k *ℚ m.value args b j
linear_shifted m law args sides is k a b j below =
    ap (λ z. m.value args z j) (sym (one_combination a k b)) ∙ value_combination m law args sides is j below (whole (pos 1)) k a b
    ∙ ap (λ z. z +ℚ k *ℚ m.value args b j) (*ℚ_idl (m.value args a j))

pub linear_recedes : (m : LinearMeaning) → IsLinear m → (args : List Sides) (sides : Sides) → m.shape args ≡ Some sides → Recedes (linear_call m args sides)
linear_recedes m law args sides is bend k a b c low along j below = beyond_same bend (ap (λ z. m.value args z j) along ∙ linear_shifted m law args sides is k a b j below)

-- ---- products and quotients
-- the sum of the products of the pairs
abbrev paired : List Pair → Numbers → Numbers → ℚ
paired pairs l r = rat_sum_by (λ x. l x.left *ℚ r x.right) pairs

right_term : (k c x y r s : ℚ) → c *ℚ (x +ℚ k *ℚ y) +ℚ (r +ℚ k *ℚ s) ≡ c *ℚ x +ℚ r +ℚ k *ℚ (c *ℚ y +ℚ s)
right_term k c x y r s = ring (k ∷ c ∷ x ∷ y ∷ r ∷ s ∷ []) (search reads depth 30) tt

left_term : (k c x y r s : ℚ) → (x +ℚ k *ℚ y) *ℚ c +ℚ (r +ℚ k *ℚ s) ≡ x *ℚ c +ℚ r +ℚ k *ℚ (y *ℚ c +ℚ s)
left_term k c x y r s = ring (k ∷ c ∷ x ∷ y ∷ r ∷ s ∷ []) (search reads depth 30) tt

right_shifted : (pairs : List Pair) (k : ℚ) (l u v : Numbers) → paired pairs l (λ e. u e +ℚ k *ℚ v e) ≡ paired pairs l u +ℚ k *ℚ paired pairs l v
right_shifted [] k l u v = zero_shifted k
right_shifted (x ∷ pairs) k l u v =
    ap (λ w. l x.left *ℚ (u x.right +ℚ k *ℚ v x.right) +ℚ w) (right_shifted pairs k l u v) ∙ right_term k (l x.left) (u x.right) (v x.right) (paired pairs l u) (paired pairs l v)

left_shifted : (pairs : List Pair) (k : ℚ) (u v r : Numbers) → paired pairs (λ e. u e +ℚ k *ℚ v e) r ≡ paired pairs u r +ℚ k *ℚ paired pairs v r
left_shifted [] k u v r = zero_shifted k
left_shifted (x ∷ pairs) k u v r =
    ap (λ w. (u x.left +ℚ k *ℚ v x.left) *ℚ r x.right +ℚ w) (left_shifted pairs k u v r) ∙ left_term k (r x.right) (u x.left) (v x.left) (paired pairs u r) (paired pairs v r)

product_along : (pairs : List Pair) (k : ℚ) (a b c : Entries) → OneGoes 0 1 k a b c ⊎ OneGoes 1 0 k a b c → products_at pairs c ≡ products_at pairs a +ℚ k *ℚ products_at pairs b
product_along pairs k a b c (inl h) =
    ap₂ (paired pairs) h.still h.moved ∙ right_shifted pairs k (a 0) (a 1) (b 1) ∙ ap (λ l. paired pairs (a 0) (a 1) +ℚ k *ℚ paired pairs l (b 1)) (sym h.same)
product_along pairs k a b c (inr h) =
    ap₂ (paired pairs) h.moved h.still ∙ left_shifted pairs k (a 0) (b 0) (a 1) ∙ ap (λ r. paired pairs (a 0) (a 1) +ℚ k *ℚ paired pairs (b 0) r) (sym h.same)

pub product_recedes : (size : ℕ) (pairs : ℕ → List Pair) → Recedes (product_call size pairs)
product_recedes size pairs bend k a b c low along j below = beyond_same bend (product_along (pairs j) k a b c along)

-- a quotient is a product with the divisor turned over
abbrev turned_over : Entries → Numbers
turned_over a e = inverse (a 1 e)

quotients_are : (pairs : List Pair) (a : Entries) → quotients_at pairs a ≡ paired pairs (a 0) (turned_over a)
quotients_are [] a = refl
quotients_are (x ∷ pairs) a = ap₂ ◌+ℚ◌ (/ℚ-is (a 0 x.left) (a 1 x.right)) (quotients_are pairs a)

quotient_along : (pairs : List Pair) (k : ℚ) (a b c : Entries) → OneGoes 1 0 k a b c → quotients_at pairs c ≡ quotients_at pairs a +ℚ k *ℚ quotients_at pairs b
quotient_along pairs k a b c h =
    quotients_are pairs c ∙ ap₂ (λ l r. paired pairs l (λ e. inverse (r e))) h.moved h.still ∙ left_shifted pairs k (a 0) (b 0) (turned_over a)
    ∙ ap₂ (λ u v. u +ℚ k *ℚ v) (sym (quotients_are pairs a)) (ap (λ r. paired pairs (b 0) (λ e. inverse (r e))) (sym h.same) ∙ sym (quotients_are pairs b))

pub quotient_recedes : (size : ℕ) (pairs : ℕ → List Pair) → Recedes (quotient_call size pairs)
quotient_recedes size pairs bend k a b c low along j below = beyond_same bend (quotient_along (pairs j) k a b c along)
