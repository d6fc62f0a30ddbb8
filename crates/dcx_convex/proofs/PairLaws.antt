-- Products and quotients keep the laws of calls.
use Rattle.std.proofs.Common.{◌≡◌, inl, inr, ℕ, List, [], ◌∷◌, map, refl, sym, ap, ap₂, ◌∙◌, subst, pos}
use Rattle.std.specs.Prelude.{◌⊎◌}
use Rattle.dcx_math.specs.Rational.{ℚ, whole, ◌+ℚ◌, ◌*ℚ◌, inverse}
use Rattle.dcx_math.specs.Sums.{rat_sum_by}
use Rattle.dcx_math.proofs.Ring.{/ℚ-is}
use Rattle.dcx_math.proofs.Orders.{*ℚ_comm}
use Rattle.dcx_atom.specs.declared.flags.Sign.{Sign}
use Rattle.dcx_atom.specs.declared.flags.Bend.{Bend}
use Rattle.dcx_atom.specs.Arrays.{Entries}
use Rattle.dcx_atom.specs.Signs.{HasSign, sign_at, HaveSigns, IsBeyond, Follows, combination, product_sign, by_other}
use Rattle.dcx_atom.proofs.RowSums.{zero_combination, term_combination}
use Rattle.dcx_atom.proofs.SignedProducts.{product_has_sign, inverse_has_sign, sum_has_sign, product_beyond as factor_beyond, sum_beyond}
use Rattle.dcx_convex.specs.Calls.{IsLawful}
use Rattle.dcx_convex.specs.Pairs.{Pair, products_at, quotients_at, product_trend, quotient_trend, product_call, quotient_call}
use Rattle.dcx_convex.specs.Nodes.{Numbers}
use Rattle.dcx_convex.proofs.Beyond.{beyond_same}
use Rattle.dcx_convex.proofs.Convexity.{same_mixed}

-- the sum of the products of the pairs
abbrev paired : List Pair → Numbers → Numbers → ℚ
paired pairs l r = rat_sum_by (λ x. l x.left *ℚ r x.right) pairs

-- ---- signs
pairs_signed : (s q : Sign) (pairs : List Pair) (l r : Numbers) → ((e : ℕ) → HasSign s (l e)) → ((e : ℕ) → HasSign q (r e)) → HasSign (product_sign s q) (paired pairs l r)
pairs_signed s q pairs l r h k =
    sum_has_sign (product_sign s q) (λ (x : Pair). l x.left *ℚ r x.right) pairs (λ x. product_has_sign s q (l x.left) (r x.right) (h x.left) (k x.right))

-- ---- monotonicity
-- with the left side fixed
left_beyond : (bend : Bend) (s : Sign) (pairs : List Pair) (l r q : Numbers) → ((e : ℕ) → HasSign s (l e)) → ((e : ℕ) → Follows bend (by_other s) (r e) (q e)) →
    IsBeyond bend (paired pairs l r) (paired pairs l q)
left_beyond bend s pairs l r q h f =
    sum_beyond bend (λ (x : Pair). l x.left *ℚ r x.right) (λ (x : Pair). l x.left *ℚ q x.right) pairs
    (λ x. factor_beyond bend s (l x.left) (r x.right) (q x.right) (h x.left) (f x.right))

-- the sides change places
abbrev turned_all : List Pair → List Pair
turned_all pairs = map (λ x. record { left = x.right; right = x.left }) pairs

paired_turned : (pairs : List Pair) (l r : Numbers) → paired pairs l r ≡ paired (turned_all pairs) r l
paired_turned [] l r = refl
paired_turned (x ∷ pairs) l r = ap₂ ◌+ℚ◌ (*ℚ_comm (l x.left) (r x.right)) (paired_turned pairs l r)

-- with the right side fixed
right_beyond : (bend : Bend) (s : Sign) (pairs : List Pair) (l m r : Numbers) → ((e : ℕ) → HasSign s (r e)) → ((e : ℕ) → Follows bend (by_other s) (l e) (m e)) →
    IsBeyond bend (paired pairs l r) (paired pairs m r)
right_beyond bend s pairs l m r h f =
    subst (λ u. IsBeyond bend u (paired pairs m r)) (sym (paired_turned pairs l r))
    (subst (λ u. IsBeyond bend (paired (turned_all pairs) r l) u) (sym (paired_turned pairs m r)) (left_beyond bend s (turned_all pairs) r l m h f))

-- ---- curvature
left_mixed : (pairs : List Pair) (t r : ℚ) (l u v : Numbers) → paired pairs l (λ e. t *ℚ u e +ℚ r *ℚ v e) ≡ t *ℚ paired pairs l u +ℚ r *ℚ paired pairs l v
left_mixed [] t r l u v = zero_combination t r
left_mixed (x ∷ pairs) t r l u v =
    ap (λ w. l x.left *ℚ (t *ℚ u x.right +ℚ r *ℚ v x.right) +ℚ w) (left_mixed pairs t r l u v) ∙ term_combination t r (l x.left) (u x.right) (v x.right) (paired pairs l u) (paired pairs l v)

right_mixed : (pairs : List Pair) (t r : ℚ) (u v q : Numbers) → paired pairs (λ e. t *ℚ u e +ℚ r *ℚ v e) q ≡ t *ℚ paired pairs u q +ℚ r *ℚ paired pairs v q
right_mixed pairs t r u v q =
    paired_turned pairs (λ e. t *ℚ u e +ℚ r *ℚ v e) q ∙ left_mixed (turned_all pairs) t r q u v
    ∙ ap₂ (λ a b. t *ℚ a +ℚ r *ℚ b) (sym (paired_turned pairs u q)) (sym (paired_turned pairs v q))

-- a side that is the same at both is the same between
same_between : (t r : ℚ) (u v : Numbers) → t +ℚ r ≡ whole (pos 1) → u ≡ v → (λ (e : ℕ). t *ℚ u e +ℚ r *ℚ v e) ≡ u
same_between t r u v one e = ap (λ w. λ (e : ℕ). t *ℚ u e +ℚ r *ℚ w e) (sym e) ∙ (λ i k. sym (same_mixed t r (u k) one) i)

-- between two left sides, or two right sides, where the other side is the same
left_same : (pairs : List Pair) (t r : ℚ) (l m u v : Numbers) → t +ℚ r ≡ whole (pos 1) → l ≡ m →
    paired pairs (λ e. t *ℚ l e +ℚ r *ℚ m e) (λ e. t *ℚ u e +ℚ r *ℚ v e) ≡ t *ℚ paired pairs l u +ℚ r *ℚ paired pairs m v
left_same pairs t r l m u v one e =
    ap (λ w. paired pairs w (λ e. t *ℚ u e +ℚ r *ℚ v e)) (same_between t r l m one e) ∙ left_mixed pairs t r l u v ∙ ap (λ w. t *ℚ paired pairs l u +ℚ r *ℚ paired pairs w v) e

right_same : (pairs : List Pair) (t r : ℚ) (l m u v : Numbers) → t +ℚ r ≡ whole (pos 1) → u ≡ v →
    paired pairs (λ e. t *ℚ l e +ℚ r *ℚ m e) (λ e. t *ℚ u e +ℚ r *ℚ v e) ≡ t *ℚ paired pairs l u +ℚ r *ℚ paired pairs m v
right_same pairs t r l m u v one e =
    ap (λ w. paired pairs (λ e. t *ℚ l e +ℚ r *ℚ m e) w) (same_between t r u v one e) ∙ right_mixed pairs t r l m u ∙ ap (λ w. t *ℚ paired pairs l u +ℚ r *ℚ paired pairs m w) e

-- ---- the laws
module _ (size : ℕ) (pairs : ℕ → List Pair) where
  product_beyond : (bend : Bend) (signs : List Sign) (a b : Entries) → (a 0 ≡ b 0) ⊎ (a 1 ≡ b 1) → HaveSigns signs a → ((i k : ℕ) → Follows bend (product_trend signs i) (a i k) (b i k)) →
      (j : ℕ) → IsBeyond bend (products_at (pairs j) a) (products_at (pairs j) b)
  product_beyond bend signs a b (inl e) h f j =
      subst (λ l. IsBeyond bend (products_at (pairs j) a) (paired (pairs j) l (b 1))) e (left_beyond bend (sign_at signs 0) (pairs j) (a 0) (a 1) (b 1) (h 0) (f 1))
  product_beyond bend signs a b (inr e) h f j =
      subst (λ r. IsBeyond bend (products_at (pairs j) a) (paired (pairs j) (b 0) r)) e (right_beyond bend (sign_at signs 1) (pairs j) (a 0) (b 0) (a 1) (h 1) (f 0))

  product_between : (t r : ℚ) (a b : Entries) → (a 0 ≡ b 0) ⊎ (a 1 ≡ b 1) → t +ℚ r ≡ whole (pos 1) → (j : ℕ) →
      products_at (pairs j) (combination t r a b) ≡ t *ℚ products_at (pairs j) a +ℚ r *ℚ products_at (pairs j) b
  product_between t r a b (inl e) one j = left_same (pairs j) t r (a 0) (b 0) (a 1) (b 1) one e
  product_between t r a b (inr e) one j = right_same (pairs j) t r (a 0) (b 0) (a 1) (b 1) one e

  pub product_lawful : (count : ℕ) → IsLawful (product_call size pairs) count
  product_lawful count = record {
    sign_law = λ signs a n h j l. pairs_signed (sign_at signs 0) (sign_at signs 1) (pairs j) (a 0) (a 1) (h 0) (h 1);
    monotonicity = λ bend signs a b e h f j l. product_beyond bend signs a b e h f j;
    curvature = λ bend t r a b e p q one j l. beyond_same bend (product_between t r a b e one j);
  }

  -- a quotient is a product with the divisor turned over
  quotients_are : (ps : List Pair) (a : Entries) → quotients_at ps a ≡ paired ps (a 0) (λ e. inverse (a 1 e))
  quotients_are [] a = refl
  quotients_are (x ∷ ps) a = ap₂ ◌+ℚ◌ (/ℚ-is (a 0 x.left) (a 1 x.right)) (quotients_are ps a)

  quotient_signed : (signs : List Sign) (a : Entries) → HaveSigns signs a → (j : ℕ) → HasSign (product_sign (sign_at signs 0) (sign_at signs 1)) (quotients_at (pairs j) a)
  quotient_signed signs a h j =
      subst (λ u. HasSign (product_sign (sign_at signs 0) (sign_at signs 1)) u) (sym (quotients_are (pairs j) a))
      (pairs_signed (sign_at signs 0) (sign_at signs 1) (pairs j) (a 0) (λ e. inverse (a 1 e)) (h 0) (λ e. inverse_has_sign (sign_at signs 1) (a 1 e) (h 1 e)))

  quotient_beyond : (bend : Bend) (signs : List Sign) (a b : Entries) → a 1 ≡ b 1 → HaveSigns signs a → ((i k : ℕ) → Follows bend (quotient_trend signs i) (a i k) (b i k)) →
      (j : ℕ) → IsBeyond bend (quotients_at (pairs j) a) (quotients_at (pairs j) b)
  quotient_beyond bend signs a b e h f j =
      subst (λ u. IsBeyond bend u (quotients_at (pairs j) b)) (sym (quotients_are (pairs j) a))
      (subst (λ u. IsBeyond bend (paired (pairs j) (a 0) (λ e. inverse (a 1 e))) u) (ap (λ r. paired (pairs j) (b 0) (λ e. inverse (r e))) e ∙ sym (quotients_are (pairs j) b))
      (right_beyond bend (sign_at signs 1) (pairs j) (a 0) (b 0) (λ e. inverse (a 1 e)) (λ e. inverse_has_sign (sign_at signs 1) (a 1 e) (h 1 e)) (f 0)))

  quotient_between : (t r : ℚ) (a b : Entries) → a 1 ≡ b 1 → t +ℚ r ≡ whole (pos 1) → (j : ℕ) →
      quotients_at (pairs j) (combination t r a b) ≡ t *ℚ quotients_at (pairs j) a +ℚ r *ℚ quotients_at (pairs j) b
  quotient_between t r a b e one j =
      quotients_are (pairs j) (combination t r a b)
      ∙ ap (λ w. paired (pairs j) (λ k. t *ℚ a 0 k +ℚ r *ℚ b 0 k) (λ k. inverse (w k))) (same_between t r (a 1) (b 1) one e)
      ∙ right_mixed (pairs j) t r (a 0) (b 0) (λ k. inverse (a 1 k))
      ∙ ap₂ (λ u v. t *ℚ u +ℚ r *ℚ v) (sym (quotients_are (pairs j) a)) (ap (λ w. paired (pairs j) (b 0) (λ k. inverse (w k))) e ∙ sym (quotients_are (pairs j) b))

  pub quotient_lawful : (count : ℕ) → IsLawful (quotient_call size pairs) count
  quotient_lawful count = record {
    sign_law = λ signs a n h j l. quotient_signed signs a h j;
    monotonicity = λ bend signs a b e h f j l. quotient_beyond bend signs a b e h f j;
    curvature = λ bend t r a b e p q one j l. beyond_same bend (quotient_between t r a b e one j);
  }
