-- Numbers spread over the columns of a list, and products of numbers without one of them.
use Rattle.std.proofs.Common.{◌≡◌, ◌≢◌, ℕ, zero, suc, ◌<◌, List, [], ◌∷◌, length, ℤ, pos, ◌+ℤ◌, ◌*ℤ◌, neg_ℤ, ◌<ℤ◌, arith, ap, ◌∙◌, ◌⊎◌, inl, inr}
use Rattle.std.proofs.lemmas.Int.{ints}
use Rattle.std.proofs.lemmas.Bool.{cases_eq}
use Rattle.dcx_math.specs.Integers.{ring, *ℤ-positive}
use Rattle.dcx_math.specs.IntegerSums.{int_dot, int_scaled, int_added}
use Rattle.dcx_math.proofs.IntegerVectors.{int_dot-added_right, int_dot-nil}
use Rattle.dcx_tab.proofs.RowLaws.{int_dot-unit, unit}
use Rattle.dcx_tab.specs.Rows.{Row, Assignment, basic_at, entry}

-- f 0 at the first column of the list, f 1 at the second, and so on
abbrev pub spread : (ℕ → ℤ) → List ℕ → Assignment
spread f [] = []
spread f (b ∷ bs) = int_added (int_scaled (f 0) (unit b)) (spread (λ k. f (suc k)) bs)

int_dot-none : (row : Row) (f : ℕ → ℤ) (bs : List ℕ) → ((k : ℕ) → k < length bs → entry row (basic_at bs k) ≡ pos 0) → int_dot row (spread f bs) ≡ pos 0
int_dot-none row f [] h = int_dot-nil row
int_dot-none row f (b ∷ bs) h =
    let ih = int_dot-none row (λ k. f (suc k)) bs (λ k l. h (suc k) (omega arith)) in
    let z = h 0 (omega arith) in
    int_dot-added_right row (int_scaled (f 0) (unit b)) (spread (λ k. f (suc k)) bs) ∙ rw (int_dot-unit row (f 0) b, z, ih) (omega (arith, ints))

pub int_dot-spread : (row : Row) (f : ℕ → ℤ) (bs : List ℕ) (i : ℕ) → i < length bs → ((k : ℕ) → k < length bs → k ≢ i → entry row (basic_at bs k) ≡ pos 0)
    → int_dot row (spread f bs) ≡ f i *ℤ entry row (basic_at bs i)
int_dot-spread row f [] i p h = absurd (omega arith)
int_dot-spread row f (b ∷ bs) zero p h =
    let ih = int_dot-none row (λ k. f (suc k)) bs (λ k l. h (suc k) (omega arith) (omega arith)) in
    int_dot-added_right row (int_scaled (f 0) (unit b)) (spread (λ k. f (suc k)) bs) ∙ rw (int_dot-unit row (f 0) b, ih) (omega (arith, ints))
int_dot-spread row f (b ∷ bs) (suc i) p h =
    let ih = int_dot-spread row (λ k. f (suc k)) bs i (omega arith) (λ k l n. h (suc k) (omega arith) (λ e. n (omega arith))) in
    let z = h 0 (omega arith) (omega arith) in
    int_dot-added_right row (int_scaled (f 0) (unit b)) (spread (λ k. f (suc k)) bs) ∙ rw (int_dot-unit row (f 0) b, z, ih) (omega (arith, ints))

-- the product of the first n numbers, and without the k-th
pub product : (ℕ → ℤ) → ℕ → ℤ
product p zero = pos 1
product p (suc n) = p n *ℤ product p n

pub product-pos : (p : ℕ → ℤ) (n : ℕ) → ((k : ℕ) → k < n → pos 0 <ℤ p k) → pos 0 <ℤ product p n
unfolding product
product-pos p zero h = omega (arith, ints)
product-pos p (suc n) h = *ℤ-positive (p n) (product p n) (h n (omega arith)) (product-pos p n (λ k l. h k (omega arith)))

others_by : (p : ℕ → ℤ) (n k : ℕ) → (k ≡ n) ⊎ (k ≢ n) → ℤ → ℤ
others_by p n k (inl e) rest = product p n
others_by p n k (inr e) rest = p n *ℤ rest

pub others : (ℕ → ℤ) → ℕ → ℕ → ℤ
others p zero k = pos 1
others p (suc n) k = others_by p n k (cases_eq k n) (others p n k)

others_by-is : (p : ℕ → ℤ) (n k : ℕ) (d : (k ≡ n) ⊎ (k ≢ n)) (rest : ℤ) → (k ≢ n → p k *ℤ rest ≡ product p n) → p k *ℤ others_by p n k d rest ≡ p n *ℤ product p n
unfolding others_by
others_by-is p n k (inl e) rest h = ap (λ q. p q *ℤ product p n) e
others_by-is p n k (inr e) rest h = rw (← h e) (simp ring)

pub others-is : (p : ℕ → ℤ) (n k : ℕ) → k < n → p k *ℤ others p n k ≡ product p n
unfolding others product
others-is p zero k h = absurd (omega arith)
others-is p (suc n) k h = others_by-is p n k (cases_eq k n) (others p n k) (λ e. others-is p n k (omega arith))

-- with the product of the others at its basic column, a row holds
pub solved : (d t o p : ℤ) → p *ℤ o ≡ d → d *ℤ t +ℤ neg_ℤ (t *ℤ o) *ℤ p ≡ pos 0
solved d t o p e = rw (← e) (simp ring (omega (arith, ints)))
