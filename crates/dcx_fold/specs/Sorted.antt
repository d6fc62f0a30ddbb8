-- Numbers in falling order, the sum of the first of them, and what of each stands above a level.
use Rattle.std.proofs.Common.{◌≡◌, ℕ, zero, suc, ◌<◌, ◌≤◌, arith, Bool, true, false, if◌then◌else◌, List, [], ◌∷◌, length, take, All, refl, sym, ap, ap₂, ◌∙◌, pos}
use Rattle.std.specs.Prelude.{◌+ℤ◌}
use Rattle.std.proofs.lemmas.Int.{ints}
use Rattle.std.proofs.lemmas.List.Elements.{All-head, All-tail, All-cons, All-nil, All-weaker}
use Rattle.dcx_math.specs.Rational.{ℚ, whole, ◌+ℚ◌, ◌-ℚ◌, ◌*ℚ◌, ◌≤ℚ◌, rat_le, rat_max}
use Rattle.dcx_math.specs.Sums.{IsNonnegative, rat_sum, rat_sum_by, rat_at}
use Rattle.dcx_math.proofs.Ring.{ring, reads}
use Rattle.dcx_math.proofs.Orders.{≤ℚ_refl, ≤ℚ_trans, ≤ℚ_flip, +ℚ-≤ℚ, +ℚ_idl, +ℚ_left_comm, ≤ℚ-from_≡, linear, whole-+ℤ, ≤ℚ-difference}
use Rattle.dcx_math.proofs.Bounds.{≤ℚ-rat_max_left, ≤ℚ-rat_max_right, rat_max-right, rat_max-left, rat_max-monotone}

-- x goes before the first number that is at most it
abbrev pub insert : ℚ → List ℚ → List ℚ
insert x [] = x ∷ []
insert x (y ∷ ys) = if rat_le y x then x ∷ y ∷ ys else y ∷ insert x ys

-- the numbers in falling order
abbrev pub falling : List ℚ → List ℚ
falling [] = []
falling (x ∷ xs) = insert x (falling xs)

-- no number is above one before it
abbrev pub IsFalling : List ℚ → Type 0
IsFalling [] = Unit {0}
IsFalling (x ∷ xs) = All (λ y. y ≤ℚ x) xs × IsFalling xs

-- what of a number stands above q
abbrev pub above : ℚ → ℚ → ℚ
above q x = rat_max (x -ℚ q) (whole (pos 0))

-- ---- falling order
All-insert : (P : ℚ → Type 0) (x : ℚ) (ys : List ℚ) → P x → All P ys → All P (insert x ys)
All-insert P x [] p h = All-cons P x [] p h
All-insert P x (y ∷ ys) p h = by (rat_le y x) (All-insert P x ys p (All-tail P y ys h))
  where
    by : (b : Bool) → All P (insert x ys) → All P (if b then x ∷ y ∷ ys else y ∷ insert x ys)
    by true k = All-cons P x (y ∷ ys) p h
    by false k = All-cons P y (insert x ys) (All-head P y ys h) k

-- what holds of each number holds in any order
pub All-falling : (P : ℚ → Type 0) (xs : List ℚ) → All P xs → All P (falling xs)
All-falling P [] h = h
All-falling P (x ∷ xs) h = All-insert P x (falling xs) (All-head P x xs h) (All-falling P xs (All-tail P x xs h))

insert-falls : (x : ℚ) (ys : List ℚ) → IsFalling ys → IsFalling (insert x ys)
insert-falls x [] h = (All-nil (λ y. y ≤ℚ x), tt)
insert-falls x (y ∷ ys) h = by (rat_le y x) refl (insert-falls x ys h.1)
  where
    by : (b : Bool) → rat_le y x ≡ b → IsFalling (insert x ys) → IsFalling (if b then x ∷ y ∷ ys else y ∷ insert x ys)
    by true e k =
        let l : y ≤ℚ x = record { le = rw e tt } in
        (All-cons (λ z. z ≤ℚ x) y ys l (All-weaker (λ z. z ≤ℚ y) (λ z. z ≤ℚ x) (λ z p. ≤ℚ_trans p l) ys h.0), h)
    by false e k =
        let l : x ≤ℚ y = ≤ℚ_flip y x (λ (p : y ≤ℚ x). let f = rw e at p.le in absurd f) in
        (All-insert (λ z. z ≤ℚ y) x ys l h.0, k)

pub falling-falls : (xs : List ℚ) → IsFalling (falling xs)
falling-falls [] = tt
falling-falls (x ∷ xs) = insert-falls x (falling xs) (falling-falls xs)

length-insert : (x : ℚ) (ys : List ℚ) → length (insert x ys) ≡ suc (length ys)
length-insert x [] = refl
length-insert x (y ∷ ys) = by (rat_le y x) (length-insert x ys)
  where
    by : (b : Bool) → length (insert x ys) ≡ suc (length ys) → length (if b then x ∷ y ∷ ys else y ∷ insert x ys) ≡ suc (length (y ∷ ys))
    by true e = refl
    by false e = ap suc e

pub length-falling : (xs : List ℚ) → length (falling xs) ≡ length xs
length-falling [] = refl
length-falling (x ∷ xs) = length-insert x (falling xs) ∙ ap suc (length-falling xs)

insert-summed : (f : ℚ → ℚ) (x : ℚ) (ys : List ℚ) → rat_sum_by f (insert x ys) ≡ f x +ℚ rat_sum_by f ys
insert-summed f x [] = refl
insert-summed f x (y ∷ ys) = by (rat_le y x) (insert-summed f x ys)
  where
    by : (b : Bool) → rat_sum_by f (insert x ys) ≡ f x +ℚ rat_sum_by f ys → rat_sum_by f (if b then x ∷ y ∷ ys else y ∷ insert x ys) ≡ f x +ℚ (f y +ℚ rat_sum_by f ys)
    by true e = refl
    by false e = ap (λ z. f y +ℚ z) e ∙ +ℚ_left_comm (f y) (f x) (rat_sum_by f ys)

-- a sum over numbers is the same in falling order
pub falling-summed : (f : ℚ → ℚ) (xs : List ℚ) → rat_sum_by f (falling xs) ≡ rat_sum_by f xs
falling-summed f [] = refl
falling-summed f (x ∷ xs) = insert-summed f x (falling xs) ∙ ap (λ z. f x +ℚ z) (falling-summed f xs)

-- ---- what stands above a level
pub above-nonneg : (q x : ℚ) → IsNonnegative (above q x)
above-nonneg q x = ≤ℚ-rat_max_right (x -ℚ q) (whole (pos 0))

less_same : (q : ℚ) {x y : ℚ} → x ≤ℚ y → x -ℚ q ≤ℚ y -ℚ q
less_same q {x} {y} h = linear (q ∷ x ∷ y ∷ []) h (search reads depth 30) tt

pub above-monotone : (q : ℚ) {x y : ℚ} → x ≤ℚ y → above q x ≤ℚ above q y
above-monotone q {x} {y} h = rat_max-monotone (less_same q h) (≤ℚ_refl (whole (pos 0)))

all-above-nonneg : (q : ℚ) (xs : List ℚ) → IsNonnegative (rat_sum_by (above q) xs)
all-above-nonneg q [] = ≤ℚ_refl (whole (pos 0))
all-above-nonneg q (x ∷ xs) = ≤ℚ_trans (≤ℚ-from_≡ (sym (+ℚ_idl (whole (pos 0))))) (+ℚ-≤ℚ (above-nonneg q x) (all-above-nonneg q xs))

level_and_less : (q x : ℚ) → q +ℚ (x -ℚ q) ≡ x
level_and_less q x = ring (q ∷ x ∷ []) (search reads depth 30) tt

-- a number is at most the level with what stands above it
pub within_level : (q x : ℚ) → x ≤ℚ q +ℚ above q x
within_level q x = ≤ℚ_trans (≤ℚ-from_≡ (sym (level_and_less q x))) (+ℚ-≤ℚ (≤ℚ_refl q) (≤ℚ-rat_max_left (x -ℚ q) (whole (pos 0))))

pub suc_times : (k : ℕ) (q : ℚ) → whole (pos (suc k)) *ℚ q ≡ q +ℚ whole (pos k) *ℚ q
suc_times k q =
    let e : pos (suc k) ≡ pos 1 +ℤ pos k = omega (arith, ints) in
    ap (λ z. whole z *ℚ q) e ∙ ap (λ z. z *ℚ q) (whole-+ℤ (pos 1) (pos k)) ∙ split (whole (pos k)) q
  where
    split : (m q : ℚ) → (whole (pos 1) +ℚ m) *ℚ q ≡ q +ℚ m *ℚ q
    split m q = ring (m ∷ q ∷ []) (search reads depth 30) tt

pub no_times : (q e : ℚ) → e ≡ whole (pos 0) *ℚ q +ℚ e
no_times q e = ring (q ∷ e ∷ []) (search reads depth 30) tt

pub four : (q u c e : ℚ) → (q +ℚ u) +ℚ (c +ℚ e) ≡ (q +ℚ c) +ℚ (u +ℚ e)
four q u c e = ring (q ∷ u ∷ c ∷ e ∷ []) (search reads depth 30) tt

-- any level bounds the sum of k numbers
pub first-≤ : (k : ℕ) (q : ℚ) (xs : List ℚ) → k ≤ length xs → rat_sum (take k xs) ≤ℚ whole (pos k) *ℚ q +ℚ rat_sum_by (above q) xs
first-≤ zero q xs h = ≤ℚ_trans (all-above-nonneg q xs) (≤ℚ-from_≡ (no_times q (rat_sum_by (above q) xs)))
first-≤ (suc k) q [] h = absurd (omega arith)
first-≤ (suc k) q (x ∷ xs) h =
    ≤ℚ_trans (+ℚ-≤ℚ (within_level q x) (first-≤ k q xs (omega arith)))
    (≤ℚ-from_≡ (four q (above q x) (whole (pos k) *ℚ q) (rat_sum_by (above q) xs) ∙ ap (λ z. z +ℚ (above q x +ℚ rat_sum_by (above q) xs)) (sym (suc_times k q))))

less_none : (q x : ℚ) → x ≤ℚ q → x -ℚ q ≤ℚ whole (pos 0)
less_none q x h = linear (q ∷ x ∷ []) h (search reads depth 30) tt

above_low : (q x : ℚ) → x ≤ℚ q → above q x ≡ whole (pos 0)
above_low q x h = rat_max-right (less_none q x h)

above_high : (q x : ℚ) → q ≤ℚ x → above q x ≡ x -ℚ q
above_high q x h = rat_max-left (≤ℚ-difference h)

all_low : (q : ℚ) (xs : List ℚ) → All (λ x. x ≤ℚ q) xs → rat_sum_by (above q) xs ≡ whole (pos 0)
all_low q [] h = refl
all_low q (x ∷ xs) h =
    ap₂ ◌+ℚ◌ (above_low q x (All-head (λ x. x ≤ℚ q) x xs h)) (all_low q xs (All-tail (λ x. x ≤ℚ q) x xs h)) ∙ +ℚ_idl (whole (pos 0))

All-rat_at : (P : ℚ → Type 0) (xs : List ℚ) (i : ℕ) → i < length xs → All P xs → P (rat_at xs i)
All-rat_at P [] i b h = absurd (omega arith)
All-rat_at P (x ∷ xs) zero b h = All-head P x xs h
All-rat_at P (x ∷ xs) (suc i) b h = All-rat_at P xs i (omega arith) (All-tail P x xs h)

once_and_none : (x : ℚ) → whole (pos 1) *ℚ x +ℚ (whole (pos 0) +ℚ whole (pos 0)) ≡ x +ℚ whole (pos 0)
once_and_none x = ring (x ∷ []) (search reads depth 30) tt

-- the level of the last of the k greatest is exact
pub first-is : (k : ℕ) (xs : List ℚ) → k < length xs → IsFalling xs → whole (pos (suc k)) *ℚ rat_at xs k +ℚ rat_sum_by (above (rat_at xs k)) xs ≡ rat_sum (take (suc k) xs)
first-is k [] h f = absurd (omega arith)
first-is zero (x ∷ xs) h f = ap₂ (λ u e. whole (pos 1) *ℚ x +ℚ (u +ℚ e)) (above_low x x (≤ℚ_refl x)) (all_low x xs f.0) ∙ once_and_none x
first-is (suc k) (x ∷ xs) h f =
    let q = rat_at xs k in
    let l : q ≤ℚ x = All-rat_at (λ y. y ≤ℚ x) xs k (omega arith) f.0 in
    ap (λ z. z +ℚ (above q x +ℚ rat_sum_by (above q) xs)) (suc_times (suc k) q) ∙ sym (four q (above q x) (whole (pos (suc k)) *ℚ q) (rat_sum_by (above q) xs))
    ∙ ap₂ ◌+ℚ◌ (ap (λ u. q +ℚ u) (above_high q x l) ∙ level_and_less q x) (first-is k xs (omega arith) f.1)
