-- The coefficients that may reach a variable are in the dual cone of its attribute.
use Rattle.std.proofs.Common.{◌≡◌, inl, inr, ℕ, zero, suc, ◌+◌, ◌*◌, ◌<◌, arith, zero-mul, suc-mul, [], ◌∷◌, sym, ap, ◌∙◌, subst, pos}
use Rattle.std.proofs.lemmas.Bool.{cases_eq}
use Rattle.dcx_math.specs.Rational.{ℚ, whole, ◌+ℚ◌, ◌*ℚ◌, ◌≤ℚ◌}
use Rattle.dcx_math.specs.Sums.{rat_sum_below}
use Rattle.dcx_math.proofs.Ring.{reads}
use Rattle.dcx_math.proofs.Orders.{≤ℚ_trans, ≤ℚ-from_≡, ≤ℚ_total, linear, +ℚ_assoc, +ℚ_idr, +ℚ-*ℚ, zero-*ℚ, *ℚ-zero}
use Rattle.dcx_math.proofs.Products.{*ℚ-nonnegative, *ℚ-nonnegative_both_negative}
use Rattle.dcx_math.proofs.Sums.{rat_sum_below-same, rat_sum_below-+ℚ, rat_sum_below-zero, rat_sum_below-nonnegative, rat_sum_below-exchange}
use Rattle.dcx_shape.specs.declared.shape.Sides.{Sides}
use Rattle.dcx_shape.specs.Sides.{rows_of, cols_of, entries_of}
use Rattle.dcx_shape.specs.Places.{HasEntry}
use Rattle.dcx_shape.proofs.Entries.{entries_are}
use Rattle.dcx_atom.specs.Arrays.{entry_at}
use Rattle.dcx_convex.specs.Nodes.{Attribute, Free, Nonneg, Nonpos, Symmetric, Diag, Numbers, Keeps}
use Rattle.dcx_convex.specs.Certificates.{times, IsInDualCone, MayReach, HasSides}

-- ---- sums along the rows
split : (a b : ℕ) (f : Numbers) → rat_sum_below (a + b) f ≡ rat_sum_below a f +ℚ rat_sum_below b (λ j. f (a + j))
split a zero f = let e : a + 0 ≡ a = omega arith in ap (λ n. rat_sum_below n f) e ∙ sym (+ℚ_idr (rat_sum_below a f))
split a (suc b) f =
    let e : a + suc b ≡ suc (a + b) = omega arith in
    ap (λ n. rat_sum_below n f) e ∙ ap (λ u. u +ℚ f (a + b)) (split a b f) ∙ +ℚ_assoc (rat_sum_below a f) (rat_sum_below b (λ j. f (a + j))) (f (a + b))

by_rows : (m n : ℕ) (f : Numbers) → rat_sum_below (m * n) f ≡ rat_sum_below m (λ i. rat_sum_below n (λ j. f (i * n + j)))
by_rows zero n f = ap (λ k. rat_sum_below k f) (zero-mul n)
by_rows (suc m) n f = ap (λ k. rat_sum_below k f) (suc-mul m n) ∙ split (m * n) n f ∙ ap (λ u. u +ℚ rat_sum_below n (λ j. f (m * n + j))) (by_rows m n f)

-- the sum over the entries, by row and column
by_entries : (sides : Sides) (c x : Numbers) → times (entries_of sides) c x ≡ rat_sum_below (rows_of sides) (λ i. rat_sum_below (cols_of sides) (λ j. entry_at sides c i j *ℚ entry_at sides x i j))
by_entries sides c x = ap (λ n. times n c x) (entries_are sides) ∙ by_rows (rows_of sides) (cols_of sides) (λ e. c e *ℚ x e)

-- a sum of zeros
all_zero : (m n : ℕ) (f : ℕ → Numbers) → ((i j : ℕ) → i < m → j < n → f i j ≡ whole (pos 0)) → rat_sum_below m (λ i. rat_sum_below n (λ j. f i j)) ≡ whole (pos 0)
all_zero m n f h =
    rat_sum_below-same m _ (λ _. whole (pos 0)) (λ i b. rat_sum_below-same n _ (λ _. whole (pos 0)) (λ j d. h i j b d) ∙ rat_sum_below-zero n) ∙ rat_sum_below-zero m

-- ---- symmetric matrices
-- a number whose double is 0 is at least 0
from_double : (x : ℚ) → x +ℚ x ≡ whole (pos 0) → whole (pos 0) ≤ℚ x
from_double x e =
    elim (≤ℚ_total (whole (pos 0)) x) [
      | inl h ↦ h
      | inr h ↦ ≤ℚ_trans (≤ℚ-from_≡ (sym e)) (linear (x ∷ []) h (search reads depth 30) tt)
    ]

pair_zero : (a b x y : ℚ) → a +ℚ b ≡ whole (pos 0) → x ≡ y → a *ℚ x +ℚ b *ℚ y ≡ whole (pos 0)
pair_zero a b x y e f = ap (λ u. a *ℚ x +ℚ b *ℚ u) (sym f) ∙ sym (+ℚ-*ℚ a b x) ∙ ap (λ u. u *ℚ x) e ∙ zero-*ℚ x

symmetric_zero : (n : ℕ) (c x : ℕ → Numbers) → ((i j : ℕ) → i < n → j < n → c i j +ℚ c j i ≡ whole (pos 0)) → ((i j : ℕ) → i < n → j < n → x i j ≡ x j i) →
    whole (pos 0) ≤ℚ rat_sum_below n (λ i. rat_sum_below n (λ j. c i j *ℚ x i j))
symmetric_zero n c x h k =
    let s = rat_sum_below n (λ i. rat_sum_below n (λ j. c i j *ℚ x i j)) in
    from_double s
    (ap (λ u. s +ℚ u) (rat_sum_below-exchange n n (λ i j. c i j *ℚ x i j))
    ∙ sym (rat_sum_below-+ℚ n (λ i. rat_sum_below n (λ j. c i j *ℚ x i j)) (λ i. rat_sum_below n (λ j. c j i *ℚ x j i)))
    ∙ rat_sum_below-same n _ (λ i. rat_sum_below n (λ j. c i j *ℚ x i j +ℚ c j i *ℚ x j i)) (λ i b. sym (rat_sum_below-+ℚ n (λ j. c i j *ℚ x i j) (λ j. c j i *ℚ x j i)))
    ∙ all_zero n n (λ i j. c i j *ℚ x i j +ℚ c j i *ℚ x j i) (λ i j b d. pair_zero (c i j) (c j i) (x i j) (x j i) (h i j b d) (k i j b d)))

diagonal_zero : (sides : Sides) (c x : Numbers) → MayReach Diag sides c → Keeps Diag sides x → (i j : ℕ) → HasEntry sides i j → entry_at sides c i j *ℚ entry_at sides x i j ≡ whole (pos 0)
diagonal_zero sides c x h k i j entry =
    elim (cases_eq i j) [
      | inl e ↦ ap (λ u. u *ℚ entry_at sides x i j) (subst (λ w. entry_at sides c i w ≡ whole (pos 0)) e (h i (subst (λ w. HasEntry sides i w) (sym e) entry))) ∙ zero-*ℚ (entry_at sides x i j)
      | inr d ↦ ap (λ u. entry_at sides c i j *ℚ u) (k i j entry d) ∙ *ℚ-zero (entry_at sides c i j)
    ]

pub dual : (attribute : Attribute) (sides : Sides) (c : Numbers) → HasSides attribute sides → MayReach attribute sides c → IsInDualCone attribute sides c
dual Free sides c shape h x k = rat_sum_below-nonnegative (entries_of sides) (λ e. c e *ℚ x e) (λ j b. ≤ℚ-from_≡ (sym (ap (λ u. u *ℚ x j) (h j b) ∙ zero-*ℚ (x j))))
dual Nonneg sides c shape h x k = rat_sum_below-nonnegative (entries_of sides) (λ e. c e *ℚ x e) (λ j b. *ℚ-nonnegative (h j b) (k j b))
dual Nonpos sides c shape h x k = rat_sum_below-nonnegative (entries_of sides) (λ e. c e *ℚ x e) (λ j b. *ℚ-nonnegative_both_negative (h j b) (k j b))
dual Symmetric sides c shape h x k =
    subst (λ u. whole (pos 0) ≤ℚ u)
    (ap (λ n. rat_sum_below n (λ i. rat_sum_below (cols_of sides) (λ j. entry_at sides c i j *ℚ entry_at sides x i j))) (sym shape) ∙ sym (by_entries sides c x))
    (symmetric_zero (cols_of sides) (entry_at sides c) (entry_at sides x)
    (λ i j b d. h i j (record { row = subst (λ n. i < n) (sym shape) b; column = d })) (λ i j b d. k i j (record { row = subst (λ n. i < n) (sym shape) b; column = d })))
dual Diag sides c shape h x k =
    ≤ℚ-from_≡ (sym (by_entries sides c x ∙ all_zero (rows_of sides) (cols_of sides) (λ i j. entry_at sides c i j *ℚ entry_at sides x i j)
    (λ i j b d. diagonal_zero sides c x h k i j (record { row = b; column = d }))))
