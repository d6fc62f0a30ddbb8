-- The running maximum: weights that let no unknown lower the sum meet the conditions.
use Rattle.std.proofs.Common.{◌≡◌, ℕ, zero, suc, ◌<◌, arith, [], ◌∷◌, refl, sym, ap, ◌∙◌, subst, pos, negsuc}
use Rattle.std.proofs.lemmas.List.Elements.{All-cons, All-nil}
use Rattle.dcx_math.specs.Rational.{ℚ, whole, neg_ℚ, ◌+ℚ◌, ◌-ℚ◌, ◌*ℚ◌, ◌≤ℚ◌}
use Rattle.dcx_math.specs.Sums.{IsNonnegative, rat_sum, rat_sum_below}
use Rattle.dcx_math.proofs.Ring.{ring, reads}
use Rattle.dcx_math.proofs.Orders.{≤ℚ_antisym, linear, *ℚ-zero}
use Rattle.dcx_shape.specs.declared.shape.Sides.TheVariants.{Scalar, Vector, Matrix}
use Rattle.dcx_shape.specs.Sides.{entries_of}
use Rattle.dcx_atom.specs.Rows.{Filling, form_at, weighted}
use Rattle.dcx_atom.specs.Meaning.{IsMet}
use Rattle.dcx_atom.specs.Bounding.{unknown_form, free_kinds}
use Rattle.dcx_atom.specs.Duality.{no_entries, AreDemanded, HasDualGraph}
use Rattle.dcx_atom.proofs.Units.{only_at, at_itself, at_other, one_left}
use Rattle.dcx_fold.specs.Running.{running_rows, own_weights, running_condition, running_meaning}
use Rattle.dcx_fold.specs.RunningLaws.{row_slopes, carry, carry_on, carry_none, left_of}

-- ---- what the unknowns leave
-- what unknown j leaves in all
own_part : ℕ → (ℕ → ℚ) → (ℕ → ℕ → ℚ) → Filling → ℕ → ℚ
own_part n c w t j = ((c j +ℚ carry n w j) -ℚ rat_sum (own_weights j (w j))) *ℚ t j

first_left : (c w v t : ℚ) →
    whole (pos 0) +ℚ (c *ℚ (whole (pos 1) *ℚ t +ℚ whole (pos 0)) +ℚ (w *ℚ (whole (pos 1) *ℚ whole (pos 0) +ℚ (whole (negsuc 0) *ℚ t +ℚ whole (pos 0))) +ℚ whole (pos 0)))
    ≡ whole (pos 0) +ℚ ((c +ℚ v) -ℚ (w +ℚ whole (pos 0))) *ℚ t +ℚ neg_ℚ (v *ℚ t)
first_left c w v t = ring (c ∷ w ∷ v ∷ t ∷ []) (search reads depth 40 fits 20000) tt

next_left : (c w u v s t z : ℚ) →
    z +ℚ neg_ℚ (u *ℚ s) +ℚ (c *ℚ (whole (pos 1) *ℚ t +ℚ whole (pos 0)) +ℚ (w *ℚ (whole (pos 1) *ℚ whole (pos 0) +ℚ (whole (negsuc 0) *ℚ t +ℚ whole (pos 0)))
    +ℚ (u *ℚ (whole (pos 1) *ℚ s +ℚ (whole (negsuc 0) *ℚ t +ℚ whole (pos 0))) +ℚ whole (pos 0))))
    ≡ z +ℚ ((c +ℚ v) -ℚ (w +ℚ (u +ℚ whole (pos 0)))) *ℚ t +ℚ neg_ℚ (v *ℚ t)
next_left c w u v s t z = ring (c ∷ w ∷ u ∷ v ∷ s ∷ t ∷ z ∷ []) (search reads depth 40 fits 30000) tt

-- what is left of the first entries is what their unknowns leave, less the part that is carried on
left_so_far : (n m : ℕ) (c : ℕ → ℚ) (w : ℕ → ℕ → ℚ) (t : Filling) → m < n → rat_sum_below (suc m) (left_of c w t) ≡ rat_sum_below (suc m) (own_part n c w t) +ℚ neg_ℚ (carry n w m *ℚ t m)
unfolding left_of own_part
left_so_far n zero c w t h = first_left (c 0) (w 0 0) (carry n w 0) (t 0)
left_so_far n (suc m) c w t h =
    ap (λ x. x +ℚ left_of c w t (suc m)) (left_so_far n m c w t (omega arith) ∙ ap (λ v. rat_sum_below (suc m) (own_part n c w t) +ℚ neg_ℚ (v *ℚ t m)) (carry_on n m w h))
    ∙ next_left (c (suc m)) (w (suc m) 0) (w (suc m) 1) (carry n w (suc m)) (t m) (t (suc m)) (rat_sum_below (suc m) (own_part n c w t))

zero_carry : (z t : ℚ) → z +ℚ neg_ℚ (whole (pos 0) *ℚ t) ≡ z
zero_carry z t = ring (z ∷ t ∷ []) (search reads depth 30) tt

all_left : (n : ℕ) (c : ℕ → ℚ) (w : ℕ → ℕ → ℚ) (t : Filling) → rat_sum_below n (left_of c w t) ≡ rat_sum_below n (own_part n c w t)
all_left zero c w t = refl
all_left (suc m) c w t =
    left_so_far (suc m) m c w t (omega arith) ∙ ap (λ v. rat_sum_below (suc m) (own_part (suc m) c w t) +ℚ neg_ℚ (v *ℚ t m)) (carry_none m w) ∙ zero_carry _ (t m)

most_of : (c v s : ℚ) → IsNonnegative (((c +ℚ v) -ℚ s) *ℚ whole (pos 1)) → s ≤ℚ c +ℚ v
most_of c v s h = linear (c ∷ v ∷ s ∷ []) h (search reads depth 30) tt

least_of : (c v s : ℚ) → IsNonnegative (((c +ℚ v) -ℚ s) *ℚ whole (negsuc 0)) → c +ℚ v ≤ℚ s
least_of c v s h = linear (c ∷ v ∷ s ∷ []) h (search reads depth 30) tt

-- an unknown alone leaves nothing
condition_met : (n : ℕ) (c : ℕ → ℚ) (w : ℕ → ℕ → ℚ) → ((t : Filling) → IsNonnegative (rat_sum_below n (left_of c w t))) → (j : ℕ) → j < n →
    rat_sum (own_weights j (w j)) ≡ c j +ℚ carry n w j
unfolding own_part
condition_met n c w left j b =
    let at : (x : ℚ) → IsNonnegative (((c j +ℚ carry n w j) -ℚ rat_sum (own_weights j (w j))) *ℚ x) =
    λ x.
    let t = only_at j x in
    subst IsNonnegative (ap (λ y. ((c j +ℚ carry n w j) -ℚ rat_sum (own_weights j (w j))) *ℚ y) (at_itself j x))
    (one_left n j (own_part n c w t) b
    (λ i l d. ap (λ y. ((c i +ℚ carry n w i) -ℚ rat_sum (own_weights i (w i))) *ℚ y) (at_other j x i d) ∙ *ℚ-zero _)
    (subst IsNonnegative (all_left n c w t) (left t))) in
    ≤ℚ_antisym (most_of (c j) (carry n w j) _ (at (whole (pos 1)))) (least_of (c j) (carry n w j) _ (at (whole (negsuc 0))))

demanded : AreDemanded running_meaning
unfolding carry left_of
demanded [] sides is c w left j b = cc
demanded (Scalar ∷ []) sides is c w left j b = cc
demanded (Vector n ∷ []) sides is c w left j b =
    let e : Vector n ≡ sides = cc in
    All-cons IsMet (running_condition n (c j) w j) []
    (condition_met n c w (λ t. subst (λ s. IsNonnegative (rat_sum_below (entries_of s) (λ j. c j *ℚ form_at (unknown_form j) t +ℚ weighted (running_rows j) (w j) no_entries t))) (sym e)
    (left t (λ k z. absurd (free_kinds n k z)))) j (subst (λ s. j < entries_of s) (sym e) b)) (All-nil IsMet)
demanded (Matrix m n ∷ []) sides is c w left j b = cc
demanded (s ∷ r ∷ rs) sides is c w left j b = cc

pub running_duality : HasDualGraph running_meaning
running_duality = record { slopes = row_slopes; demanded = demanded }
