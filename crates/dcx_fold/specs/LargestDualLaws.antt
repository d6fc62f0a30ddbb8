-- The sum of the k largest entries, and of the k smallest: weights that let no unknown lower the sum meet the conditions.
use Rattle.std.proofs.Common.{◌≡◌, ℕ, zero, suc, ◌<◌, arith, List, [], ◌∷◌, ◌++◌, map, All, replicate, sym, ap, ap₂, ◌∙◌, subst, pos, negsuc}
use Rattle.std.proofs.lemmas.List.Elements.{All-cons, All-nil, All-head, All-tail}
use Rattle.dcx_math.specs.Rational.{ℚ, whole, neg_ℚ, ◌+ℚ◌, ◌*ℚ◌, ◌≤ℚ◌}
use Rattle.dcx_math.specs.Sums.{IsNonnegative, rat_sum_below}
use Rattle.dcx_math.proofs.Ring.{ring, reads}
use Rattle.dcx_math.proofs.Orders.{≤ℚ_refl, ≤ℚ_antisym, +ℚ_idl, +ℚ_idr, linear}
use Rattle.dcx_math.proofs.Sums.{rat_sum_below-same, rat_sum_below-zero}
use Rattle.dcx_shape.specs.Sides.{entries_of}
use Rattle.dcx_atom.specs.declared.flags.Bend.{Bend}
use Rattle.dcx_atom.specs.declared.flags.Bend.TheVariants.{Convex, Concave}
use Rattle.dcx_atom.specs.declared.graph.AuxKind.TheVariants.{Free, Nonneg}
use Rattle.dcx_atom.specs.Arrays.{list_below, sides_at}
use Rattle.dcx_atom.specs.Rows.{Filling, row_at, form_at, KindsHold, weighted}
use Rattle.dcx_atom.specs.Meaning.{IsMet}
use Rattle.dcx_atom.specs.Bounding.{outward}
use Rattle.dcx_atom.specs.Duality.{no_entries, AreDemanded, HasDualGraph}
use Rattle.dcx_atom.proofs.LinearSums.{All-list_below}
use Rattle.dcx_atom.proofs.BoundRows.{map-list_below, weighted-list_below, form-list_below, rat_sum-list_below}
use Rattle.dcx_atom.proofs.Units.{only_at, at_itself, at_other, one_nonnegative, only_nonnegative, one_left}
use Rattle.dcx_fold.specs.Largest.{level_row, level_form, each_condition, sum_condition, level_conditions, largest_meaning}
use Rattle.dcx_fold.specs.LargestLaws.{is_chosen, row_slopes}

-- ---- what the unknowns leave
-- of the level, and of the unknown of an entry
abbrev level_part : Bend → ℚ → ℚ → ℚ → ℚ → ℚ
level_part Convex c m s q = c *ℚ (m *ℚ q) +ℚ neg_ℚ (s *ℚ q)
level_part Concave c m s q = c *ℚ (m *ℚ q) +ℚ s *ℚ q

abbrev entry_part : Bend → ℚ → ℚ → ℚ → ℚ
entry_part Convex c w v = (c +ℚ neg_ℚ w) *ℚ v
entry_part Concave c w v = (neg_ℚ c +ℚ neg_ℚ w) *ℚ v

convex_start : (c m q : ℚ) → c *ℚ (m *ℚ q +ℚ whole (pos 0)) +ℚ whole (pos 0) ≡ c *ℚ (m *ℚ q) +ℚ neg_ℚ (whole (pos 0) *ℚ q) +ℚ whole (pos 0)
convex_start c m q = ring (c ∷ m ∷ q ∷ []) (search reads depth 30) tt

concave_start : (c m q : ℚ) → c *ℚ (m *ℚ q +ℚ whole (pos 0)) +ℚ whole (pos 0) ≡ c *ℚ (m *ℚ q) +ℚ whole (pos 0) *ℚ q +ℚ whole (pos 0)
concave_start c m q = ring (c ∷ m ∷ q ∷ []) (search reads depth 30) tt

convex_more : (c m u q r w v s z : ℚ) → c *ℚ (m +ℚ u) +ℚ r ≡ c *ℚ m +ℚ neg_ℚ (s *ℚ q) +ℚ z →
    c *ℚ (m +ℚ (u +ℚ whole (pos 1) *ℚ v)) +ℚ (r +ℚ w *ℚ (whole (pos 1) *ℚ whole (pos 0) +ℚ (whole (negsuc 0) *ℚ q +ℚ (whole (negsuc 0) *ℚ v +ℚ whole (pos 0)))))
    ≡ c *ℚ m +ℚ neg_ℚ ((s +ℚ w) *ℚ q) +ℚ (z +ℚ (c +ℚ neg_ℚ w) *ℚ v)
convex_more c m u q r w v s z h = spread c m u q r w v ∙ ap (λ x. x +ℚ (neg_ℚ (w *ℚ q) +ℚ (c +ℚ neg_ℚ w) *ℚ v)) h ∙ gather c m q w v s z
  where
    spread : (c m u q r w v : ℚ) →
        c *ℚ (m +ℚ (u +ℚ whole (pos 1) *ℚ v)) +ℚ (r +ℚ w *ℚ (whole (pos 1) *ℚ whole (pos 0) +ℚ (whole (negsuc 0) *ℚ q +ℚ (whole (negsuc 0) *ℚ v +ℚ whole (pos 0)))))
        ≡ c *ℚ (m +ℚ u) +ℚ r +ℚ (neg_ℚ (w *ℚ q) +ℚ (c +ℚ neg_ℚ w) *ℚ v)
    spread c m u q r w v = ring (c ∷ m ∷ u ∷ q ∷ r ∷ w ∷ v ∷ []) (search reads depth 40 fits 20000) tt

    gather : (c m q w v s z : ℚ) → c *ℚ m +ℚ neg_ℚ (s *ℚ q) +ℚ z +ℚ (neg_ℚ (w *ℚ q) +ℚ (c +ℚ neg_ℚ w) *ℚ v) ≡ c *ℚ m +ℚ neg_ℚ ((s +ℚ w) *ℚ q) +ℚ (z +ℚ (c +ℚ neg_ℚ w) *ℚ v)
    gather c m q w v s z = ring (c ∷ m ∷ q ∷ w ∷ v ∷ s ∷ z ∷ []) (search reads depth 40 fits 20000) tt

concave_more : (c m u q r w v s z : ℚ) → c *ℚ (m +ℚ u) +ℚ r ≡ c *ℚ m +ℚ s *ℚ q +ℚ z →
    c *ℚ (m +ℚ (u +ℚ neg_ℚ (whole (pos 1)) *ℚ v)) +ℚ (r +ℚ w *ℚ (whole (pos 1) *ℚ q +ℚ (whole (negsuc 0) *ℚ v +ℚ (whole (negsuc 0) *ℚ whole (pos 0) +ℚ whole (pos 0)))))
    ≡ c *ℚ m +ℚ (s +ℚ w) *ℚ q +ℚ (z +ℚ (neg_ℚ c +ℚ neg_ℚ w) *ℚ v)
concave_more c m u q r w v s z h = spread c m u q r w v ∙ ap (λ x. x +ℚ (w *ℚ q +ℚ (neg_ℚ c +ℚ neg_ℚ w) *ℚ v)) h ∙ gather c m q w v s z
  where
    spread : (c m u q r w v : ℚ) →
        c *ℚ (m +ℚ (u +ℚ neg_ℚ (whole (pos 1)) *ℚ v)) +ℚ (r +ℚ w *ℚ (whole (pos 1) *ℚ q +ℚ (whole (negsuc 0) *ℚ v +ℚ (whole (negsuc 0) *ℚ whole (pos 0) +ℚ whole (pos 0)))))
        ≡ c *ℚ (m +ℚ u) +ℚ r +ℚ (w *ℚ q +ℚ (neg_ℚ c +ℚ neg_ℚ w) *ℚ v)
    spread c m u q r w v = ring (c ∷ m ∷ u ∷ q ∷ r ∷ w ∷ v ∷ []) (search reads depth 40 fits 20000) tt

    gather : (c m q w v s z : ℚ) → c *ℚ m +ℚ s *ℚ q +ℚ z +ℚ (w *ℚ q +ℚ (neg_ℚ c +ℚ neg_ℚ w) *ℚ v) ≡ c *ℚ m +ℚ (s +ℚ w) *ℚ q +ℚ (z +ℚ (neg_ℚ c +ℚ neg_ℚ w) *ℚ v)
    gather c m q w v s z = ring (c ∷ m ∷ q ∷ w ∷ v ∷ s ∷ z ∷ []) (search reads depth 40 fits 20000) tt

parts_are : (bend : Bend) (n : ℕ) (c m : ℚ) (w : ℕ → ℚ) (t : Filling) →
    c *ℚ (m *ℚ t 0 +ℚ rat_sum_below n (λ i. outward bend (whole (pos 1)) *ℚ t (suc i))) +ℚ rat_sum_below n (λ i. w i *ℚ row_at (level_row bend i) no_entries t)
    ≡ level_part bend c m (rat_sum_below n w) (t 0) +ℚ rat_sum_below n (λ i. entry_part bend c (w i) (t (suc i)))
parts_are Convex zero c m w t = convex_start c m (t 0)
parts_are Concave zero c m w t = concave_start c m (t 0)
parts_are Convex (suc n) c m w t = convex_more c (m *ℚ t 0) _ (t 0) _ (w n) (t (suc n)) (rat_sum_below n w) _ (parts_are Convex n c m w t)
parts_are Concave (suc n) c m w t = concave_more c (m *ℚ t 0) _ (t 0) _ (w n) (t (suc n)) (rat_sum_below n w) _ (parts_are Concave n c m w t)

all_over : (bend : Bend) (k n : ℕ) (c : ℚ) (w : ℕ → ℚ) (t : Filling) →
    c *ℚ form_at (level_form bend k n) t +ℚ weighted (list_below n (level_row bend)) w no_entries t
    ≡ level_part bend c (whole (pos k)) (rat_sum_below n w) (t 0) +ℚ rat_sum_below n (λ i. entry_part bend c (w i) (t (suc i)))
all_over bend k n c w t =
    ap₂ (λ x y. c *ℚ (whole (pos k) *ℚ t 0 +ℚ x) +ℚ y) (form-list_below n (λ i. record { aux = suc i; coefficient = outward bend (whole (pos 1)) }) t)
    (weighted-list_below n (level_row bend) w no_entries t)
    ∙ parts_are bend n c (whole (pos k)) w t

level_nothing : (bend : Bend) (c m s : ℚ) → level_part bend c m s (whole (pos 0)) ≡ whole (pos 0)
level_nothing Convex c m s = ring (c ∷ m ∷ s ∷ []) (search reads depth 30) tt
level_nothing Concave c m s = ring (c ∷ m ∷ s ∷ []) (search reads depth 30) tt

entry_nothing : (bend : Bend) (c w : ℚ) → entry_part bend c w (whole (pos 0)) ≡ whole (pos 0)
entry_nothing Convex c w = ring (c ∷ w ∷ []) (search reads depth 30) tt
entry_nothing Concave c w = ring (c ∷ w ∷ []) (search reads depth 30) tt

entry_most : (bend : Bend) (c w : ℚ) → IsNonnegative (entry_part bend c w (whole (pos 1))) → w ≤ℚ outward bend c
entry_most Convex c w h = linear (c ∷ w ∷ []) h (search reads depth 30) tt
entry_most Concave c w h = linear (c ∷ w ∷ []) h (search reads depth 30) tt

convex_up : (c m s : ℚ) → IsNonnegative (level_part Convex c m s (whole (pos 1))) → s ≤ℚ m *ℚ c
convex_up c m s h = linear (c ∷ m ∷ s ∷ []) h (search reads depth 30) tt

convex_down : (c m s : ℚ) → IsNonnegative (level_part Convex c m s (whole (negsuc 0))) → m *ℚ c ≤ℚ s
convex_down c m s h = linear (c ∷ m ∷ s ∷ []) h (search reads depth 30) tt

concave_up : (c m s : ℚ) → IsNonnegative (level_part Concave c m s (whole (pos 1))) → neg_ℚ m *ℚ c ≤ℚ s
concave_up c m s h = linear (c ∷ m ∷ s ∷ []) h (search reads depth 30) tt

concave_down : (c m s : ℚ) → IsNonnegative (level_part Concave c m s (whole (negsuc 0))) → s ≤ℚ neg_ℚ m *ℚ c
concave_down c m s h = linear (c ∷ m ∷ s ∷ []) h (search reads depth 30) tt

level_met : (bend : Bend) (c m s : ℚ) → IsNonnegative (level_part bend c m s (whole (pos 1))) → IsNonnegative (level_part bend c m s (whole (negsuc 0))) → s ≡ outward bend m *ℚ c
level_met Convex c m s h k = ≤ℚ_antisym (convex_up c m s h) (convex_down c m s k)
level_met Concave c m s h k = ≤ℚ_antisym (concave_down c m s k) (concave_up c m s h)

-- ---- the conditions
-- the level's unknown is free
level_free : (n : ℕ) (x : ℚ) → KindsHold (Free ∷ replicate n Nonneg) (only_at 0 x)
level_free n x zero e = cc
level_free n x (suc i) e = subst IsNonnegative (sym (at_other 0 x (suc i) (λ q. absurd (omega (arith, q))))) (≤ℚ_refl (whole (pos 0)))

All-both : {A : Type 0} (P : A → Type 0) (xs ys : List A) → All P xs → All P ys → All P (xs ++ ys)
All-both P [] ys h k = k
All-both P (x ∷ xs) ys h k = All-cons P x (xs ++ ys) (All-head P x xs h) (All-both P xs ys (All-tail P x xs h) k)

conditions_met : (bend : Bend) (k n : ℕ) (c : ℚ) (w : ℕ → ℚ) →
    ((t : Filling) → KindsHold (Free ∷ replicate n Nonneg) t → IsNonnegative (c *ℚ form_at (level_form bend k n) t +ℚ weighted (list_below n (level_row bend)) w no_entries t)) →
    All IsMet (level_conditions bend k c (list_below n w))
conditions_met bend k n c w left =
    let s = rat_sum_below n w in
    let m = whole (pos k) in
    let entries = λ (t : Filling). rat_sum_below n (λ i. entry_part bend c (w i) (t (suc i))) in
    let level : (x : ℚ) → IsNonnegative (level_part bend c m s x) =
    λ x. subst IsNonnegative
    (all_over bend k n c w (only_at 0 x)
    ∙ ap₂ (λ y z. level_part bend c m s y +ℚ z) (at_itself 0 x)
    (rat_sum_below-same n (λ i. entry_part bend c (w i) (only_at 0 x (suc i))) (λ i. whole (pos 0))
    (λ i b. ap (entry_part bend c (w i)) (at_other 0 x (suc i) (λ q. absurd (omega (arith, q)))) ∙ entry_nothing bend c (w i)) ∙ rat_sum_below-zero n)
    ∙ +ℚ_idr _)
    (left (only_at 0 x) (level_free n x)) in
    let each : (i : ℕ) → i < n → w i ≤ℚ outward bend c =
    λ i b.
    let t = only_at (suc i) (whole (pos 1)) in
    let part = λ (e : ℕ). entry_part bend c (w e) (t (suc e)) in
    let all = subst IsNonnegative
    (all_over bend k n c w t ∙ ap (λ y. level_part bend c m s y +ℚ entries t) (at_other (suc i) (whole (pos 1)) 0 (λ q. absurd (omega (arith, q))))
    ∙ ap (λ y. y +ℚ entries t) (level_nothing bend c m s) ∙ +ℚ_idl _)
    (left t (λ k e. only_nonnegative (suc i) (whole (pos 1)) one_nonnegative k)) in
    let own = one_left n i part b (λ e l d. ap (entry_part bend c (w e)) (at_other (suc i) (whole (pos 1)) (suc e) (λ q. d (omega (arith, q)))) ∙ entry_nothing bend c (w e)) all in
    entry_most bend c (w i) (subst IsNonnegative (ap (entry_part bend c (w i)) (at_itself (suc i) (whole (pos 1)))) own) in
    All-both IsMet (map (each_condition bend c) (list_below n w)) (sum_condition bend k c (list_below n w) ∷ [])
    (subst (All IsMet) (sym (map-list_below n w (each_condition bend c))) (All-list_below IsMet n (λ i. each_condition bend c (w i)) each))
    (All-cons IsMet (sum_condition bend k c (list_below n w)) [] (rat_sum-list_below n w ∙ level_met bend c m s (level (whole (pos 1))) (level (whole (negsuc 0)))) (All-nil IsMet))

demanded : (bend : Bend) (k : ℕ) → AreDemanded (largest_meaning bend k)
demanded bend k args sides is c w left j b =
    let n = entries_of (sides_at args 0) in
    let f = is_chosen k args sides is in
    let one : entries_of sides ≡ 1 = ap entries_of f.is in
    let first : j ≡ 0 = omega (arith, b, one) in
    subst (λ i. All IsMet (level_conditions bend k (c i) (list_below n (w i)))) (sym first)
    (conditions_met bend k n (c 0) (w 0) (λ t kinds.
    subst IsNonnegative (ap (λ size. rat_sum_below size (λ j. c j *ℚ form_at (level_form bend k n) t +ℚ weighted (list_below n (level_row bend)) (w j) no_entries t)) one ∙ +ℚ_idl _) (left t kinds)))

pub largest_duality : (bend : Bend) (k : ℕ) → HasDualGraph (largest_meaning bend k)
largest_duality bend k = record { slopes = row_slopes bend k; demanded = demanded bend k }
