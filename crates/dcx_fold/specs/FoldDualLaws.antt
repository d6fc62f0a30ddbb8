-- The greatest and the least entry of each group, and its norms: weights that let no unknown lower the sum meet the conditions.
use Rattle.std.proofs.Common.{◌≡◌, ◌≢◌, ℕ, ◌+◌, ◌*◌, ◌/◌, ◌<◌, arith, [], ◌∷◌, All, replicate, refl, sym, ap, ap₂, ◌∙◌, subst, pos, negsuc}
use Rattle.std.proofs.lemmas.Nat.{div-mul-add}
use Rattle.std.proofs.lemmas.List.Elements.{All-cons, All-nil}
use Rattle.dcx_math.specs.Rational.{ℚ, whole, neg_ℚ, ◌+ℚ◌, ◌*ℚ◌, ◌≤ℚ◌}
use Rattle.dcx_math.specs.Sums.{IsNonnegative, rat_sum, rat_sum_below}
use Rattle.dcx_math.proofs.Ring.{ring, reads}
use Rattle.dcx_math.proofs.Orders.{linear}
use Rattle.dcx_math.proofs.Sums.{rat_sum_below-same, rat_sum_below-zero, rat_sum_below-*ℚ, rat_sum_below-+ℚ}
use Rattle.dcx_shape.specs.declared.shape.Sides.{Sides}
use Rattle.dcx_shape.specs.Sides.{entries_of}
use Rattle.dcx_atom.specs.declared.axis.Axis.{Axis}
use Rattle.dcx_atom.specs.declared.graph.AuxKind.TheVariants.{Free, Nonneg}
use Rattle.dcx_atom.specs.Axis.{folded_count}
use Rattle.dcx_atom.specs.Arrays.{list_below, sides_at}
use Rattle.dcx_atom.specs.Rows.{Filling, form_at, KindsHold, weighted}
use Rattle.dcx_atom.specs.Meaning.{IsMet}
use Rattle.dcx_atom.specs.Bounding.{outward, unknown_form, total_condition, free_kinds}
use Rattle.dcx_atom.specs.Duality.{no_entries, AreDemanded, HasDualGraph}
use Rattle.dcx_atom.proofs.LinearSums.{All-list_below}
use Rattle.dcx_atom.proofs.BoundRows.{taken, form-list_below}
use Rattle.dcx_atom.proofs.Units.{only_at, at_itself, at_other, one_nonnegative, only_nonnegative, one_left, left_over, nothing_over, at_most_of, level_of}
use Rattle.dcx_fold.specs.declared.folding.Fold.{Fold}
use Rattle.dcx_fold.specs.declared.folding.Fold.TheVariants.{Max, Min, Norm1, NormInf}
use Rattle.dcx_fold.specs.Groups.{groups}
use Rattle.dcx_fold.specs.Folds.{fold_bend, member_rows, member_weights, unknown_of, unknowns_form, group_rows, group_form, fold_meaning}
use Rattle.dcx_fold.specs.FoldLaws.{row_slopes, taken_of_group, all_taken, all_weights}

-- ---- one unknown for a group
record IsShared (p : Fold) : Type 0 where
  unknown : (n k i : ℕ) → unknown_of p n k i ≡ k
  form : (n k : ℕ) → group_form p n k ≡ unknown_form k

module _ (p : Fold) (shared : IsShared p) (axis : Axis) (s : Sides) where
  abbrev n : ℕ
  n = folded_count axis s

  abbrev group_sum : (ℕ → ℚ) → ℚ
  group_sum w = rat_sum (list_below (n * member_rows p) w)

  -- what the unknown leaves
  abbrev over : (ℕ → ℚ) → (ℕ → ℕ → ℚ) → Filling → ℕ → ℚ
  over c w t k = c k *ℚ form_at (group_form p n k) t +ℚ weighted (group_rows p axis s k) (w k) no_entries t

  group_over : (c : ℕ → ℚ) (w : ℕ → ℕ → ℚ) (t : Filling) (k : ℕ) → over c w t k ≡ left_over (fold_bend p) (c k) (group_sum (w k)) (t k)
  group_over c w t k =
      let sum = λ (i : ℕ). rat_sum (list_below (member_rows p) (member_weights p (w k) i)) in
      ap₂ (λ f v. c k *ℚ form_at f t +ℚ v) (shared.form n k)
      (taken_of_group p axis s k (w k) t
      ∙ rat_sum_below-same n (λ i. taken (fold_bend p) (sum i) (t (unknown_of p n k i))) (λ i. taken (fold_bend p) (sum i) (t k))
      (λ i b. ap (λ u. taken (fold_bend p) (sum i) (t u)) (shared.unknown n k i))
      ∙ all_taken (fold_bend p) n sum (t k) ∙ ap (λ z. taken (fold_bend p) z (t k)) (all_weights p n (w k)))

  -- what is left at one unknown alone
  here : (size : ℕ) (c : ℕ → ℚ) (w : ℕ → ℕ → ℚ) (j : ℕ) (x : ℚ) → j < size → IsNonnegative (rat_sum_below size (over c w (only_at j x))) →
      IsNonnegative (left_over (fold_bend p) (c j) (group_sum (w j)) x)
  here size c w j x b h =
      let none : (i : ℕ) → i < size → i ≢ j → over c w (only_at j x) i ≡ whole (pos 0) =
      λ i l d. group_over c w (only_at j x) i ∙ ap (left_over (fold_bend p) (c i) (group_sum (w i))) (at_other j x i d) ∙ nothing_over (fold_bend p) (c i) (group_sum (w i)) in
      subst IsNonnegative (group_over c w (only_at j x) j ∙ ap (left_over (fold_bend p) (c j) (group_sum (w j))) (at_itself j x)) (one_left size j (over c w (only_at j x)) b none h)

  free_demanded : (count size : ℕ) (c : ℕ → ℚ) (w : ℕ → ℕ → ℚ) → ((t : Filling) → KindsHold (replicate count Free) t → IsNonnegative (rat_sum_below size (over c w t))) →
      (j : ℕ) → j < size → All IsMet (total_condition Free (outward (fold_bend p) (c j)) (list_below (n * member_rows p) (w j)) ∷ [])
  free_demanded count size c w left j b =
      let at = λ (x : ℚ). here size c w j x b (left (only_at j x) (λ k e. absurd (free_kinds count k e))) in
      All-cons IsMet (total_condition Free (outward (fold_bend p) (c j)) (list_below (n * member_rows p) (w j))) []
      (level_of (fold_bend p) (c j) (group_sum (w j)) (at (whole (pos 1))) (at (whole (negsuc 0)))) (All-nil IsMet)

max_shared : IsShared Max
max_shared = record { unknown = λ n k i. refl; form = λ n k. refl }

min_shared : IsShared Min
min_shared = record { unknown = λ n k i. refl; form = λ n k. refl }

norm_inf_shared : IsShared NormInf
norm_inf_shared = record { unknown = λ n k i. refl; form = λ n k. refl }

-- ---- an unknown for each member
abbrev member_sum : (ℕ → ℚ) → ℕ → ℚ
member_sum w i = rat_sum (list_below 2 (member_weights Norm1 w i))

-- what a member's unknown leaves
abbrev member_left : ℚ → ℚ → ℚ → ℚ
member_left c s t = c *ℚ (whole (pos 1) *ℚ t) +ℚ neg_ℚ (s *ℚ t)

member_nothing : (c s : ℚ) → member_left c s (whole (pos 0)) ≡ whole (pos 0)
member_nothing c s = ring (c ∷ s ∷ []) (search reads depth 30) tt

member_most : (c s : ℚ) → IsNonnegative (member_left c s (whole (pos 1))) → s ≤ℚ c
member_most c s h = linear (c ∷ s ∷ []) h (search reads depth 30) tt

sum_over : (axis : Axis) (s : Sides) (c : ℕ → ℚ) (w : ℕ → ℕ → ℚ) (t : Filling) (k : ℕ) →
    c k *ℚ form_at (unknowns_form (folded_count axis s) (k * folded_count axis s)) t +ℚ weighted (group_rows Norm1 axis s k) (w k) no_entries t
    ≡ rat_sum_below (folded_count axis s) (λ i. member_left (c k) (member_sum (w k) i) (t (k * folded_count axis s + i)))
sum_over axis s c w t k =
    let n = folded_count axis s in
    let own = λ (i : ℕ). whole (pos 1) *ℚ t (k * n + i) in
    let over = λ (i : ℕ). neg_ℚ (member_sum (w k) i *ℚ t (k * n + i)) in
    ap₂ (λ x y. c k *ℚ x +ℚ y) (form-list_below n (λ i. record { aux = k * n + i; coefficient = whole (pos 1) }) t) (taken_of_group Norm1 axis s k (w k) t)
    ∙ ap (λ x. x +ℚ rat_sum_below n over) (sym (rat_sum_below-*ℚ n (c k) own))
    ∙ sym (rat_sum_below-+ℚ n (λ i. c k *ℚ own i) over)

-- members of other groups have other unknowns, and so have other members
other_group : (n k i g m : ℕ) → i < n → m < n → k ≢ g → k * n + i ≢ g * n + m
other_group n k i g m b h d e = d (sym (div-mul-add k n i b) ∙ ap (λ x. x / n) e ∙ div-mul-add g n m h)

other_member : (n g i m : ℕ) → i ≢ m → g * n + i ≢ g * n + m
other_member n g i m d e = d (omega (arith, e))

sum_demanded : (axis : Axis) (s : Sides) (count size : ℕ) (c : ℕ → ℚ) (w : ℕ → ℕ → ℚ) →
    ((t : Filling) → KindsHold (replicate count Nonneg) t →
    IsNonnegative (rat_sum_below size (λ k. c k *ℚ form_at (unknowns_form (folded_count axis s) (k * folded_count axis s)) t +ℚ weighted (group_rows Norm1 axis s k) (w k) no_entries t))) →
    (g : ℕ) → g < size → All IsMet (list_below (folded_count axis s) (λ i. total_condition Nonneg (c g) (list_below 2 (member_weights Norm1 (w g) i))))
sum_demanded axis s count size c w left g b =
    let n = folded_count axis s in
    All-list_below IsMet n (λ i. total_condition Nonneg (c g) (list_below 2 (member_weights Norm1 (w g) i))) (λ m h.
    let u = g * n + m in
    let t = only_at u (whole (pos 1)) in
    let over = λ (k : ℕ). c k *ℚ form_at (unknowns_form n (k * n)) t +ℚ weighted (group_rows Norm1 axis s k) (w k) no_entries t in
    let members = λ (k : ℕ) (i : ℕ). member_left (c k) (member_sum (w k) i) (t (k * n + i)) in
    let vanish : (k i : ℕ) → k * n + i ≢ u → members k i ≡ whole (pos 0) =
    λ k i d. ap (member_left (c k) (member_sum (w k) i)) (at_other u (whole (pos 1)) (k * n + i) d) ∙ member_nothing (c k) (member_sum (w k) i) in
    let none : (k : ℕ) → k < size → k ≢ g → over k ≡ whole (pos 0) =
    λ k l d. sum_over axis s c w t k ∙ rat_sum_below-same n (members k) (λ i. whole (pos 0)) (λ i q. vanish k i (other_group n k i g m q h d)) ∙ rat_sum_below-zero n in
    let group = one_left size g over b none (left t (λ k e. only_nonnegative u (whole (pos 1)) one_nonnegative k)) in
    let one = one_left n m (members g) h (λ i q d. vanish g i (other_member n g i m d)) (subst IsNonnegative (sum_over axis s c w t g) group) in
    member_most (c g) (member_sum (w g) m) (subst IsNonnegative (ap (member_left (c g) (member_sum (w g) m)) (at_itself u (whole (pos 1)))) one))

-- ---- the four calls
demanded : (p : Fold) (axis : Axis) → AreDemanded (fold_meaning p axis)
demanded Max axis args sides is c w left j b = free_demanded Max max_shared axis (sides_at args 0) (groups axis (sides_at args 0)) (entries_of sides) c w left j b
demanded Min axis args sides is c w left j b = free_demanded Min min_shared axis (sides_at args 0) (groups axis (sides_at args 0)) (entries_of sides) c w left j b
demanded Norm1 axis args sides is c w left j b = sum_demanded axis (sides_at args 0) (entries_of (sides_at args 0)) (entries_of sides) c w left j b
demanded NormInf axis args sides is c w left j b =
    let s = sides_at args 0 in
    let n = folded_count axis s in
    All-cons IsMet (total_condition Nonneg (c j) (list_below (n * 2) (w j))) []
    (at_most_of (c j) (group_sum NormInf norm_inf_shared axis s (w j))
    (here NormInf norm_inf_shared axis s (entries_of sides) c w j (whole (pos 1)) b (left (only_at j (whole (pos 1))) (λ k e. only_nonnegative j (whole (pos 1)) one_nonnegative k)))) (All-nil IsMet)

pub fold_duality : (p : Fold) (axis : Axis) → HasDualGraph (fold_meaning p axis)
fold_duality p axis = record { slopes = row_slopes p axis; demanded = demanded p axis }
