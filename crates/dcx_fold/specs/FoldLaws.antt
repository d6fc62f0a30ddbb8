-- The laws of the greatest and the least entry of each group, and of its norms.
use Rattle.std.proofs.Common.{◌≡◌, ℕ, zero, suc, ◌+◌, ◌*◌, ◌/◌, ◌%◌, ◌<◌, List, [], ◌∷◌, length, All, replicate, inl, inr, refl, sym, ap, ap₂, ◌∙◌, subst, pos, negsuc}
use Rattle.std.proofs.lemmas.Nat.{mod-mul-add, div-mul-add}
use Rattle.std.proofs.lemmas.List.{get_or-replicate, length-map}
use Rattle.std.proofs.lemmas.List.Elements.{All-head}
use Rattle.dcx_math.specs.Rational.{ℚ, whole, neg_ℚ, ◌+ℚ◌, ◌-ℚ◌, ◌*ℚ◌, ◌≤ℚ◌, rat_abs}
use Rattle.dcx_math.specs.Sums.{IsNonnegative, rat_sum, rat_sum_below}
use Rattle.dcx_math.proofs.Ring.{ring, reads}
use Rattle.dcx_math.proofs.Orders.{≤ℚ_refl, ≤ℚ_trans, ≤ℚ-from_≡, neg_ℚ-≤ℚ, +ℚ_idl, +ℚ_idr, *ℚ_idl, minus_one-*ℚ, *ℚ-≤ℚ, linear, +ℚ-*ℚ}
use Rattle.dcx_math.proofs.Bounds.{≤ℚ-rat_abs, neg_ℚ-≤ℚ-rat_abs, rat_abs-≤ℚ, rat_abs-nonnegative, rat_abs-of_nonnegative, rat_abs-of_nonpositive}
use Rattle.dcx_math.proofs.Sums.{rat_sum_below-same, rat_sum_below-monotone, rat_sum_below-nonnegative, rat_sum_below-*ℚ, rat_sum_below-+ℚ}
use Rattle.dcx_shape.specs.declared.shape.Sides.{Sides}
use Rattle.dcx_shape.specs.Sides.{entries_of}
use Rattle.dcx_atom.specs.declared.axis.Axis.{Axis}
use Rattle.dcx_atom.specs.declared.flags.Sign.{Sign}
use Rattle.dcx_atom.specs.declared.flags.Bend.{Bend}
use Rattle.dcx_atom.specs.declared.flags.Bend.TheVariants.{Convex, Concave}
use Rattle.dcx_atom.specs.declared.graph.AuxKind.TheVariants.{Free, Nonneg}
use Rattle.dcx_atom.specs.Axis.{folded_count}
use Rattle.dcx_atom.specs.Arrays.{Entries, list_below, sides_at}
use Rattle.dcx_atom.specs.Signs.{HasSign, sign_at, IsBeyond, Follows}
use Rattle.dcx_atom.specs.Rows.{Filling, form_at, RowsHold, KindsHold, weighted}
use Rattle.dcx_atom.specs.Formed.{exact}
use Rattle.dcx_atom.specs.Meaning.{IsMet}
use Rattle.dcx_atom.specs.Laws.{SumsUp, KeepsSign, KeepsTrend, IsBent, IsSoundGraph, IsTightGraph, HasSubgradients, Recedes}
use Rattle.dcx_atom.specs.Bounding.{argument_term, bound_row, outward, unknown_form, free_kinds}
use Rattle.dcx_atom.specs.Farthest.{extreme, beyond_trans, extreme_each, extreme_within, extreme_among}
use Rattle.dcx_atom.proofs.Sublinear.{curvature_of, recession_of}
use Rattle.dcx_atom.specs.Duality.{no_entries, no_filling, AreRowSlopes, AreBalanced}
use Rattle.dcx_atom.proofs.Duality.{subgradient_of}
use Rattle.dcx_atom.proofs.LinearSums.{follows_rising, All-list_below}
use Rattle.dcx_atom.proofs.Lists.{among_parts}
use Rattle.dcx_atom.proofs.BoundRows.{
  length-list_below,
  All-at,
  beyond_of_row,
  row_of_beyond,
  alone_is,
  taken,
  nothing_taken,
  level,
  kept,
  weighted-taken,
  RowsHold-joined,
  RowsHold-joined_back,
  weighted-joined,
  form-list_below,
  rat_sum-list_below,
}
use Rattle.dcx_fold.specs.declared.folding.Fold.{Fold}
use Rattle.dcx_fold.specs.declared.folding.Fold.TheVariants.{Max, Min, Norm1, NormInf}
use Rattle.dcx_fold.specs.Groups.{groups, member, group_of, member_of}
use Rattle.dcx_fold.specs.GroupLaws.{IsFold, is_fold, first_is, groups_are, some_members, sum_by_groups, is_member, sum-product, all_members}
use Rattle.dcx_fold.specs.Folds.{
  fold_bend,
  fold_kind,
  fold_trend,
  fold_sign,
  part,
  fold_of,
  fold_summands,
  parts,
  factors,
  member_rows,
  unknown_of,
  unknowns,
  rows_of_member,
  group_rows,
  unknowns_form,
  group_form,
  fold_filling,
  member_weights,
  group_conditions,
  member_slope,
  fold_meaning,
}

-- ---- one member
-- where the rows of a member hold, the unknown is beyond its part
beyond_of_member : (p : Fold) (u e : ℕ) (a : Entries) (t : Filling) → RowsHold (rows_of_member p u e) a t → IsBeyond (fold_bend p) (part p (a 0 e)) (t u)
beyond_of_member Max u e a t h = subst (λ y. y ≤ℚ t u) (*ℚ_idl (a 0 e)) (beyond_of_row Convex u (argument_term 0 e (whole (pos 1))) a t h.0)
beyond_of_member Min u e a t h = subst (λ y. t u ≤ℚ y) (*ℚ_idl (a 0 e)) (beyond_of_row Concave u (argument_term 0 e (whole (pos 1))) a t h.0)
beyond_of_member Norm1 u e a t h = rat_abs-≤ℚ
    (subst (λ y. y ≤ℚ t u) (*ℚ_idl (a 0 e)) (beyond_of_row Convex u (argument_term 0 e (whole (pos 1))) a t h.0))
    (subst (λ y. y ≤ℚ t u) (minus_one-*ℚ (a 0 e)) (beyond_of_row Convex u (argument_term 0 e (whole (negsuc 0))) a t h.1.0))
beyond_of_member NormInf u e a t h = rat_abs-≤ℚ
    (subst (λ y. y ≤ℚ t u) (*ℚ_idl (a 0 e)) (beyond_of_row Convex u (argument_term 0 e (whole (pos 1))) a t h.0))
    (subst (λ y. y ≤ℚ t u) (minus_one-*ℚ (a 0 e)) (beyond_of_row Convex u (argument_term 0 e (whole (negsuc 0))) a t h.1.0))

magnitude_holds : (u e : ℕ) (a : Entries) (t : Filling) → rat_abs (a 0 e) ≤ℚ t u → RowsHold (rows_of_member Norm1 u e) a t
magnitude_holds u e a t h = (
  row_of_beyond Convex u (argument_term 0 e (whole (pos 1))) a t (subst (λ y. y ≤ℚ t u) (sym (*ℚ_idl (a 0 e))) (≤ℚ_trans (≤ℚ-rat_abs (a 0 e)) h)),
  (row_of_beyond Convex u (argument_term 0 e (whole (negsuc 0))) a t (subst (λ y. y ≤ℚ t u) (sym (minus_one-*ℚ (a 0 e))) (≤ℚ_trans (neg_ℚ-≤ℚ-rat_abs (a 0 e)) h)), tt),
)

-- and the other way round
member_of_beyond : (p : Fold) (u e : ℕ) (a : Entries) (t : Filling) → IsBeyond (fold_bend p) (part p (a 0 e)) (t u) → RowsHold (rows_of_member p u e) a t
member_of_beyond Max u e a t h = (row_of_beyond Convex u (argument_term 0 e (whole (pos 1))) a t (subst (λ y. y ≤ℚ t u) (sym (*ℚ_idl (a 0 e))) h), tt)
member_of_beyond Min u e a t h = (row_of_beyond Concave u (argument_term 0 e (whole (pos 1))) a t (subst (λ y. t u ≤ℚ y) (sym (*ℚ_idl (a 0 e))) h), tt)
member_of_beyond Norm1 u e a t h = magnitude_holds u e a t h
member_of_beyond NormInf u e a t h = magnitude_holds u e a t h

-- a magnitude doesn't fall where the entry goes as the trend allows
magnitude_follows : (s : Sign) (x y : ℚ) → HasSign s x → Follows Convex (record { rising = s.nonneg; falling = s.nonpos }) x y → rat_abs x ≤ℚ rat_abs y
magnitude_follows s x y h (inl e) = ≤ℚ-from_≡ (ap rat_abs e)
magnitude_follows s x y h (inr (inl f)) = ≤ℚ_trans (≤ℚ-from_≡ (rat_abs-of_nonnegative (h.nonneg f.0))) (≤ℚ_trans f.1 (≤ℚ-rat_abs y))
magnitude_follows s x y h (inr (inr f)) = ≤ℚ_trans (≤ℚ-from_≡ (rat_abs-of_nonpositive (h.nonpos f.0))) (≤ℚ_trans (neg_ℚ-≤ℚ f.1) (neg_ℚ-≤ℚ-rat_abs y))

part_follows : (p : Fold) (s : Sign) (x y : ℚ) → HasSign s x → Follows (fold_bend p) (fold_trend p s) x y → IsBeyond (fold_bend p) (part p x) (part p y)
part_follows Max s x y h f = follows_rising Convex x y f
part_follows Min s x y h f = follows_rising Concave x y f
part_follows Norm1 s x y h f = magnitude_follows s x y h f
part_follows NormInf s x y h f = magnitude_follows s x y h f

-- ---- one group
pub each_beyond : (bend : Bend) (n : ℕ) (f : ℕ → ℚ) (i : ℕ) → i < n → IsBeyond bend (f i) (extreme bend (list_below n f))
each_beyond bend n f i b = All-at (λ x. IsBeyond bend x (extreme bend (list_below n f))) n f (extreme_each bend (list_below n f)) i b

pub all_beyond : (bend : Bend) (n : ℕ) (f : ℕ → ℚ) (z : ℚ) → 0 < n → ((i : ℕ) → i < n → IsBeyond bend (f i) z) → IsBeyond bend (extreme bend (list_below n f)) z
all_beyond bend n f z some h =
    extreme_within bend (list_below n f) z (subst (λ k. 0 < k) (sym (length-list_below n f)) some) (All-list_below (λ x. IsBeyond bend x z) n f h)

pub extreme_goes : (bend : Bend) (n : ℕ) (f g : ℕ → ℚ) → 0 < n → ((i : ℕ) → i < n → IsBeyond bend (f i) (g i)) →
    IsBeyond bend (extreme bend (list_below n f)) (extreme bend (list_below n g))
extreme_goes bend n f g some h = all_beyond bend n f _ some (λ i b. beyond_trans bend _ _ _ (h i b) (each_beyond bend n g i b))

sum_goes : (n : ℕ) (f g : ℕ → ℚ) → ((i : ℕ) → i < n → f i ≤ℚ g i) → rat_sum (list_below n f) ≤ℚ rat_sum (list_below n g)
sum_goes n f g h =
    subst (λ y. rat_sum (list_below n f) ≤ℚ y) (sym (rat_sum-list_below n g))
    (subst (λ y. y ≤ℚ rat_sum_below n g) (sym (rat_sum-list_below n f)) (rat_sum_below-monotone n f g h))

-- where each part goes beyond, so does what they become
fold_goes : (p : Fold) (n : ℕ) (f g : ℕ → ℚ) → 0 < n → ((i : ℕ) → i < n → IsBeyond (fold_bend p) (f i) (g i)) →
    IsBeyond (fold_bend p) (fold_of p (list_below n f)) (fold_of p (list_below n g))
fold_goes Max n f g some h = extreme_goes Convex n f g some h
fold_goes Min n f g some h = extreme_goes Concave n f g some h
fold_goes Norm1 n f g some h = sum_goes n f g h
fold_goes NormInf n f g some h = extreme_goes Convex n f g some h

zero_signed : (s : Sign) → HasSign s (whole (pos 0))
zero_signed s = record { nonneg = λ _. ≤ℚ_refl (whole (pos 0)); nonpos = λ _. ≤ℚ_refl (whole (pos 0)) }

pub extreme_signed : (bend : Bend) (s : Sign) (n : ℕ) (f : ℕ → ℚ) → ((i : ℕ) → i < n → HasSign s (f i)) → HasSign s (extreme bend (list_below n f))
extreme_signed bend s n f h = extreme_among bend (HasSign s) (list_below n f) (zero_signed s) (All-list_below (HasSign s) n f h)

norm1_nonneg : (n : ℕ) (f : ℕ → ℚ) → IsNonnegative (rat_sum (list_below n (λ i. rat_abs (f i))))
norm1_nonneg n f = subst IsNonnegative (sym (rat_sum-list_below n (λ i. rat_abs (f i)))) (rat_sum_below-nonnegative n _ (λ i b. rat_abs-nonnegative (f i)))

norm_inf_nonneg : (n : ℕ) (f : ℕ → ℚ) → IsNonnegative (extreme Convex (list_below n (λ i. rat_abs (f i))))
norm_inf_nonneg n f =
    extreme_among Convex IsNonnegative (list_below n (λ i. rat_abs (f i))) (≤ℚ_refl (whole (pos 0))) (All-list_below IsNonnegative n _ (λ i b. rat_abs-nonnegative (f i)))

fold_signed : (p : Fold) (s : Sign) (n : ℕ) (f : ℕ → ℚ) → ((i : ℕ) → i < n → HasSign s (f i)) → HasSign (fold_sign p s) (fold_of p (list_below n (λ i. part p (f i))))
fold_signed Max s n f h = extreme_signed Convex s n f h
fold_signed Min s n f h = extreme_signed Concave s n f h
fold_signed Norm1 s n f h = record { nonneg = λ _. norm1_nonneg n f; nonpos = λ e. cc }
fold_signed NormInf s n f h = record { nonneg = λ _. norm_inf_nonneg n f; nonpos = λ e. cc }

-- ---- values
pub fold_summed : (p : Fold) (xs : List ℚ) → fold_of p xs ≡ rat_sum (fold_summands p xs)
fold_summed Max xs = sym (+ℚ_idr (extreme Convex xs))
fold_summed Min xs = sym (+ℚ_idr (extreme Concave xs))
fold_summed Norm1 xs = refl
fold_summed NormInf xs = sym (+ℚ_idr (extreme Convex xs))

pub fold_formation : (p : Fold) (axis : Axis) → SumsUp (fold_meaning p axis)
fold_formation p axis args sides is k b a = fold_summed p (parts p axis (sides_at args 0) (a 0) k)

pub fold_sign_law : (p : Fold) (axis : Axis) → KeepsSign (fold_meaning p axis)
fold_sign_law p axis args sides is k b signs a n h =
    fold_signed p (sign_at signs 0) (folded_count axis (sides_at args 0)) (λ i. a 0 (member axis (sides_at args 0) k i)) (λ i l. h 0 (member axis (sides_at args 0) k i))

pub some_in_group : (axis : Axis) (args : List Sides) (to : Sides) → IsFold axis args to → 0 < folded_count axis (sides_at args 0)
some_in_group axis args to f = subst (λ s. 0 < folded_count axis s) (sym (first_is axis args to f)) (some_members axis f.from f.some)

pub groups_of_value : (axis : Axis) (args : List Sides) (to : Sides) → IsFold axis args to → entries_of to ≡ groups axis (sides_at args 0)
groups_of_value axis args to f = groups_are axis f.from to f.sides ∙ ap (groups axis) (sym (first_is axis args to f))

pub fold_monotonicity : (p : Fold) (axis : Axis) → KeepsTrend (fold_meaning p axis)
fold_monotonicity p axis args sides is k below signs a b h f =
    let s = sides_at args 0 in
    fold_goes p (folded_count axis s) _ _ (some_in_group axis args sides (is_fold axis args sides is))
    (λ i l. part_follows p (sign_at signs 0) (a 0 (member axis s k i)) (b 0 (member axis s k i)) (h 0 (member axis s k i)) (f 0 (member axis s k i)))

-- ---- the graph
-- where each part is within its unknown, what they become is within the form
fold_within : (p : Fold) (n k : ℕ) (f : ℕ → ℚ) (t : Filling) → 0 < n → ((i : ℕ) → i < n → IsBeyond (fold_bend p) (f i) (t (unknown_of p n k i))) →
    IsBeyond (fold_bend p) (fold_of p (list_below n f)) (form_at (group_form p n k) t)
fold_within Max n k f t some h = subst (λ y. extreme Convex (list_below n f) ≤ℚ y) (sym (alone_is (t k))) (all_beyond Convex n f (t k) some h)
fold_within Min n k f t some h = subst (λ y. y ≤ℚ extreme Concave (list_below n f)) (sym (alone_is (t k))) (all_beyond Concave n f (t k) some h)
fold_within Norm1 n k f t some h =
    subst (λ y. y ≤ℚ form_at (unknowns_form n (k * n)) t) (sym (rat_sum-list_below n f))
    (subst (λ y. rat_sum_below n f ≤ℚ y) (sym (form-list_below n (λ i. record { aux = k * n + i; coefficient = whole (pos 1) }) t))
    (rat_sum_below-monotone n f _ (λ i b. subst (λ y. f i ≤ℚ y) (sym (*ℚ_idl (t (k * n + i)))) (h i b))))
fold_within NormInf n k f t some h = subst (λ y. extreme Convex (list_below n f) ≤ℚ y) (sym (alone_is (t k))) (all_beyond Convex n f (t k) some h)

pub fold_soundness : (p : Fold) (axis : Axis) → IsSoundGraph (fold_meaning p axis)
fold_soundness p axis args sides is a t holds k below =
    let s = sides_at args 0 in
    let n = folded_count axis s in
    fold_within p n k _ t (some_in_group axis args sides (is_fold axis args sides is))
    (λ i b. beyond_of_member p (unknown_of p n k i) (member axis s k i) a t
    (RowsHold-joined_back n (λ i. rows_of_member p (unknown_of p n k i) (member axis s k i)) a t (holds.rows k below) i b))

-- the unknown of a member of the sum is its magnitude
own_magnitude : (axis : Axis) (s : Sides) (x : ℕ → ℚ) (k i : ℕ) → i < folded_count axis s →
    fold_filling Norm1 axis s x (k * folded_count axis s + i) ≡ rat_abs (x (member axis s k i))
own_magnitude axis s x k i b =
    ap₂ (λ u v. rat_abs (x (member axis s u v))) (div-mul-add k (folded_count axis s) i b) (mod-mul-add k (folded_count axis s) i b)

filled : (p : Fold) (axis : Axis) (s : Sides) (x : ℕ → ℚ) (k i : ℕ) → i < folded_count axis s →
    IsBeyond (fold_bend p) (part p (x (member axis s k i))) (fold_filling p axis s x (unknown_of p (folded_count axis s) k i))
filled Max axis s x k i b = each_beyond Convex (folded_count axis s) (λ i. x (member axis s k i)) i b
filled Min axis s x k i b = each_beyond Concave (folded_count axis s) (λ i. x (member axis s k i)) i b
filled Norm1 axis s x k i b = ≤ℚ-from_≡ (sym (own_magnitude axis s x k i b))
filled NormInf axis s x k i b = each_beyond Convex (folded_count axis s) (λ i. rat_abs (x (member axis s k i))) i b

filled_kinds : (p : Fold) (axis : Axis) (s : Sides) (x : ℕ → ℚ) → KindsHold (replicate (unknowns p axis s) (fold_kind p)) (fold_filling p axis s x)
filled_kinds Max axis s x u e = absurd (free_kinds (groups axis s) u e)
filled_kinds Min axis s x u e = absurd (free_kinds (groups axis s) u e)
filled_kinds Norm1 axis s x u e = rat_abs-nonnegative (x (member axis s (u / folded_count axis s) (u % folded_count axis s)))
filled_kinds NormInf axis s x u e = norm_inf_nonneg (folded_count axis s) (λ i. x (member axis s u i))

filled_form : (p : Fold) (axis : Axis) (s : Sides) (x : ℕ → ℚ) (k : ℕ) → form_at (group_form p (folded_count axis s) k) (fold_filling p axis s x) ≡ fold_of p (parts p axis s x k)
filled_form Max axis s x k = alone_is (extreme Convex (parts Max axis s x k))
filled_form Min axis s x k = alone_is (extreme Concave (parts Min axis s x k))
filled_form Norm1 axis s x k =
    let n = folded_count axis s in
    form-list_below n (λ i. record { aux = k * n + i; coefficient = whole (pos 1) }) (fold_filling Norm1 axis s x)
    ∙ rat_sum_below-same n _ _ (λ i b. *ℚ_idl (fold_filling Norm1 axis s x (k * n + i)) ∙ own_magnitude axis s x k i b)
    ∙ sym (rat_sum-list_below n (λ i. rat_abs (x (member axis s k i))))
filled_form NormInf axis s x k = alone_is (extreme Convex (parts NormInf axis s x k))

pub fold_tightness : (p : Fold) (axis : Axis) → IsTightGraph (fold_meaning p axis)
fold_tightness p axis args sides is a =
    let s = sides_at args 0 in
    let n = folded_count axis s in
    let t = fold_filling p axis s (a 0) in
    record {
      holds = record {
        kinds = filled_kinds p axis s (a 0);
        rows = λ k b. RowsHold-joined n (λ i. rows_of_member p (unknown_of p n k i) (member axis s k i)) a t
            (λ i h. member_of_beyond p (unknown_of p n k i) (member axis s k i) a t (filled p axis s (a 0) k i h));
      };
      reaches = λ k b. filled_form p axis s (a 0) k;
    }

pub fold_curvature : (p : Fold) (axis : Axis) → IsBent (fold_meaning p axis)
fold_curvature p axis = curvature_of (fold_meaning p axis) (fold_soundness p axis) (fold_tightness p axis)

pub fold_recession : (p : Fold) (axis : Axis) → Recedes (fold_meaning p axis)
fold_recession p axis = recession_of (fold_meaning p axis) (fold_soundness p axis) (fold_tightness p axis)

-- ---- slopes
pub greatest_slope : (w x : ℚ) → w *ℚ x ≡ w *ℚ (whole (pos 1) *ℚ x +ℚ (whole (negsuc 0) *ℚ whole (pos 0) +ℚ whole (pos 0))) +ℚ whole (pos 0)
greatest_slope w x = ring (w ∷ x ∷ []) (search reads depth 30) tt

least_slope : (w x : ℚ) → neg_ℚ w *ℚ x ≡ w *ℚ (whole (pos 1) *ℚ whole (pos 0) +ℚ (neg_ℚ (whole (pos 1)) *ℚ x +ℚ whole (pos 0))) +ℚ whole (pos 0)
least_slope w x = ring (w ∷ x ∷ []) (search reads depth 30) tt

magnitude_slope : (v w x : ℚ) → (v -ℚ w) *ℚ x ≡ v *ℚ (whole (pos 1) *ℚ x +ℚ (whole (negsuc 0) *ℚ whole (pos 0) +ℚ whole (pos 0)))
    +ℚ (w *ℚ (whole (negsuc 0) *ℚ x +ℚ (whole (negsuc 0) *ℚ whole (pos 0) +ℚ whole (pos 0))) +ℚ whole (pos 0))
magnitude_slope v w x = ring (v ∷ w ∷ x ∷ []) (search reads depth 30) tt

-- the weighted rows of a member, over the argument alone
slope_of_member : (p : Fold) (w : ℕ → ℚ) (u e : ℕ) (a : Entries) → exact (member_slope p w) *ℚ a 0 e ≡ weighted (rows_of_member p u e) w a no_filling
slope_of_member Max w u e a = greatest_slope (w 0) (a 0 e)
slope_of_member Min w u e a = least_slope (w 0) (a 0 e)
slope_of_member Norm1 w u e a = magnitude_slope (w 0) (w 1) (a 0 e)
slope_of_member NormInf w u e a = magnitude_slope (w 0) (w 1) (a 0 e)

pub rows_counted : (p : Fold) (u e : ℕ) → length (rows_of_member p u e) ≡ member_rows p
rows_counted p u e = length-map (factors p) (λ q. bound_row (fold_bend p) u (argument_term 0 e q))

pub row_slopes : (p : Fold) (axis : Axis) → AreRowSlopes (fold_meaning p axis)
row_slopes p axis [] sides is w a = cc
row_slopes p axis (s ∷ []) sides is w a =
    let n = folded_count axis s in
    +ℚ_idl _ ∙ sum_by_groups axis s (λ e. exact (member_slope p (member_weights p (w (group_of axis s e)) (member_of axis s e))) *ℚ a 0 e)
    ∙ rat_sum_below-same (groups axis s) _ _ (λ k b.
    rat_sum_below-same n _ _ (λ i h.
    let m = is_member axis s k i b h in
    ap₂ (λ g j. exact (member_slope p (member_weights p (w g) j)) *ℚ a 0 (member axis s k i)) m.group m.index
    ∙ slope_of_member p (member_weights p (w k) i) (unknown_of p n k i) (member axis s k i) a)
    ∙ sym (weighted-joined n (member_rows p) (λ i. rows_of_member p (unknown_of p n k i) (member axis s k i)) (w k) a no_filling
    (λ i. rows_counted p (unknown_of p n k i) (member axis s k i))))
    ∙ ap (λ size. rat_sum_below size (λ k. weighted (group_rows p axis s k) (w k) a no_filling)) (sym (groups_of_value axis (s ∷ []) sides (is_fold axis (s ∷ []) sides is)))
row_slopes p axis (q ∷ r ∷ rs) sides is w a = cc

-- ---- what weights balance
-- what the rows of a group take away
pub taken_of_group : (p : Fold) (axis : Axis) (s : Sides) (k : ℕ) (w : ℕ → ℚ) (t : Filling) →
    weighted (group_rows p axis s k) w no_entries t ≡
    rat_sum_below (folded_count axis s) (λ i. taken (fold_bend p) (rat_sum (list_below (member_rows p) (member_weights p w i))) (t (unknown_of p (folded_count axis s) k i)))
taken_of_group p axis s k w t =
    let n = folded_count axis s in
    weighted-joined n (member_rows p) (λ i. rows_of_member p (unknown_of p n k i) (member axis s k i)) w no_entries t (λ i. rows_counted p (unknown_of p n k i) (member axis s k i))
    ∙ rat_sum_below-same n _ _ (λ i b. weighted-taken (fold_bend p) (unknown_of p n k i) (argument_term 0 (member axis s k i)) (factors p) (member_weights p w i) t (λ q. refl))

both_taken_convex : (x y t : ℚ) → neg_ℚ (x *ℚ t) +ℚ neg_ℚ (y *ℚ t) ≡ neg_ℚ ((x +ℚ y) *ℚ t)
both_taken_convex x y t = ring (x ∷ y ∷ t ∷ []) (search reads depth 30) tt

both_taken : (bend : Bend) (x y t : ℚ) → taken bend x t +ℚ taken bend y t ≡ taken bend (x +ℚ y) t
both_taken Convex x y t = both_taken_convex x y t
both_taken Concave x y t = sym (+ℚ-*ℚ x y t)

pub all_taken : (bend : Bend) (n : ℕ) (f : ℕ → ℚ) (t : ℚ) → rat_sum_below n (λ i. taken bend (f i) t) ≡ taken bend (rat_sum_below n f) t
all_taken bend zero f t = nothing_taken bend t
all_taken bend (suc n) f t = ap (λ y. y +ℚ taken bend (f n) t) (all_taken bend n f t) ∙ both_taken bend (rat_sum_below n f) (f n) t

-- the weights of all members are those of the group
pub all_weights : (p : Fold) (n : ℕ) (w : ℕ → ℚ) → rat_sum_below n (λ i. rat_sum (list_below (member_rows p) (member_weights p w i))) ≡ rat_sum (list_below (n * member_rows p) w)
all_weights p n w =
    rat_sum_below-same n _ _ (λ i b. rat_sum-list_below (member_rows p) (member_weights p w i))
    ∙ sym (sum-product n (member_rows p) w) ∙ sym (rat_sum-list_below (n * member_rows p) w)

free_level : (bend : Bend) (c s t : ℚ) → s ≡ outward bend c → IsNonnegative (c *ℚ (whole (pos 1) *ℚ t +ℚ whole (pos 0)) +ℚ taken bend s t)
free_level bend c s t h = ≤ℚ-from_≡ (level bend c t ∙ ap (λ v. c *ℚ (whole (pos 1) *ℚ t +ℚ whole (pos 0)) +ℚ taken bend v t) (sym h))

each_kept : (c s t : ℚ) → s ≤ℚ c → IsNonnegative t → IsNonnegative (c *ℚ (whole (pos 1) *ℚ t) +ℚ neg_ℚ (s *ℚ t))
each_kept c s t h k = linear (c ∷ s ∷ t ∷ []) (*ℚ-≤ℚ k h) (search reads depth 30) tt

balanced_sum : (n k : ℕ) (c : ℚ) (w : ℕ → ℚ) (t : Filling) → All IsMet (group_conditions Norm1 n c w) → ((i : ℕ) → i < n → IsNonnegative (t (k * n + i))) →
    IsNonnegative (c *ℚ form_at (unknowns_form n (k * n)) t +ℚ rat_sum_below n (λ i. neg_ℚ (rat_sum (list_below 2 (member_weights Norm1 w i)) *ℚ t (k * n + i))))
balanced_sum n k c w t met nonneg =
    let over = λ (i : ℕ). neg_ℚ (rat_sum (list_below 2 (member_weights Norm1 w i)) *ℚ t (k * n + i)) in
    let own = λ (i : ℕ). whole (pos 1) *ℚ t (k * n + i) in
    subst (λ y. IsNonnegative (c *ℚ y +ℚ rat_sum_below n over)) (sym (form-list_below n (λ i. record { aux = k * n + i; coefficient = whole (pos 1) }) t))
    (subst (λ y. IsNonnegative (y +ℚ rat_sum_below n over)) (rat_sum_below-*ℚ n c own)
    (subst IsNonnegative (rat_sum_below-+ℚ n (λ i. c *ℚ own i) over)
    (rat_sum_below-nonnegative n _ (λ i b. each_kept c _ (t (k * n + i)) (All-at IsMet n _ met i b) (nonneg i b)))))

nonneg_members : (axis : Axis) (args : List Sides) (to : Sides) (t : Filling) → IsFold axis args to → KindsHold (replicate (entries_of (sides_at args 0)) Nonneg) t → (k i : ℕ)
    → k < entries_of to → i < folded_count axis (sides_at args 0) →
    IsNonnegative (t (k * folded_count axis (sides_at args 0) + i))
nonneg_members axis args to t f kinds k i h b =
    let s = sides_at args 0 in
    let n = folded_count axis s in
    let l : k < groups axis s = subst (λ m. k < m) (groups_of_value axis args to f) h in
    let all : entries_of s ≡ groups axis s * n = subst (λ r. entries_of r ≡ groups axis r * folded_count axis r) (sym (first_is axis args to f)) (all_members axis f.from to f.sides) in
    kinds (k * n + i) (get_or-replicate (entries_of s) (k * n + i) Nonneg Free (subst (λ m. k * n + i < m) (sym all) (among_parts k i n (groups axis s) l b)))

balanced_group : (p : Fold) (axis : Axis) (args : List Sides) (to : Sides) (c : ℚ) (w : ℕ → ℚ) (t : Filling) → IsFold axis args to →
    KindsHold (replicate (unknowns p axis (sides_at args 0)) (fold_kind p)) t → (k : ℕ) → k < entries_of to → All IsMet (group_conditions p (folded_count axis (sides_at args 0)) c w) →
    IsNonnegative (c *ℚ form_at (group_form p (folded_count axis (sides_at args 0)) k) t +ℚ
    rat_sum_below (folded_count axis (sides_at args 0))
    (λ i. taken (fold_bend p) (rat_sum (list_below (member_rows p) (member_weights p w i))) (t (unknown_of p (folded_count axis (sides_at args 0)) k i))))
balanced_group Max axis args to c w t f kinds k h met =
    let n = folded_count axis (sides_at args 0) in
    subst (λ y. IsNonnegative (c *ℚ form_at (unknown_form k) t +ℚ y)) (sym (all_taken Convex n _ (t k)))
    (free_level Convex c _ (t k) (all_weights Max n w ∙ All-head IsMet _ [] met))
balanced_group Min axis args to c w t f kinds k h met =
    let n = folded_count axis (sides_at args 0) in
    subst (λ y. IsNonnegative (c *ℚ form_at (unknown_form k) t +ℚ y)) (sym (all_taken Concave n _ (t k)))
    (free_level Concave c _ (t k) (all_weights Min n w ∙ All-head IsMet _ [] met))
balanced_group Norm1 axis args to c w t f kinds k h met =
    balanced_sum (folded_count axis (sides_at args 0)) k c w t met (λ i b. nonneg_members axis args to t f kinds k i h b)
balanced_group NormInf axis args to c w t f kinds k h met =
    let s = sides_at args 0 in
    let n = folded_count axis s in
    let l : k < groups axis s = subst (λ m. k < m) (groups_of_value axis args to f) h in
    subst (λ y. IsNonnegative (c *ℚ form_at (unknown_form k) t +ℚ y)) (sym (all_taken Convex n _ (t k)))
    (kept c _ (t k) (subst (λ y. y ≤ℚ c) (sym (all_weights NormInf n w)) (All-head IsMet _ [] met)) (kinds k (get_or-replicate (groups axis s) k Nonneg Free l)))

balanced : (p : Fold) (axis : Axis) → AreBalanced (fold_meaning p axis)
balanced p axis args sides is c w accepted t kinds =
    let s = sides_at args 0 in
    rat_sum_below-nonnegative (entries_of sides) _ (λ k b.
    subst (λ y. IsNonnegative (c k *ℚ form_at (group_form p (folded_count axis s) k) t +ℚ y)) (sym (taken_of_group p axis s k (w k) t))
    (balanced_group p axis args sides (c k) (w k) t (is_fold axis args sides is) kinds k b (accepted.conditions k b)))

pub fold_subgradient : (p : Fold) (axis : Axis) → HasSubgradients (fold_meaning p axis)
fold_subgradient p axis = subgradient_of (fold_meaning p axis) (fold_tightness p axis) (row_slopes p axis) (balanced p axis)
