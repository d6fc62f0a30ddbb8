-- The numbers of these calls are fractions of 128 bits: what they sum at fractions, the coefficients of their graphs, and their slopes.
use Rattle.std.proofs.Common.{◌≡◌, ℕ, zero, suc, ◌+◌, ◌*◌, ◌<◌, ◌≤◌, ◌^◌, arith, List, [], ◌∷◌, Some, None, sym, subst, pos}
use Rattle.std.specs.List.{All, AllByRecursion}
use Rattle.std.proofs.lemmas.List.Elements.{All-nil, All-cons, All-head, All-map, All-take}
use Rattle.dcx_math.specs.Rational.{ℚ, whole}
use Rattle.dcx_frac.specs.Fits.{IsRepresentable}
use Rattle.dcx_shape.specs.declared.shape.Sides.{Sides}
use Rattle.dcx_shape.specs.declared.shape.Sides.TheVariants.{Scalar, Vector, Matrix}
use Rattle.dcx_shape.specs.Sides.{entries_of}
use Rattle.dcx_shape.proofs.EntryPlaces.{entry_here}
use Rattle.dcx_atom.specs.declared.axis.Axis.{Axis}
use Rattle.dcx_atom.specs.declared.axis.Axis.TheVariants as axes
use Rattle.dcx_atom.specs.declared.flags.Bend.{Bend}
use Rattle.dcx_atom.specs.declared.flags.Bend.TheVariants.{Convex, Concave}
use Rattle.dcx_atom.specs.Arrays.{list_below, sides_at}
use Rattle.dcx_atom.specs.Axis.{folded_count}
use Rattle.dcx_atom.specs.Formed.{Formula, difference, formed}
use Rattle.dcx_atom.specs.Meaning.{ArgumentEntry}
use Rattle.dcx_atom.specs.Bounding.{argument_term, unknown_term, outward}
use Rattle.dcx_atom.specs.Steps.{slope_stop, weights_of}
use Rattle.dcx_atom.specs.Fractions.{HaveFewEntries, HasFractionSummands, FitsRow, FitsFormTerm, HasFractionCoefficients, HasFractionSlopes}
use Rattle.dcx_atom.proofs.LinearSums.{All-list_below}
use Rattle.dcx_atom.proofs.BoundRows.{All-at}
use Rattle.dcx_atom.proofs.Fractions.{number_fits, whole_fits, one_fits, minus_one_fits, negative_fits, outward_fits, magnitude_fits, extreme_fits, extreme_below_fits}
use Rattle.dcx_atom.proofs.Coefficients.{all_below, all_joined, bound_fits, bounds_fit}
use Rattle.dcx_atom.proofs.Slopes.{difference_fits, entry_formed, only_first}
use Rattle.dcx_fold.specs.declared.folding.Fold.{Fold}
use Rattle.dcx_fold.specs.declared.folding.Fold.TheVariants.{Max, Min, Norm1, NormInf}
use Rattle.dcx_fold.specs.Groups.{groups, member, group_of, member_of}
use Rattle.dcx_fold.specs.GroupLaws.{is_fold, is_member}
use Rattle.dcx_fold.specs.Folds.{fold_bend, part, fold_summands, parts, factors, unknown_of, rows_of_member, group_form, fold_meaning}
use Rattle.dcx_fold.specs.FoldLaws.{groups_of_value}
use Rattle.dcx_fold.specs.Sorted.{All-falling}
use Rattle.dcx_fold.specs.Largest.{chosen_sides, ordered, chosen, level_row, level_form, largest_meaning}
use Rattle.dcx_fold.specs.LargestLaws.{is_chosen}
use Rattle.dcx_fold.specs.Running.{running_rows, running_meaning}

one : (x : ℚ) → IsRepresentable x → All IsRepresentable (x ∷ [])
one x h = All-cons IsRepresentable x [] h (All-nil IsRepresentable)

-- ---- what is summed
part_fits : (p : Fold) (x : ℚ) → IsRepresentable x → IsRepresentable (part p x)
part_fits Max x h = h
part_fits Min x h = h
part_fits Norm1 x h = magnitude_fits x h
part_fits NormInf x h = magnitude_fits x h

fold_fits : (p : Fold) (xs : List ℚ) → All IsRepresentable xs → All IsRepresentable (fold_summands p xs)
fold_fits Max xs h = one _ (extreme_fits Convex xs h)
fold_fits Min xs h = one _ (extreme_fits Concave xs h)
fold_fits Norm1 xs h = h
fold_fits NormInf xs h = one _ (extreme_fits Convex xs h)

pub fold_fraction_summands : (p : Fold) (axis : Axis) → HasFractionSummands (fold_meaning p axis)
fold_fraction_summands p axis args a j h =
    let s = sides_at args 0 in
    let all = All-list_below IsRepresentable (folded_count axis s) (λ i. part p (a 0 (member axis s j i))) (λ i _. part_fits p (a 0 (member axis s j i)) (h 0 (member axis s j i))) in
    fold_fits p (parts p axis s (a 0) j) all

-- the k largest, or the k smallest
turned_fits : (bend : Bend) (x : ℚ) → IsRepresentable x → IsRepresentable (outward bend (outward bend x))
turned_fits bend x h = outward_fits bend (outward bend x) (outward_fits bend x h)

chosen_fits : (bend : Bend) (k n : ℕ) (x : ℕ → ℚ) → ((e : ℕ) → IsRepresentable (x e)) → All IsRepresentable (chosen bend k n x)
chosen_fits bend k n x h =
    let P : ℚ → Type 0 = λ z. IsRepresentable (outward bend z) in
    All-map IsRepresentable (outward bend) _
    (All-take P k (ordered bend n x)
    (All-falling P (list_below n (λ i. outward bend (x i))) (All-list_below P n (λ i. outward bend (x i)) (λ i _. turned_fits bend (x i) (h i)))))

pub largest_fraction_summands : (bend : Bend) (k : ℕ) → HasFractionSummands (largest_meaning bend k)
largest_fraction_summands bend k args a j h = chosen_fits bend k (entries_of (sides_at args 0)) (a 0) (h 0)

pub running_fraction_summands : HasFractionSummands running_meaning
running_fraction_summands args a j h = one _ (extreme_below_fits Convex (suc j) (a 0) (h 0))

-- ---- the graphs
factors_fit : (p : Fold) → AllByRecursion IsRepresentable (factors p)
factors_fit Max = (one_fits, tt)
factors_fit Min = (one_fits, tt)
factors_fit Norm1 = (one_fits, (minus_one_fits, tt))
factors_fit NormInf = (one_fits, (minus_one_fits, tt))

form_fits : (p : Fold) (n k : ℕ) → AllByRecursion FitsFormTerm (group_form p n k)
form_fits Max n k = (one_fits, tt)
form_fits Min n k = (one_fits, tt)
form_fits Norm1 n k = all_below FitsFormTerm n (λ i. record { aux = k * n + i; coefficient = whole (pos 1) }) (λ i b. one_fits)
form_fits NormInf n k = (one_fits, tt)

pub fold_fraction_coefficients : (p : Fold) (axis : Axis) → HasFractionCoefficients (fold_meaning p axis)
fold_fraction_coefficients p axis = record {
  rows = λ args k.
      let s = sides_at args 0 in
      let n = folded_count axis s in
      all_joined FitsRow n (λ i. rows_of_member p (unknown_of p n k i) (member axis s k i)) (λ i b. bounds_fit (fold_bend p) (unknown_of p n k i) 0 (member axis s k i) (factors p) (factors_fit p));
  results = λ args sides k is few. form_fits p (folded_count axis (sides_at args 0)) k;
}

level_fits : (bend : Bend) (i : ℕ) → FitsRow (level_row bend i)
level_fits Convex i = (one_fits, (minus_one_fits, (minus_one_fits, tt)))
level_fits Concave i = (one_fits, (minus_one_fits, (minus_one_fits, tt)))

-- so many entries are chosen as an argument has
kth_fits : (k : ℕ) (args : List Sides) (to : Sides) → chosen_sides k args ≡ Some to → HaveFewEntries args → k < 2 ^ 127
kth_fits k args to e few =
    let c = is_chosen k args to e in
    let l = All-head (λ (s : Sides). entries_of s ≤ 20000) c.from [] (subst HaveFewEntries c.only few) in
    let m = c.most in
    omega (arith, l, m)

levels_fit : (bend : Bend) (k n : ℕ) → k < 2 ^ 127 → AllByRecursion FitsFormTerm (level_form bend k n)
levels_fit bend k n few =
    (whole_fits k few, all_below FitsFormTerm n (λ i. record { aux = suc i; coefficient = outward bend (whole (pos 1)) }) (λ i b. outward_fits bend (whole (pos 1)) one_fits))

pub largest_fraction_coefficients : (bend : Bend) (k : ℕ) → HasFractionCoefficients (largest_meaning bend k)
largest_fraction_coefficients bend k = record {
  rows = λ args j. all_below FitsRow (entries_of (sides_at args 0)) (level_row bend) (λ i b. level_fits bend i);
  results = λ args sides j is few. levels_fit bend k (entries_of (sides_at args 0)) (kth_fits k args sides is few);
}

running_fit : (j : ℕ) → AllByRecursion FitsRow (running_rows j)
running_fit zero = (bound_fits Convex 0 (argument_term 0 0 (whole (pos 1))) one_fits, tt)
running_fit (suc i) = (bound_fits Convex (suc i) (argument_term 0 (suc i) (whole (pos 1))) one_fits, (bound_fits Convex (suc i) (unknown_term i (whole (pos 1))) one_fits, tt))

pub running_fraction_coefficients : HasFractionCoefficients running_meaning
running_fraction_coefficients = record {
  rows = λ args j. running_fit j;
  results = λ args sides j is few. (one_fits, tt);
}

-- ---- the slopes
record IsPlaced (axis : Axis) (s : Sides) (e : ℕ) : Type 0 where
  group : group_of axis s e < groups axis s
  index : member_of axis s e < folded_count axis s

in_group : (axis : Axis) (s : Sides) (e : ℕ) → e < entries_of s → IsPlaced axis s e
in_group axes.All s e b = record { group = omega arith; index = b }
in_group axes.Zero Scalar e b = record { group = omega arith; index = b }
in_group axes.Zero (Vector n) e b = record { group = omega arith; index = b }
in_group axes.Zero (Matrix m n) e b = let h = entry_here (Matrix m n) e b in record { group = h.column; index = h.row }
in_group axes.One Scalar e b = record { group = omega arith; index = b }
in_group axes.One (Vector n) e b = record { group = omega arith; index = b }
in_group axes.One (Matrix m n) e b = let h = entry_here (Matrix m n) e b in record { group = h.row; index = h.column }

-- the slope of an entry is that of the member of its group
group_fits : (slope : (ℕ → ℚ) → Formula) (rows : ℕ) (axis : Axis) (s : Sides) (size : ℕ) (w : ℕ → ℕ → ℚ) → size ≡ groups axis s →
    ((k : ℕ) → k < size → (i : ℕ) → i < folded_count axis s →
    slope_stop (formed (slope (λ f. w (group_of axis s (member axis s k i)) (member_of axis s (member axis s k i) * rows + f)))) ≡ None) →
    (e : ℕ) → e < entries_of s → slope_stop (formed (slope (λ f. w (group_of axis s e) (member_of axis s e * rows + f)))) ≡ None
group_fits slope rows axis s size w count h e b =
    let at = in_group axis s e b in
    let g = group_of axis s e in
    let i = member_of axis s e in
    let m = is_member axis s g i at.group at.index in
    subst (λ k. slope_stop (formed (slope (λ f. w k (i * rows + f)))) ≡ None) m.group
    (subst (λ k. slope_stop (formed (slope (λ f. w (group_of axis s (member axis s g i)) (k * rows + f)))) ≡ None) m.index
    (h g (subst (λ k. g < k) (sym count) at.group) i at.index))

pub fold_fraction_slopes : (p : Fold) (axis : Axis) → HasFractionSlopes (fold_meaning p axis)
fold_fraction_slopes Max axis args sides is c ws none k e b l = number_fits ws _
fold_fraction_slopes Min axis args sides is c ws none k e b l = negative_fits _ (number_fits ws _)
fold_fraction_slopes Norm1 axis args sides is c ws none k e b l =
    let m = fold_meaning Norm1 axis in
    let w = weights_of m args ws in
    let fold = is_fold axis args sides is in
    let s = sides_at args 0 in
    let first = only_first args fold.from fold.only k b in
    let size : e < entries_of s = subst (λ i. e < entries_of (sides_at args i)) first l in
    difference_fits (w (group_of axis s e) (member_of axis s e * 2 + 0)) (w (group_of axis s e) (member_of axis s e * 2 + 1)) (number_fits ws _) (number_fits ws _)
    (group_fits (λ v. difference (v 0) (v 1)) 2 axis s (entries_of sides) w (groups_of_value axis args sides fold)
    (λ g h i d. All-at (λ (y : ArgumentEntry). slope_stop (formed (m.slope args w y.argument y.entry)) ≡ None) (folded_count axis s)
    (λ i. record { argument = 0; entry = member axis s g i }) (entry_formed m args c w g (none g h)) i d) e size)
fold_fraction_slopes NormInf axis args sides is c ws none k e b l =
    let m = fold_meaning NormInf axis in
    let w = weights_of m args ws in
    let fold = is_fold axis args sides is in
    let s = sides_at args 0 in
    let first = only_first args fold.from fold.only k b in
    let size : e < entries_of s = subst (λ i. e < entries_of (sides_at args i)) first l in
    difference_fits (w (group_of axis s e) (member_of axis s e * 2 + 0)) (w (group_of axis s e) (member_of axis s e * 2 + 1)) (number_fits ws _) (number_fits ws _)
    (group_fits (λ v. difference (v 0) (v 1)) 2 axis s (entries_of sides) w (groups_of_value axis args sides fold)
    (λ g h i d. All-at (λ (y : ArgumentEntry). slope_stop (formed (m.slope args w y.argument y.entry)) ≡ None) (folded_count axis s)
    (λ i. record { argument = 0; entry = member axis s g i }) (entry_formed m args c w g (none g h)) i d) e size)

pub largest_fraction_slopes : (bend : Bend) (k : ℕ) → HasFractionSlopes (largest_meaning bend k)
largest_fraction_slopes bend count args sides is c ws none k e b l = outward_fits bend (weights_of (largest_meaning bend count) args ws 0 e) (number_fits ws _)

pub running_fraction_slopes : HasFractionSlopes running_meaning
running_fraction_slopes args sides is c ws none k e b l = number_fits ws _
