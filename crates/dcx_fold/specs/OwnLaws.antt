-- The graphs of these calls speak of no unknowns but their own.
use Rattle.std.proofs.Common.{◌≡◌, ℕ, zero, suc, ◌+◌, ◌*◌, ◌<◌, arith, List, length, map, Some, sym, ap, ◌∙◌, subst, replicate, pos}
use Rattle.std.proofs.lemmas.List.{length-replicate}
use Rattle.dcx_math.specs.Rational.{ℚ, whole}
use Rattle.dcx_shape.specs.declared.shape.Sides.{Sides}
use Rattle.dcx_shape.specs.Sides.{entries_of}
use Rattle.dcx_atom.specs.declared.axis.Axis.{Axis}
use Rattle.dcx_atom.specs.declared.flags.Bend.{Bend}
use Rattle.dcx_atom.specs.declared.flags.Bend.TheVariants.{Convex, Concave}
use Rattle.dcx_atom.specs.declared.graph.AuxKind.TheVariants.{Free, Nonneg}
use Rattle.dcx_atom.specs.Arrays.{sides_at, list_below, joined_below}
use Rattle.dcx_atom.specs.Axis.{folded_count}
use Rattle.dcx_atom.specs.Bounding.{argument_term, unknown_term, bound_row}
use Rattle.dcx_atom.specs.OwnUnknowns.{AreOwnTerms, AreOwnRows, IsOwnForm, HasOwnUnknowns}
use Rattle.dcx_atom.proofs.Lists.{among_parts}
use Rattle.dcx_atom.proofs.OwnTerms.{rows_below, rows_joined, form_below, bound_own, bounds_own}
use Rattle.dcx_fold.specs.declared.folding.Fold.{Fold}
use Rattle.dcx_fold.specs.declared.folding.Fold.TheVariants.{Max, Min, Norm1, NormInf}
use Rattle.dcx_fold.specs.Groups.{groups, member, fold_sides}
use Rattle.dcx_fold.specs.GroupLaws.{is_fold, first_is, all_members}
use Rattle.dcx_fold.specs.Folds.{fold_bend, fold_kind, factors, unknown_of, unknowns, group_rows, group_form, fold_meaning}
use Rattle.dcx_fold.specs.FoldLaws.{groups_of_value}
use Rattle.dcx_fold.specs.Largest.{level_row, level_form, largest_meaning}
use Rattle.dcx_fold.specs.Running.{running_rows, running_meaning}
use Rattle.dcx_fold.specs.RunningLaws.{is_running}

-- ---- folds
-- each member of a group has rows that put an unknown beyond it
rows_own : (n m : ℕ) (bend : Bend) (unknown place : ℕ → ℕ) (qs : List ℚ) → ((i : ℕ) → i < m → unknown i < n) →
    AreOwnRows n (joined_below m (λ i. map (λ q. bound_row bend (unknown i) (argument_term 0 (place i) q)) qs))
rows_own n m bend unknown place qs within =
    rows_joined n m (λ i. map (λ q. bound_row bend (unknown i) (argument_term 0 (place i) q)) qs)
    (λ i b. bounds_own n (unknown i) bend (argument_term 0 (place i)) qs (within i b) (λ q. tt))

module _ (axis : Axis) (args : List Sides) (sides : Sides) (is : fold_sides axis args ≡ Some sides) where
  abbrev s : Sides
  s = sides_at args 0

  abbrev n : ℕ
  n = folded_count axis s

  group_within : (k : ℕ) → k < entries_of sides → k < groups axis s
  group_within k b = subst (λ m. k < m) (groups_of_value axis args sides (is_fold axis args sides is)) b

  member_within : (k i : ℕ) → k < entries_of sides → i < n → k * n + i < entries_of s
  member_within k i b c =
      let fold = is_fold axis args sides is in
      let all : entries_of s ≡ groups axis s * n =
      subst (λ r. entries_of r ≡ groups axis r * folded_count axis r) (sym (first_is axis args sides fold)) (all_members axis fold.from sides fold.sides) in
      subst (λ m. k * n + i < m) (sym all) (among_parts k i n (groups axis s) (group_within k b) c)

  within : (p : Fold) (k i : ℕ) → k < entries_of sides → i < n → unknown_of p n k i < unknowns p axis s
  within Max k i b c = group_within k b
  within Min k i b c = group_within k b
  within Norm1 k i b c = member_within k i b c
  within NormInf k i b c = group_within k b

  form_own : (p : Fold) (k : ℕ) → k < entries_of sides → IsOwnForm (unknowns p axis s) (group_form p n k)
  form_own Max k b = (group_within k b, tt)
  form_own Min k b = (group_within k b, tt)
  form_own Norm1 k b = form_below (entries_of s) n (λ i. record { aux = k * n + i; coefficient = whole (pos 1) }) (λ i c. member_within k i b c)
  form_own NormInf k b = (group_within k b, tt)

pub fold_own : (p : Fold) (axis : Axis) → HasOwnUnknowns (fold_meaning p axis)
fold_own p axis args sides is =
    let s = sides_at args 0 in
    let n = folded_count axis s in
    let count : unknowns p axis s ≡ length (replicate (unknowns p axis s) (fold_kind p)) = sym (length-replicate (unknowns p axis s) (fold_kind p)) in
    record {
      rows = λ k b. subst (λ m. AreOwnRows m (group_rows p axis s k)) count
          (rows_own (unknowns p axis s) n (fold_bend p) (unknown_of p n k) (member axis s k) (factors p) (λ i c. within axis args sides is p k i b c));
      results = λ k b. subst (λ m. IsOwnForm m (group_form p n k)) count (form_own axis args sides is p k b);
    }

-- ---- the largest entries
level_own : (bend : Bend) (n i : ℕ) → i < n → AreOwnTerms (suc n) (level_row bend i)
level_own Convex n i b = (tt, (omega arith, (omega arith, tt)))
level_own Concave n i b = (omega arith, (omega arith, (tt, tt)))

pub largest_own : (bend : Bend) (k : ℕ) → HasOwnUnknowns (largest_meaning bend k)
largest_own bend k args sides is =
    let n = entries_of (sides_at args 0) in
    let count : suc n ≡ suc (length (replicate n Nonneg)) = ap suc (sym (length-replicate n Nonneg)) in
    record {
      rows = λ j b. subst (λ m. AreOwnRows m (list_below n (level_row bend))) count (rows_below (suc n) n (level_row bend) (level_own bend n));
      results = λ j b. subst (λ m. IsOwnForm m (level_form bend k n)) count (omega arith, form_below (suc n) n _ (λ i c. omega arith));
    }

-- ---- the running maximum
running_rows_own : (n j : ℕ) → j < n → AreOwnRows n (running_rows j)
running_rows_own n zero b = (bound_own n 0 Convex (argument_term 0 0 (whole (pos 1))) b tt, tt)
running_rows_own n (suc i) b =
    (bound_own n (suc i) Convex (argument_term 0 (suc i) (whole (pos 1))) b tt, (bound_own n (suc i) Convex (unknown_term i (whole (pos 1))) b (omega arith), tt))

pub running_own : HasOwnUnknowns running_meaning
running_own args sides is =
    let run = is_running args sides is in
    let size : entries_of (sides_at args 0) ≡ entries_of sides = ap (λ xs. entries_of (sides_at xs 0)) run.only ∙ sym (ap entries_of run.is) in
    let count = length-replicate (entries_of (sides_at args 0)) Free in
    record {
      rows = λ j b. running_rows_own _ j (omega (arith, size, count, b));
      results = λ j b. (omega (arith, size, count, b), tt);
    }
