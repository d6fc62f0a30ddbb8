-- The magnitude and the parts above and below 0: weights that let no unknown lower the sum meet the conditions.
use Rattle.std.proofs.Common.{◌≡◌, ◌≢◌, ℕ, ◌<◌, List, [], ◌∷◌, map, length, All, replicate, refl, ap, ◌∙◌, subst, pos}
use Rattle.std.proofs.lemmas.List.Elements.{All-cons, All-nil}
use Rattle.dcx_math.specs.Rational.{ℚ, whole, ◌+ℚ◌, ◌*ℚ◌}
use Rattle.dcx_math.specs.Sums.{IsNonnegative, rat_sum, rat_sum_below}
use Rattle.dcx_shape.specs.Sides.{entries_of}
use Rattle.dcx_atom.specs.declared.flags.Bend.TheVariants.{Convex}
use Rattle.dcx_atom.specs.declared.graph.AuxKind.TheVariants.{Nonneg}
use Rattle.dcx_atom.specs.declared.graph.AuxKind.{AuxKind}
use Rattle.dcx_atom.specs.Arrays.{list_below, sides_at}
use Rattle.dcx_atom.specs.Rows.{Filling, Row, form_at, KindsHold, weighted}
use Rattle.dcx_atom.specs.Meaning.{IsMet}
use Rattle.dcx_atom.specs.Bounding.{argument_term, bound_row, unknown_form, total_condition}
use Rattle.dcx_atom.specs.Duality.{no_entries, HasDualGraph}
use Rattle.dcx_atom.proofs.BoundRows.{weighted-taken}
use Rattle.dcx_atom.proofs.Units.{only_at, at_itself, at_other, one_nonnegative, only_nonnegative, one_left, left_over, nothing_over, at_most_of}
use Rattle.dcx_elem.specs.declared.kinks.Kink.{Kink}
use Rattle.dcx_elem.specs.Kinks.{kink_factors, kink_meaning}
use Rattle.dcx_elem.specs.KinkLaws.{row_slopes}

-- the rows by which unknown j is at least these numbers times entry j
abbrev factor_rows : List ℚ → ℕ → List Row
factor_rows factors j = map (λ q. bound_row Convex j (argument_term 0 j q)) factors

-- what the unknown of an entry leaves
entry_over : (factors : List ℚ) (c : ℕ → ℚ) (w : ℕ → ℕ → ℚ) (t : Filling) (j : ℕ) →
    c j *ℚ form_at (unknown_form j) t +ℚ weighted (factor_rows factors j) (w j) no_entries t ≡ left_over Convex (c j) (rat_sum (list_below (length factors) (w j))) (t j)
entry_over factors c w t j = ap (λ v. c j *ℚ form_at (unknown_form j) t +ℚ v) (weighted-taken Convex j (argument_term 0 j) factors (w j) t (λ q. refl))

demanded : (factors : List ℚ) (kinds : List AuxKind) (size : ℕ) (c : ℕ → ℚ) (w : ℕ → ℕ → ℚ) →
    ((t : Filling) → KindsHold kinds t → IsNonnegative (rat_sum_below size (λ j. c j *ℚ form_at (unknown_form j) t +ℚ weighted (factor_rows factors j) (w j) no_entries t))) →
    (j : ℕ) → j < size → All IsMet (total_condition Nonneg (c j) (list_below (length factors) (w j)) ∷ [])
demanded factors kinds size c w left j b =
    let t = only_at j (whole (pos 1)) in
    let over = λ (i : ℕ). c i *ℚ form_at (unknown_form i) t +ℚ weighted (factor_rows factors i) (w i) no_entries t in
    let sum = λ (i : ℕ). rat_sum (list_below (length factors) (w i)) in
    let none : (i : ℕ) → i < size → i ≢ j → over i ≡ whole (pos 0) =
    λ i l d. entry_over factors c w t i ∙ ap (left_over Convex (c i) (sum i)) (at_other j (whole (pos 1)) i d) ∙ nothing_over Convex (c i) (sum i) in
    let here = one_left size j over b none (left t (λ k e. only_nonnegative j (whole (pos 1)) one_nonnegative k)) in
    All-cons IsMet (total_condition Nonneg (c j) (list_below (length factors) (w j))) []
    (at_most_of (c j) (sum j) (subst IsNonnegative (entry_over factors c w t j ∙ ap (left_over Convex (c j) (sum j)) (at_itself j (whole (pos 1)))) here)) (All-nil IsMet)

pub kink_duality : (p : Kink) → HasDualGraph (kink_meaning p)
kink_duality p = record {
  slopes = row_slopes p;
  demanded = λ args sides is c w. demanded (kink_factors p) (replicate (entries_of (sides_at args 0)) Nonneg) (entries_of sides) c w;
}
