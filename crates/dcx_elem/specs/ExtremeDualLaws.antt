-- The greatest and the least of several arrays: weights that let no unknown lower the sum meet the conditions.
use Rattle.std.proofs.Common.{◌≡◌, ◌≢◌, ℕ, ◌<◌, [], refl, ap, ◌∙◌, subst, pos, negsuc}
use Rattle.std.proofs.lemmas.List.Elements.{All-cons, All-nil}
use Rattle.dcx_math.specs.Rational.{ℚ, whole, ◌+ℚ◌, ◌*ℚ◌}
use Rattle.dcx_math.specs.Sums.{IsNonnegative, rat_sum}
use Rattle.dcx_shape.specs.Sides.{entries_of}
use Rattle.dcx_atom.specs.declared.flags.Bend.{Bend}
use Rattle.dcx_atom.specs.declared.graph.AuxKind.TheVariants.{Free}
use Rattle.dcx_atom.specs.Arrays.{list_below, sides_at}
use Rattle.dcx_atom.specs.Rows.{Filling, form_at, weighted}
use Rattle.dcx_atom.specs.Meaning.{IsMet}
use Rattle.dcx_atom.specs.Bounding.{argument_term, bound_row, outward, unknown_form, total_condition, free_kinds}
use Rattle.dcx_atom.specs.Duality.{no_entries, AreDemanded, HasDualGraph}
use Rattle.dcx_atom.proofs.BoundRows.{length-list_below, weighted-taken}
use Rattle.dcx_atom.proofs.Units.{only_at, at_itself, at_other, one_left, left_over, nothing_over, level_of}
use Rattle.dcx_elem.specs.Extremes.{extreme_meaning}
use Rattle.dcx_elem.specs.ExtremeLaws.{rows_are, row_slopes}

-- what the unknown of an entry leaves
entry_over : (bend : Bend) (count : ℕ) (c : ℕ → ℚ) (w : ℕ → ℕ → ℚ) (t : Filling) (j : ℕ) →
    c j *ℚ form_at (unknown_form j) t +ℚ weighted (list_below count (λ i. bound_row bend j (argument_term i j (whole (pos 1))))) (w j) no_entries t
    ≡ left_over bend (c j) (rat_sum (list_below count (w j))) (t j)
entry_over bend count c w t j =
    ap (λ v. c j *ℚ form_at (unknown_form j) t +ℚ v)
    (ap (λ rows. weighted rows (w j) no_entries t) (rows_are bend count j)
    ∙ weighted-taken bend j (λ i. argument_term i j (whole (pos 1))) (list_below count (λ i. i)) (w j) t (λ i. refl))
    ∙ ap (λ k. left_over bend (c j) (rat_sum (list_below k (w j))) (t j)) (length-list_below count (λ i. i))

demanded : (bend : Bend) (count : ℕ) → AreDemanded (extreme_meaning bend count)
demanded bend count args sides is c w left j b =
    let sum = λ (i : ℕ). rat_sum (list_below count (w i)) in
    let over = λ (t : Filling) (i : ℕ). c i *ℚ form_at (unknown_form i) t +ℚ weighted (list_below count (λ k. bound_row bend i (argument_term k i (whole (pos 1))))) (w i) no_entries t in
    let none : (x : ℚ) (i : ℕ) → i < entries_of sides → i ≢ j → over (only_at j x) i ≡ whole (pos 0) =
    λ x i l d. entry_over bend count c w (only_at j x) i ∙ ap (left_over bend (c i) (sum i)) (at_other j x i d) ∙ nothing_over bend (c i) (sum i) in
    let here : (x : ℚ) → IsNonnegative (left_over bend (c j) (sum j) x) =
    λ x. subst IsNonnegative (entry_over bend count c w (only_at j x) j ∙ ap (left_over bend (c j) (sum j)) (at_itself j x))
    (one_left (entries_of sides) j (over (only_at j x)) b (none x) (left (only_at j x) (λ k e. absurd (free_kinds (entries_of (sides_at args 0)) k e)))) in
    All-cons IsMet (total_condition Free (outward bend (c j)) (list_below count (w j))) []
    (level_of bend (c j) (sum j) (here (whole (pos 1))) (here (whole (negsuc 0)))) (All-nil IsMet)

pub extreme_duality : (bend : Bend) (count : ℕ) → HasDualGraph (extreme_meaning bend count)
extreme_duality bend count = record { slopes = row_slopes bend count; demanded = demanded bend count }
