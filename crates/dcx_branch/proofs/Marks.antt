-- The point of a node whose marked entries are whole: it is a whole point.
use Rattle.std.proofs.Common.{◌≡◌, ◌≢◌, ◌⊎◌, inl, inr, ℕ, zero, suc, ◌<◌, Option, Some, None, refl, sym, ap, ◌∙◌, subst, pos, arith}
use Rattle.std.specs.Prelude.{ℤ, negsuc, ◌≤ℤ◌}
use Rattle.std.proofs.Math.Path.{fun_ext}
use Rattle.std.proofs.lemmas.Int.{ints}
use Rattle.dcx_math.specs.Rational.{ℚ, whole, ◌≤ℚ◌}
use Rattle.dcx_math.proofs.Orders.{≤ℚ_trans, ≤ℚ-from_≡, whole-≤ℤ, ≤ℚ-whole}
use Rattle.dcx_shape.specs.Sides.{entries_of}
use Rattle.dcx_point.specs.Pairs.{Pairs}
use Rattle.dcx_call.specs.declared.attribute.Attribute.{Attribute}
use Rattle.dcx_call.specs.declared.attribute.Whole.{Whole}
use Rattle.dcx_call.specs.declared.attribute.Whole.TheVariants.{Not, Integer, Boolean}
use Rattle.dcx_call.specs.declared.attribute.Variable.{Variable}
use Rattle.dcx_convex.specs.Nodes.{Setting, Keeps}
use Rattle.dcx_convex.proofs.Signs.{first_in}
use Rattle.dcx_tree.specs.declared.problem.Problem.{Problem}
use Rattle.dcx_tree.specs.Nodes.{variable_attribute}
use Rattle.dcx_tree.specs.Meaning.{IsFeasible, objective_at, point_of}
use Rattle.dcx_linear.specs.FormTerms.{Unknowns}
use Rattle.dcx_unknowns.specs.Unknowns.{sides_in, first_unknown, unknown_from, number_at, point_at}
use Rattle.dcx_unknowns.specs.Laws.{AreAlike}
use Rattle.dcx_unknowns.proofs.Domains.{to_variables}
use Rattle.dcx_unknowns.proofs.Points.{array_is}
use Rattle.dcx_postsolve.specs.Points.{numbered}
use Rattle.dcx_postsolve.proofs.Alike.{arrays_are_points}
use Rattle.dcx_postsolve.proofs.Carrying.{feasible_alike, objective_alike}
use Rattle.dcx_right.specs.Points.{HasEntry, IsWhole, KeepsMark, IsWholePoint}
use Rattle.dcx_right.specs.Boxes.{IsWithin, IsAtMost, Box}
use Rattle.dcx_branch.specs.declared.place.Place.{Place}
use Rattle.dcx_branch.specs.Places.{places}
use Rattle.dcx_branch.specs.Run.{AreWhole}
use Rattle.dcx_branch.specs.Answers.{IsPointAt}
use Rattle.dcx_branch.proofs.Known.{IsNested}
use Rattle.dcx_branch.proofs.Members.{Each, place_at, place_listed}
use Rattle.dcx_branch.proofs.Entries.{entry_unknown}

-- ---- one entry
-- an integer between 0 and 1 is 0 or 1
zero_or_one : (m : ℤ) → pos 0 ≤ℤ m → m ≤ℤ pos 1 → (m ≡ pos 0) ⊎ (m ≡ pos 1)
zero_or_one (pos zero) h k = inl refl
zero_or_one (pos (suc n)) h k = inr (omega (arith, ints))
zero_or_one (negsuc n) h k = absurd (omega (arith, ints))

keeps_mark : (w : Whole) (x : ℚ) → (w ≢ Not → IsWhole x) → (w ≡ Boolean → (whole (pos 0) ≤ℚ x) × (x ≤ℚ whole (pos 1))) → KeepsMark w x
keeps_mark Not x h k = tt
keeps_mark Integer x h k = h (λ e. cc)
keeps_mark Boolean x h k =
    let (m, e) = h (λ d. cc) in
    let (low, high) = k refl in
    elim (zero_or_one m (≤ℚ-whole (pos 0) m (≤ℚ_trans low (≤ℚ-from_≡ e))) (≤ℚ-whole m (pos 1) (≤ℚ_trans (≤ℚ-from_≡ (sym e)) high))) [
      | inl z ↦ inl (e ∙ ap whole z)
      | inr z ↦ inr (e ∙ ap whole z)
    ]

-- an entry of a boolean variable is at least 0 in the domain
nonnegative_there : (w : Whole) (a : Attribute) (v : Variable) (x : ℕ → ℚ) → w ≡ Boolean → Keeps (variable_attribute w a) (sides_in v) x → (j : ℕ) → j < entries_of (sides_in v) → whole (pos 0) ≤ℚ x j
nonnegative_there Not a v x e h j b = absurd (cc)
nonnegative_there Integer a v x e h j b = absurd (cc)
nonnegative_there Boolean a v x e h j b = h j b

module _ (p : Problem) (s : Setting) (x : Unknowns) (whole_places : AreWhole (places p.variables) x) (box : Box) (nested : IsNested p box)
    (within : Each (λ (q : Place). IsWithin (box q.variable q.entry) (x q.unknown)) (places p.variables)) (feasible : IsFeasible p s (point_at p.variables x)) where
  -- ---- by the unknown of the entry
  module _ (k j : ℕ) (v : Variable) (has : HasEntry p k j v) where
    -- an entry without an unknown is 0
    entry_none : unknown_from (first_unknown p.variables k) v j ≡ None → point_at p.variables x k j ≡ whole (pos 0)
    entry_none e =
        ap (λ (f : ℕ → ℚ). f j) (array_is p.variables x k v has.variable)
        ∙ first_in (entries_of (sides_in v)) (λ i. number_at x (unknown_from (first_unknown p.variables k) v i)) j has.entry
        ∙ ap (number_at x) e

    is_whole_by : (o : Option ℕ) → unknown_from (first_unknown p.variables k) v j ≡ o → v.whole ≢ Not → IsWhole (point_at p.variables x k j)
    is_whole_by None e marked = (pos 0, entry_none e)
    is_whole_by (Some n) e marked =
        let (i, at) = place_listed p.variables k v j n has.variable marked has.entry e in
        let (m, is) = whole_places i (place_at k v.whole j n) at in
        (m, entry_unknown p x k j n v has.variable has.entry e ∙ is)

    at_most_one_by : (o : Option ℕ) → unknown_from (first_unknown p.variables k) v j ≡ o → v.whole ≡ Boolean → point_at p.variables x k j ≤ℚ whole (pos 1)
    at_most_one_by None e b = let low : pos 0 ≤ℤ pos 1 = omega (arith, ints) in ≤ℚ_trans (≤ℚ-from_≡ (entry_none e)) (whole-≤ℤ (pos 0) (pos 1) low)
    at_most_one_by (Some n) e b =
        let (i, at) = place_listed p.variables k v j n has.variable (λ d. let no : Boolean ≡ Not = sym b ∙ d in cc) has.entry e in
        let (m, up, low) = nested (place_at k v.whole j n) (i, at) b in
        ≤ℚ_trans (≤ℚ-from_≡ (entry_unknown p x k j n v has.variable has.entry e))
        (≤ℚ_trans (subst (λ o. IsAtMost o (x n)) up (within i (place_at k v.whole j n) at).upper) (whole-≤ℤ m (pos 1) low))

    mark_kept : KeepsMark v.whole (point_at p.variables x k j)
    mark_kept =
        let o = unknown_from (first_unknown p.variables k) v j in
        keeps_mark v.whole (point_at p.variables x k j) (λ marked. is_whole_by o refl marked)
        (λ b. (nonnegative_there v.whole v.attribute v (point_at p.variables x k) b (to_variables p (point_at p.variables x) feasible.domain k v has.variable) j has.entry, at_most_one_by o refl b))

  -- ---- the arrays that are handed out
  module _ (point : Pairs) (at : IsPointAt p x point) where
    alike : AreAlike p.variables (point_at p.variables x) (point_of p point)
    alike =
        let same : numbered at.numbers ≡ x = fun_ext at.are in
        subst (λ (u : Unknowns). AreAlike p.variables (point_at p.variables u) (point_of p point)) same (arrays_are_points p at.numbers point at.of_variables)

    pub whole_point : IsWholePoint p s (point_of p point)
    whole_point = record {
      feasible = feasible_alike p s (point_at p.variables x) (point_of p point) alike feasible;
      marks = λ k j v has. subst (KeepsMark v.whole) (alike k v has.variable j has.entry) (mark_kept k j v has);
    }

    pub same_objective : objective_at p s (point_at p.variables x) ≡ objective_at p s (point_of p point)
    same_objective = objective_alike p s (point_at p.variables x) (point_of p point) alike
