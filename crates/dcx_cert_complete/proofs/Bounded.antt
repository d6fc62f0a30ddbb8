-- What bounds a program at all unknowns of their kinds bounds it at all points and unknowns of the graphs.
use Rattle.std.proofs.Common.{◌≡◌, ℕ, ◌+◌, ◌<◌, arith, Bool, true, false, List, length, Option, None, refl, sym, ap, ap₂, ◌∙◌, subst}
use Rattle.std.proofs.lemmas.Option.{none-some, slice_get_within}
use Rattle.dcx_point.specs.Pairs.{Pairs}
use Rattle.dcx_convex.specs.Certificates.{is_fixed}
use Rattle.dcx_tree.specs.Values.{array_at}
use Rattle.dcx_cert_build.proofs.Fixed.{unfixed_is_reduced}
use Rattle.dcx_cert_bound.specs.Fixed.{AreFixedValues}
use Rattle.dcx_math.specs.Rational.{◌+ℚ◌, ◌-ℚ◌}
use Rattle.dcx_math.specs.Sums.{IsNonnegative}
use Rattle.dcx_math.proofs.Orders.{≤ℚ_trans, ≤ℚ-from_≡, +ℚ-≤ℚ_left}
use Rattle.dcx_math.proofs.Lists.{mapped}
use Rattle.dcx_shape.specs.Sides.{entries_of}
use Rattle.dcx_atom.specs.declared.array.Array.{Array}
use Rattle.dcx_atom.specs.Arrays.{numbers_of}
use Rattle.dcx_atom.specs.Steps.{rows_before}
use Rattle.dcx_call.specs.Atoms.{atom_meaning}
use Rattle.dcx_convex.specs.Nodes.{Numbers}
use Rattle.dcx_convex.specs.Problems.{Constraint, minimized, gap_of}
use Rattle.dcx_convex.specs.Answers.{penalty_of}
use Rattle.dcx_convex.proofs.MapBack.{weighed_same}
use Rattle.dcx_tree.specs.declared.problem.Problem.{Problem}
use Rattle.dcx_tree.specs.Nodes.{arg_sides}
use Rattle.dcx_tree.specs.Meaning.{names_in, sense_of, convex_constraint, convex_problem, setting_of}
use Rattle.dcx_cert_complete.specs.Bounded.{started}
use Rattle.dcx_cert_complete.specs.Laws.{FormsBoundPrograms}
use Rattle.dcx_cert_complete.proofs.Families.{first_same, first_rows}
use Rattle.dcx_cert_complete.proofs.Lifting.{u, of_kinds, family}
use Rattle.dcx_cert_complete.proofs.Rowwise.{rows_count, rows_within, all_rows}

module _ (p : Problem) (duals : List Array) (f g : ℕ → Numbers) (same : (i : ℕ) → i < length p.tree → f i ≡ g i) where
  penalty_same : penalty_of (convex_problem p) (numbers_of duals) f ≡ penalty_of (convex_problem p) (numbers_of duals) g
  penalty_same = weighed_same (gap_of f) (gap_of g) (convex_problem p).constraints (numbers_of duals) (λ k c at j.
      let (d, there, is) = mapped convex_constraint p.constraints k c at in
      subst (λ (e : Constraint). gap_of f e j ≡ gap_of g e j) is
      (ap₂ ◌-ℚ◌ (ap (λ (v : Numbers). v j) (same d.left.0 (p.constraints_kept.left k d there).there)) (ap (λ (v : Numbers). v j) (same d.right.0 (p.constraints_kept.right k d there).there))))

  -- the coefficients at the start speak of nodes alone
  started_same : (b : Bool) → started b p duals f ≡ started b p duals g
  started_same true = ap₂ ◌+ℚ◌ (ap (λ (v : Numbers). minimized (sense_of p.sense) (v 0)) (same p.objective.0 p.objective_kept.there)) penalty_same
  started_same false = penalty_same

-- a node whose value isn't known reaches a variable
pub unfixed : (p : Problem) (setting : Pairs) (values : List (Option Array)) → AreFixedValues p setting values → (i : ℕ) → i < length p.tree → array_at values i ≡ None
    → is_fixed (convex_problem p).nodes i ≡ false
unfixed p setting values fixed i b none = by (is_fixed (convex_problem p).nodes i) refl
  where
    by : (t : Bool) → is_fixed (convex_problem p).nodes i ≡ t → t ≡ false
    by false e = refl
    by true e = let v = fixed.fixed i b e in absurd (none-some v.array (sym none ∙ v.there))

pub forms_bound_programs : FormsBoundPrograms
forms_bound_programs rules p setting values forms duals weights with_objective v m first fixed all are bound = record {
  families = λ x dom t filled. (forms (u rules p setting values fixed forms all x dom t filled), family rules p setting values fixed forms all x dom t filled);
  weighed = λ i n at none a same j r b l.
      let inside = slice_get_within p.tree i n at in
      let q = rows_before (atom_meaning a) (arg_sides p.tree n) j + r in
      let within = rows_within (atom_meaning a) (arg_sides p.tree n) (entries_of n.sides) j r b l in
      let reduced = unfixed_is_reduced rules p i (unfixed p setting values fixed i inside none) in
      subst IsNonnegative (sym (are.weights_are i n at none a same q within))
      (are.signs i q inside (subst (λ k. q < k) (sym (rows_count rules p i n at a same reduced)) within));
  bound = λ x dom t filled g own.
      let w = u rules p setting values fixed forms all x dom t filled in
      let f = forms w in
      let mine = family rules p setting values fixed forms all x dom t filled in
      let same : (i : ℕ) → i < length p.tree → f i ≡ g i =
      λ i b. first_same (names_in p) p.tree p.nodes (setting_of p setting) values x t t f g mine own (length p.tree) (omega arith) (λ k l. refl) i b in
      ≤ℚ_trans (bound w (of_kinds rules p setting values fixed forms all x dom t filled))
      (≤ℚ_trans (+ℚ-≤ℚ_left (started with_objective p duals f) (all_rows rules p setting values fixed forms all x dom t filled weights m first are))
      (≤ℚ-from_≡ (ap₂ ◌+ℚ◌ (started_same p duals f g same with_objective) (first_rows p.tree p.nodes values weights (length p.tree) (omega arith) f g t t same (λ k l. refl)))));
}
