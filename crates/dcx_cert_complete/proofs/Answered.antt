-- An answer of the rows of a program bounds its forms, and the multipliers of the rows of the graphs are at least 0.
use Rattle.std.proofs.Common.{◌≡◌, ℕ, suc, ◌+◌, ◌<◌, arith, true, false, List, [], ◌∷◌, length, map, Some, option_map, slice_get, refl, sym, ap, ap₂, ◌∙◌, zero-add}
use Rattle.std.specs.List.{range_with_len}
use Rattle.std.proofs.lemmas.Option.{slice_get-map}
use Rattle.dcx_math.specs.Rational.{ℚ, ◌+ℚ◌, ◌*ℚ◌, ◌≤ℚ◌}
use Rattle.dcx_math.specs.Sums.{IsNonnegative}
use Rattle.dcx_math.proofs.Orders.{≤ℚ_trans, ≤ℚ-from_≡, +ℚ_assoc}
use Rattle.dcx_math.proofs.Sums.{rat_sum_below-same}
use Rattle.dcx_math.proofs.Lists.{element_at}
use Rattle.dcx_atom.specs.declared.array.Array.{Array}
use Rattle.dcx_atom.specs.Arrays.{numbers_of}
use Rattle.dcx_convex.specs.Nodes.{Setting}
use Rattle.dcx_convex.specs.Problems.{objective_of, gap_of}
use Rattle.dcx_convex.specs.Problems as convex
use Rattle.dcx_convex.specs.Answers.{Multipliers, weighed, penalty_of}
use Rattle.dcx_convex.specs.Reductions.{Unknowns}
use Rattle.dcx_convex.specs.Rules.{Rules}
use Rattle.dcx_tree.specs.declared.constraint.Constraint.{Constraint}
use Rattle.dcx_tree.specs.declared.problem.Problem.{Problem}
use Rattle.dcx_tree.specs.Meaning.{convex_constraint, convex_problem}
use Rattle.dcx_linear.specs.Rows.{RowAt, LinearProgram, AreOfKinds, combined, combined_from, HaveSigns}
use Rattle.dcx_unknowns.specs.Layout.{constraint_rows, unknown_kinds, rows_at}
use Rattle.dcx_unknowns.proofs.Places.{in_right}
use Rattle.dcx_unknowns.specs.Equations.{Forms, graph_numbers, reduced_with}
use Rattle.dcx_unknowns.proofs.Lists.{same_place, flat_first}
use Rattle.dcx_unknowns.proofs.OfKinds.{nonneg_from, nonpos_from}
use Rattle.dcx_postsolve.specs.Programs.{gap_rows, bound_row, IsProgramOf, multipliers_of}
use Rattle.dcx_postsolve.proofs.Rows.{combined_append, combined_gaps}
use Rattle.dcx_postsolve.specs.Laws.{AreSameMultipliers}
use Rattle.dcx_cert_complete.specs.Rows.{rows_until, BoundsForms}
use Rattle.dcx_cert_complete.proofs.Numbered.{numbers_at, numbers_at-length}

-- ---- multipliers that are the same at the entries of the constraints
weighed_same : (gap : convex.Constraint → ℕ → ℚ) (cs : List Constraint) (m n : Multipliers) → AreSameMultipliers cs m n
    → weighed gap (map convex_constraint cs) m ≡ weighed gap (map convex_constraint cs) n
weighed_same gap [] m n h = refl
weighed_same gap (c ∷ cs) m n h =
    ap₂ ◌+ℚ◌ (rat_sum_below-same (constraint_rows c) _ _ (λ j b. ap (λ z. z *ℚ gap (convex_constraint c) j) (h 0 c refl j b)))
    (weighed_same gap cs (λ k. m (suc k)) (λ k. n (suc k)) (λ k d at j b. h (suc k) d at j b))

module _ (rules : Rules) (p : Problem) (s : Setting) (forms : Forms) (l : LinearProgram) (is : IsProgramOf l (convex_problem p) (reduced_with rules p s forms)) (m : ℕ → ℚ) where
  -- the number of the first row of a graph
  abbrev pub first : ℕ
  first = length (gap_rows forms (convex_problem p).constraints)

  abbrev bounds : List RowAt
  bounds = map bound_row (graph_numbers rules p s forms)

  kinds_are : (y : Unknowns) → AreOfKinds (unknown_kinds rules p) y → AreOfKinds l.kinds y
  kinds_are y h = (is.assignments y).1 (record { nonneg = nonneg_from (unknown_kinds rules p) y h; nonpos = nonpos_from (unknown_kinds rules p) y h })

  combined_is : (y : Unknowns) → combined l m y ≡ penalty_of (convex_problem p) (multipliers_of (convex_problem p) m) (forms y) +ℚ combined_from m first bounds y
  combined_is y =
      ap (λ rs. combined_from m 0 rs y) is.rows ∙ combined_append m y 0 (gap_rows forms (convex_problem p).constraints) bounds
      ∙ ap₂ ◌+ℚ◌ (combined_gaps m y forms 0 (convex_problem p).constraints) (ap (λ k. combined_from m k bounds y) (zero-add first))

  module _ (duals : List Array) (same : AreSameMultipliers p.constraints (multipliers_of (convex_problem p) m) (numbers_of duals)) where
    penalty_is : (y : Unknowns) → penalty_of (convex_problem p) (multipliers_of (convex_problem p) m) (forms y) ≡ penalty_of (convex_problem p) (numbers_of duals) (forms y)
    penalty_is y = weighed_same (gap_of (forms y)) p.constraints (multipliers_of (convex_problem p) m) (numbers_of duals) same

    pub optimal_bounds : (v : ℚ) → ((y : Unknowns) → AreOfKinds l.kinds y → v ≤ℚ (l.objective y +ℚ combined l m y)) → BoundsForms rules p s forms duals true v m first
    optimal_bounds v bound y h =
        ≤ℚ_trans (bound y (kinds_are y h))
        (≤ℚ-from_≡ (ap₂ ◌+ℚ◌ (is.objective y) (combined_is y ∙ ap (λ z. z +ℚ combined_from m first bounds y) (penalty_is y))
        ∙ sym (+ℚ_assoc (objective_of (convex_problem p) (forms y)) (penalty_of (convex_problem p) (numbers_of duals) (forms y)) (combined_from m first bounds y))))

    pub infeasible_bounds : (v : ℚ) → ((y : Unknowns) → AreOfKinds l.kinds y → v ≤ℚ combined l m y) → BoundsForms rules p s forms duals false v m first
    infeasible_bounds v bound y h =
        ≤ℚ_trans (bound y (kinds_are y h)) (≤ℚ-from_≡ (combined_is y ∙ ap (λ z. z +ℚ combined_from m first bounds y) (penalty_is y)))

  -- ---- the rows of the graphs
  abbrev numbers : ℕ → List (Unknowns → ℚ)
  numbers = numbers_at rules p s forms

  -- row q of node i, which is at most 0
  pub row_there : (i q : ℕ) → i < length p.tree → q < length (rows_at rules p i) → (row : Unknowns → ℚ) × (slice_get l.rows (first + (rows_until rules p i + q)) ≡ Some (bound_row row))
  row_there i q b c =
      let (row, here) = element_at (numbers i) q (omega (arith, c, numbers_at-length rules p s forms i)) in
      let at = flat_first numbers (length p.tree) i q row b here in
      let moved : slice_get (graph_numbers rules p s forms) (rows_until rules p i + q) ≡ Some row =
      ap (λ k. slice_get (graph_numbers rules p s forms) (k + q)) (sym (same_place numbers (rows_at rules p) (numbers_at-length rules p s forms) (range_with_len 0 i))) ∙ at in (
        row,
        ap (λ rs. slice_get rs (first + (rows_until rules p i + q))) is.rows
            ∙ in_right (gap_rows forms (convex_problem p).constraints) bounds (rows_until rules p i + q)
            ∙ slice_get-map bound_row (graph_numbers rules p s forms) (rows_until rules p i + q) ∙ ap (option_map bound_row) moved,
      )

  pub rows_signed : HaveSigns l m → (i q : ℕ) → i < length p.tree → q < length (rows_at rules p i) → IsNonnegative (m (first + (rows_until rules p i + q)))
  rows_signed h i q b c = let (row, at) = row_there i q b c in h (first + (rows_until rules p i + q)) (bound_row row) at refl
