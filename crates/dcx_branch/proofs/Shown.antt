-- What the answer of a node's scaled program shows of the node's box, in the numbers that a leaf is handed out with.
use Rattle.std.proofs.Common.{◌≡◌, ℕ, zero, suc, ◌+◌, ◌-◌, ◌<◌, ◌≤◌, arith, List, [], ◌∷◌, ◌++◌, length, map, Some, Ok, slice_get}
use Rattle.std.proofs.Common.{refl, sym, ap, ap₂, ◌∙◌, subst, pos, true, add-zero, append_assoc, length-append, drop}
use Rattle.std.specs.Prelude.{Result, sum_by, slice_range, option_map}
use Rattle.std.specs.List.{All}
use Rattle.std.proofs.lemmas.List.{length-map, length-take-le, length-drop}
use Rattle.std.proofs.lemmas.Option.{none-some, same_Some, slice_get-map, slice_get_within}
use Rattle.dcx_math.specs.Rational.{ℚ, whole, ◌+ℚ◌, ◌≤ℚ◌}
use Rattle.dcx_math.proofs.Lists.{element_at, mapped}
use Rattle.dcx_frac.specs.declared.fraction.Frac.{Frac}
use Rattle.dcx_frac.specs.declared.fraction.Passes.{Passes}
use Rattle.dcx_frac.specs.Frac.{value}
use Rattle.dcx_frac.specs.Fits.{Fits}
use Rattle.dcx_atom.specs.declared.array.Array.{Array}
use Rattle.dcx_convex.specs.Nodes.{Setting}
use Rattle.dcx_convex.specs.Answers.{Multipliers}
use Rattle.dcx_tree.specs.declared.problem.Problem.{Problem}
use Rattle.dcx_tree.specs.Meaning.{convex_problem, convex_constraint, IsFeasible, objective_at}
use Rattle.dcx_linear.specs.declared.row.RowKind.TheVariants.{AtMost}
use Rattle.dcx_linear.specs.FormTerms.{Unknowns}
use Rattle.dcx_linear.specs.Rows.{RowAt, LinearProgram, IsOptimal, IsInfeasible, IsUnbounded}
use Rattle.dcx_tab.specs.declared.program.Program as tab
use Rattle.dcx_lp_answer.specs.declared.answer.LpStatus.{LpStatus}
use Rattle.dcx_lp_answer.specs.declared.answer.LpStatus.TheVariants as status
use Rattle.dcx_lp_answer.specs.declared.answer.LpAnswer.{LpAnswer}
use Rattle.dcx_lp_answer.specs.Right.{is_inequality, multiplier_at, IsRight}
use Rattle.dcx_lp_answer.specs.Multipliers.{multiplier_of}
use Rattle.dcx_lp_answer.proofs.Formed.{formed_is_right}
use Rattle.dcx_std.specs.Answers.{IsRightForRowsAs}
use Rattle.dcx_std.specs.IntegerRows.{IsMade}
use Rattle.dcx_std.specs.Solutions.{HasKinds, row_at, unknowns_at, linear_program}
use Rattle.dcx_std.proofs.ScaledProgram.{scaled_program}
use Rattle.dcx_std.proofs.Solutions.{facts_of, inequality_there}
use Rattle.dcx_std.proofs.RightAnswers.{rows_right_as}
use Rattle.dcx_unknowns.specs.Layout.{constraint_rows}
use Rattle.dcx_unknowns.specs.Unknowns.{point_at}
use Rattle.dcx_postsolve.specs.Programs as mapping
use Rattle.dcx_postsolve.specs.Programs.{gap_rows, multipliers_of}
use Rattle.dcx_postsolve.specs.Duals.{AreDuals, first_row}
use Rattle.dcx_right.specs.Answers.{multipliers_in}
use Rattle.dcx_postsolve.specs.Laws.{AreSameMultipliers, HaveSlacks}
use Rattle.dcx_postsolve.proofs.Carrying.{multipliers_same, penalty_same}
use Rattle.dcx_postsolve.proofs.DualLaws.{right_multiplier}
use Rattle.dcx_postsolve.proofs.Lists.{in_front, behind}
use Rattle.dcx_graph.specs.Program.{Program}
use Rattle.dcx_graph.specs.Answers.{rows_of, IsReducedAt}
use Rattle.dcx_graph.proofs.Slacks.{rows_enough, have_slacks, multiplier_is}
use Rattle.dcx_right.specs.Boxes.{Box}
use Rattle.dcx_right.specs.Trees.{Weight, all_exceeded, BoundsBelow, ShowsEmpty}
use Rattle.dcx_branch.specs.declared.bound.BoundAt.{BoundAt}
use Rattle.dcx_answer.specs.declared.branch_tree.BoundWeight.{BoundWeight}
use Rattle.dcx_branch.specs.Rows.{bound_row, bound_rows, node_rows}
use Rattle.dcx_branch.specs.Nodes.{excess, bound_number, node_program, IsBoundOf, weights_from, NodesShow}
use Rattle.dcx_branch.specs.Leaves.{bound_duals, AreBoundDuals, IsLeaf}
use Rattle.dcx_branch.specs.Run.{unknowns_in}
use Rattle.dcx_right.specs.WholeAnswers.{weight_of, shown_by}
use Rattle.dcx_branch.proofs.Lifting.{back}
use Rattle.dcx_branch.proofs.Linear.{kind_is, node_linear}
use Rattle.dcx_branch.proofs.Leaves.{answers_are_leaves}
use Rattle.dcx_branch.proofs.Members.{Each}

-- ---- multipliers that are the same at the entries of the constraints
module _ (p : Problem) (s : Setting) (m n : Multipliers) (same : AreSameMultipliers p.constraints m n) where
  pub below_same : (box : Box) (v : ℚ) (bounds : List Weight) → BoundsBelow p s box v (record { duals = m; bounds = bounds }) → BoundsBelow p s box v (record { duals = n; bounds = bounds })
  below_same box v bounds h = record {
    multipliers = record { duals = multipliers_same p s m n same h.multipliers.duals; bounds = h.multipliers.bounds };
    bound = λ y dom. subst (λ z. v ≤ℚ (objective_at p s y +ℚ z) +ℚ all_exceeded box bounds y) (penalty_same p s m n same y) (h.bound y dom);
  }

  pub empty_same : (box : Box) (g : ℚ) (bounds : List Weight) → ShowsEmpty p s box (record { duals = m; bounds = bounds }) g → ShowsEmpty p s box (record { duals = n; bounds = bounds }) g
  empty_same box g bounds h = record {
    positive = h.positive;
    multipliers = record { duals = multipliers_same p s m n same h.multipliers.duals; bounds = h.multipliers.bounds };
    bound = λ y dom. subst (λ z. g ≤ℚ z +ℚ all_exceeded box bounds y) (penalty_same p s m n same y) (h.bound y dom);
  }

-- ---- the multipliers of bounds
weights_are : (m : ℕ → ℚ) (i : ℕ) (bs : List BoundAt) (ws : List Frac) → length ws ≡ length bs → ((n : ℕ) (w : Frac) → slice_get ws n ≡ Some w → value w ≡ m (i + n))
    → map weight_of (bound_duals bs ws) ≡ weights_from m i bs
weights_are m i [] ws e h = refl
weights_are m i (b ∷ bs) [] e h = absurd (omega (arith, e))
weights_are m i (b ∷ bs) (w ∷ ws) e h =
    let first : value w ≡ m i = h 0 w refl ∙ ap m (add-zero i) in
    ap₂ ◌∷◌ (ap (λ x. let r : Weight = record { variable = b.place.variable; entry = b.place.entry; upper = b.upper; weight = x } in r) first)
    (weights_are m (suc i) bs ws (omega (arith, e)) (λ n v at. let z : i + suc n ≡ suc i + n = omega arith in h (suc n) v at ∙ ap m z))

row_of_bound : (bs : List BoundAt) (i : ℕ) (b : BoundAt) → slice_get bs i ≡ Some b → slice_get (bound_rows bs) i ≡ Some (bound_row b)
row_of_bound [] i b e = absurd (none-some b e)
row_of_bound (a ∷ bs) zero b e = ap (λ (c : BoundAt). Some (bound_row c)) (same_Some a b e)
row_of_bound (a ∷ bs) (suc i) b e = row_of_bound bs i b e

pub rows_counted : (bs : List BoundAt) → length (bound_rows bs) ≡ length bs
rows_counted [] = refl
rows_counted (b ∷ bs) = ap suc (rows_counted bs)

module _ (p : Problem) (s : Setting) (q : Program Frac) (given : IsReducedAt p s q) (box : Box) (bs : List BoundAt) (each : Each (IsBoundOf p box) bs) (fit : All (λ (b : BoundAt). Fits b.limit) bs)
    (known : HasKinds (node_rows q bs)) (program : tab.Program) (a : LpAnswer) (made : IsMade (node_rows q bs) program) (right : IsRight program a) where
  abbrev l : LinearProgram
  l = linear_program (rows_of q)

  abbrev m : ℕ → ℚ
  m = multiplier_at program.columns a

  abbrev pub x : Unknowns
  x = unknowns_in program a

  linear : linear_program (node_rows q bs) ≡ node_program l bs
  linear = node_linear q bs fit

  -- ---- rows
  abbrev gaps : List RowAt
  gaps = gap_rows given.reduction.reduced.forms (map convex_constraint p.constraints)

  abbrev others : List RowAt
  others = map mapping.bound_row given.reduction.reduced.rows ++ map mapping.bound_row (map bound_number bs)

  rows_are : (linear_program (node_rows q bs)).rows ≡ gaps ++ others
  rows_are =
      ap (λ (k : LinearProgram). k.rows) linear
      ∙ ap (λ rows. rows ++ map mapping.bound_row (map bound_number bs)) given.reduction.program.rows
      ∙ append_assoc gaps (map mapping.bound_row given.reduction.reduced.rows) (map mapping.bound_row (map bound_number bs))

  slacks : HaveSlacks program.columns p.constraints
  slacks = have_slacks (node_rows q bs) program known made given.reduction.reduced.forms p.constraints others rows_are

  -- the rows of constraints and those of bounds are there
  pub constraints_there : sum_by constraint_rows p.constraints ≤ length program.rows
  constraints_there = rows_enough (node_rows q bs) program known made given.reduction.reduced.forms p.constraints others rows_are

  pub rows_count : length program.rows ≡ length q.rows + length bs
  rows_count =
      let count = (scaled_program (node_rows q bs) program made).count in
      count ∙ length-append q.rows (bound_rows bs) ∙ ap (λ n. length q.rows + n) (rows_counted bs)

  -- ---- multipliers
  duals_same : (d : List Array) → AreDuals a.status p.constraints a.rows d → AreSameMultipliers p.constraints (multipliers_of (convex_problem p) m) (multipliers_in d)
  duals_same d are k c at j b =
      let z : 0 + (first_row p.constraints k + j) ≡ first_row p.constraints k + j = omega arith in
      multiplier_is 0 p.constraints m k c at j ∙ ap m z ∙ sym (right_multiplier program.columns a p.constraints d slacks are k c at j b)

  bound_slack : (n : ℕ) (b : BoundAt) → slice_get bs n ≡ Some b → is_inequality program.columns (length q.rows + n) ≡ true
  bound_slack n b at =
      let i = length q.rows + n in
      let row = back q.rows (bound_rows bs) n (bound_row b) (row_of_bound bs n b at) in
      let scaled = scaled_program (node_rows q bs) program made in
      inequality_there (node_rows q bs) program known scaled i (facts_of (node_rows q bs) program known scaled i (bound_row b) row) (kind_is b.upper b.place.unknown b.limit)

  bounds_same : (ds : List BoundWeight) → length q.rows + length bs ≤ length a.rows → AreBoundDuals a (length q.rows) bs ds → map weight_of ds ≡ weights_from m (length q.rows) bs
  bounds_same ds enough are =
      let first = length q.rows in
      let to = first + length bs in
      let f = multiplier_of a.status AtMost in
      let ok : Frac → Result Frac Passes = λ w. Ok w in
      let notes = slice_range a.rows first to in
      let total : length notes ≡ length bs = length-take-le (to - first) (drop first a.rows) (omega (arith, length-drop first a.rows, enough)) ∙ omega arith in
      let count : length are.weights ≡ length bs = sym (length-map are.weights ok) ∙ ap length are.formed ∙ length-map notes f ∙ total in
      ap (map weight_of) are.are
      ∙ weights_are m first bs are.weights count
      (λ n w at.
      let formed : slice_get (map f notes) n ≡ Some (Ok w) = ap (λ xs. slice_get xs n) (sym are.formed) ∙ slice_get-map ok are.weights n ∙ ap (λ o. option_map ok o) at in
      let (note, noted, is) = mapped f notes n (Ok w) formed in
      let before = in_front (to - first) (drop first a.rows) n note noted in
      let here : slice_get a.rows (first + n) ≡ Some note = sym (behind first a.rows n) ∙ before.1 in
      let within = slice_get_within are.weights n w at in
      let less : n < length bs = omega (arith, within, count) in
      let (b, at_b) = element_at bs n less in
      formed_is_right program.columns a (first + n) note AtMost w here (bound_slack n b at_b) is)

  -- ---- leaves
  nodes : NodesShow p s l box bs
  nodes = answers_are_leaves given.rules p s l box bs given.accepted given.fits given.reduction each

  right_as : (t : LpStatus) → a.status ≡ t → IsRightForRowsAs t (node_rows q bs) program a
  right_as t e = rows_right_as (node_rows q bs) program known made a right t e

  pub optimal : a.status ≡ status.Optimal → IsOptimal (node_program l bs) (value a.number) x m
  optimal e = subst (λ (k : LinearProgram). IsOptimal k (value a.number) x m) linear (right_as status.Optimal e)

  pub infeasible : a.status ≡ status.Infeasible → IsInfeasible (node_program l bs) (value a.number) m
  infeasible e = subst (λ (k : LinearProgram). IsInfeasible k (value a.number) m) linear (right_as status.Infeasible e)

  pub unbounded : a.status ≡ status.Unbounded → IsUnbounded (node_program l bs) x (unknowns_at program.columns (map value a.ray)) (value a.number) (value a.slope)
  unbounded e = subst (λ (k : LinearProgram). IsUnbounded k x (unknowns_at program.columns (map value a.ray)) (value a.number) (value a.slope)) linear (right_as status.Unbounded e)

  weights_there : (ds : List BoundWeight) → length q.rows + length bs ≤ length a.rows → AreBoundDuals a (length q.rows) bs ds → weights_from m (length l.rows) bs ≡ map weight_of ds
  weights_there ds enough are = ap (λ n. weights_from m n bs) (length-map q.rows row_at) ∙ sym (bounds_same ds enough are)

  pub leaf_bounds : a.status ≡ status.Optimal → length q.rows + length bs ≤ length a.rows → (duals : List Array) (bounds : List BoundWeight) → IsLeaf p a (length q.rows) bs duals bounds
      → BoundsBelow p s box (value a.number) (shown_by duals bounds)
  leaf_bounds e enough duals bounds leaf =
      subst (λ ws. BoundsBelow p s box (value a.number) (record { duals = multipliers_in duals; bounds = ws })) (weights_there bounds enough leaf.bounds_are)
      (below_same p s (multipliers_of (convex_problem p) m) (multipliers_in duals) (duals_same duals leaf.constraints) box (value a.number) (weights_from m (length l.rows) bs)
      (nodes.bound (value a.number) x m (optimal e)))

  pub leaf_empty : a.status ≡ status.Infeasible → length q.rows + length bs ≤ length a.rows → (duals : List Array) (bounds : List BoundWeight) → IsLeaf p a (length q.rows) bs duals bounds
      → ShowsEmpty p s box (shown_by duals bounds) (value a.number)
  leaf_empty e enough duals bounds leaf =
      subst (λ ws. ShowsEmpty p s box (record { duals = multipliers_in duals; bounds = ws }) (value a.number)) (weights_there bounds enough leaf.bounds_are)
      (empty_same p s (multipliers_of (convex_problem p) m) (multipliers_in duals) (duals_same duals leaf.constraints) box (value a.number) (weights_from m (length l.rows) bs)
      (nodes.empty (value a.number) m (infeasible e)))

  -- ---- the point
  pub feasible : a.status ≡ status.Optimal → IsFeasible p s (point_at p.variables x)
  feasible e = nodes.feasible (value a.number) x m (optimal e)

  pub no_greater : a.status ≡ status.Optimal → objective_at p s (point_at p.variables x) ≤ℚ value a.number
  no_greater e = nodes.objective (value a.number) x m (optimal e)

  pub kept : a.status ≡ status.Optimal → Each (λ (b : BoundAt). excess b.upper b.limit (point_at p.variables x b.place.variable b.place.entry) ≤ℚ whole (pos 0)) bs
  kept e i b at = nodes.kept (value a.number) x m (optimal e) i b at
