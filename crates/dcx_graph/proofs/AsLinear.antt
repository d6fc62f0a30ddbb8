-- The program of a problem is the linear program of the reduced program with the forms of the nodes.
use Rattle.std.proofs.Common.{◌≡◌, ◌↔◌, ℕ, suc, List, [], ◌∷◌, ◌++◌, map, Option, Result, Ok, refl, sym, ap, ap₂, ◌∙◌, subst, pos, negsuc, lit<}
use Rattle.std.proofs.Math.Path.{fun_ext}
use Rattle.std.proofs.lemmas.List.{map-append}
use Rattle.dcx_math.specs.Rational.{ℚ, whole, ◌+ℚ◌, ◌-ℚ◌, ◌*ℚ◌, neg_ℚ}
use Rattle.dcx_math.proofs.Ring.{ring, reads}
use Rattle.dcx_frac.specs.declared.fraction.Frac.{Frac}
use Rattle.dcx_frac.specs.declared.fraction.Passes.{Passes}
use Rattle.dcx_frac.specs.Frac.{value}
use Rattle.dcx_frac.specs.Fits.{IsRepresentable}
use Rattle.dcx_frac.proofs.Parts.{value_representable}
use Rattle.dcx_atom.proofs.Fractions.{value-frac_at}
use native.Mathlib.Nat.{eq-one_of_dvd-one}
use Rattle.dcx_shape.specs.Shape.{sides_of}
use Rattle.dcx_shape.specs.Sides.{entries_of}
use Rattle.dcx_atom.specs.Arrays.{list_below}
use Rattle.dcx_atom.proofs.BoundRows.{map-list_below}
use Rattle.dcx_convex.specs.Nodes.{Setting, Numbers}
use Rattle.dcx_convex.specs.Rules.{Rules}
use Rattle.dcx_convex.specs.Problems.{minimized, objective_of}
use Rattle.dcx_convex.specs.Reductions.{Unknowns, IsAssignment, IsReduction}
use Rattle.dcx_tree.specs.declared.constraint.Constraint.{Constraint}
use Rattle.dcx_tree.specs.declared.constraint.Kind.{Kind}
use Rattle.dcx_tree.specs.declared.constraint.Kind.TheVariants as relations
use Rattle.dcx_tree.specs.declared.constraint.Sense.{Sense}
use Rattle.dcx_tree.specs.declared.constraint.Sense.TheVariants.{Minimize, Maximize}
use Rattle.dcx_tree.specs.declared.problem.Problem.{Problem}
use Rattle.dcx_tree.specs.Meaning.{sense_of, relation_of, convex_constraint, convex_problem}
use Rattle.dcx_linear.specs.declared.change.Change.{Change}
use Rattle.dcx_linear.specs.declared.change.Change.TheVariants.{Scale}
use Rattle.dcx_linear.specs.declared.form.Form.{Form}
use Rattle.dcx_linear.specs.declared.row.Row.{Row}
use Rattle.dcx_linear.specs.Changes.{changed}
use Rattle.dcx_linear.specs.Parameters.{Parameters}
use Rattle.dcx_linear.specs.Forms.{linear_value, sum_gives_linear, change_gives_linear}
use Rattle.dcx_linear.specs.Rows.{RowAt, AreOfKinds}
use Rattle.dcx_unknowns.specs.Layout.{unknown_kinds}
use Rattle.dcx_unknowns.specs.Equations.{Forms, graph_numbers, reduced_with}
use Rattle.dcx_unknowns.proofs.OfKinds.{kinds_from, nonneg_from, nonpos_from}
use Rattle.dcx_entries.specs.declared.formed.FormedRow.{FormedRow}
use Rattle.dcx_entries.specs.Nodes.{Table, table_forms}
use Rattle.dcx_entries.specs.Kept.{graph_rows}
use Rattle.dcx_formed.proofs.Lists.{maps_same}
use Rattle.dcx_postsolve.specs.Programs.{kind_of, gap_row, gap_rows, bound_row, IsProgramOf}
use Rattle.dcx_postsolve.specs.Duals.{row_kind}
use Rattle.dcx_graph.specs.declared.constraint.ConstraintEntry.{ConstraintEntry}
use Rattle.dcx_graph.specs.Program.{Program, minus_one, entries_in, entries_from, constraint_entries, form_at, Least, graph_row, EntryRow, EntryRows, Objective, IsProgram}
use Rattle.dcx_graph.specs.AsLinear.{row_at, linear_at, IsReductionAt}

less : (a b k : ℚ) → k ≡ whole (negsuc 0) → a +ℚ k *ℚ b ≡ a -ℚ b
less a b k e = ap (λ z. a +ℚ z *ℚ b) e ∙ ring (a ∷ b ∷ []) (search reads depth 30) tt

turned : (a k : ℚ) → k ≡ whole (negsuc 0) → k *ℚ a ≡ neg_ℚ a
turned a k e = ap (λ z. z *ℚ a) e ∙ ring (a ∷ []) (search reads depth 30) tt

-- ---- constraints
module _ (forms : Unknowns → ℕ → Numbers) where
  -- the row of an entry of a constraint, where the forms stand for the nodes
  abbrev pub entry_at : ConstraintEntry → RowAt
  entry_at x = record { kind = x.kind; number = λ u. forms u x.left.0 x.entry -ℚ forms u x.right.0 x.entry }

  kind_same : (kind : Kind) → row_kind kind ≡ kind_of (relation_of kind)
  kind_same relations.AtMost = refl
  kind_same relations.Equal = refl

  one_constraint : (k : ℕ) (c : Constraint) → map entry_at (entries_in k c) ≡ list_below (entries_of (sides_of c.shape)) (gap_row forms (convex_constraint c))
  one_constraint k c =
      map-list_below {A = ConstraintEntry} (entries_of (sides_of c.shape)) (λ e. record { constraint = k; entry = e; kind = row_kind c.kind; left = c.left; right = c.right }) entry_at
      ∙ ap (λ kind. list_below (entries_of (sides_of c.shape)) (λ e. let r : RowAt = record { kind = kind; number = λ u. forms u c.left.0 e -ℚ forms u c.right.0 e } in r)) (kind_same c.kind)

  pub all_constraints : (k : ℕ) (cs : List Constraint) → map entry_at (entries_from k cs) ≡ gap_rows forms (map convex_constraint cs)
  all_constraints k [] = refl
  all_constraints k (c ∷ cs) = map-append entry_at (entries_in k c) (entries_from (suc k) cs) ∙ ap₂ ◌++◌ (one_constraint k c) (all_constraints (suc k) cs)

-- the fraction -1
abbrev less_one : Frac
less_one = record { num = negsuc 0; den = pos 1; positive = record { lt = tt }; lowest = λ d z h. eq-one_of_dvd-one h; num_fits = lit< tt; den_fits = lit< tt }

less_one_value : value less_one ≡ whole (negsuc 0)
unfolding whole
less_one_value = refl

pub minus_one_value : value minus_one ≡ whole (negsuc 0)
minus_one_value = value-frac_at (whole (negsuc 0)) (subst IsRepresentable less_one_value (value_representable less_one))

module _ {C : Type 0} (of_number : Frac → C) (number_of : C → Option Frac) (Sums : C → C → Result C Passes → Type 0) (Changes : Change → C → Result C Passes → Type 0)
    (value_at : C → Parameters → ℚ) (params : Parameters)
    (sum_value : (f g h : Form C) (u : Unknowns) → sum_gives_linear number_of Sums f g (Ok h) → linear_value value_at h u params ≡ linear_value value_at f u params +ℚ linear_value value_at g u params)
    (change_value : (change : Change) (f h : Form C) (u : Unknowns) → change_gives_linear number_of Changes change f (Ok h)
    → linear_value value_at h u params ≡ changed change (linear_value value_at f u params))
    (minus_one_is : value minus_one ≡ whole (negsuc 0)) (fs : List (List (Form C))) where
  abbrev forms : Forms
  forms u a e = linear_value value_at (form_at of_number fs a e) u params

  -- the row of an entry is its gap
  row_same : (x : ConstraintEntry) (r : Row C) → EntryRow of_number number_of Sums Changes fs x (Ok r) → row_at value_at params r ≡ entry_at forms x
  row_same x r h =
      let left = form_at of_number fs x.left.0 x.entry in
      let right = form_at of_number fs x.right.0 x.entry in
      ap₂ (λ kind number. let a : RowAt = record { kind = kind; number = number } in a) h.0
      (fun_ext (λ u. sum_value left h.1.0 r.form u h.1.2 ∙ ap (λ y. linear_value value_at left u params +ℚ y) (change_value (Scale minus_one) right h.1.0 u h.1.1)
      ∙ less (linear_value value_at left u params) (linear_value value_at right u params) (value minus_one) minus_one_is))

  rows_same : (xs : List ConstraintEntry) (rs : List (Row C)) → EntryRows of_number number_of Sums Changes fs xs (Ok rs) → map (row_at value_at params) rs ≡ map (entry_at forms) xs
  rows_same xs rs h =
      maps_same (row_at value_at params) (entry_at forms) rs xs h.0
      (λ k r x at there. let own = h.1 k r at in let d : own.0 ≡ x = cc (own.1, there) in row_same x r (subst (λ y. EntryRow of_number number_of Sums Changes fs y (Ok r)) d own.2))

  objective_same : (sense : Sense) (f h : Form C) (u : Unknowns) → Least number_of Changes sense f (Ok h)
      → linear_value value_at h u params ≡ minimized (sense_of sense) (linear_value value_at f u params)
  objective_same Minimize f h u s = let d : h ≡ f = cc in ap (λ y. linear_value value_at y u params) d
  objective_same Maximize f h u s = change_value (Scale minus_one) f h u s ∙ turned (linear_value value_at f u params) (value minus_one) minus_one_is

  -- ---- the program
  module _ (rules : Rules) (p : Problem) (s : Setting) (table : Table C) (q : Program C) (is : IsProgram of_number number_of Sums Changes rules p table q) (own : table_forms table ≡ fs)
      (rows : graph_numbers rules p s forms ≡ map (λ (r : FormedRow C) u. linear_value value_at r.form u params) (graph_rows of_number table)) where
    graph_same : (rs : List (FormedRow C)) → map (row_at value_at params) (map graph_row rs) ≡ map bound_row (map (λ (r : FormedRow C) u. linear_value value_at r.form u params) rs)
    graph_same [] = refl
    graph_same (r ∷ rs) = ap (λ xs. row_at value_at params (graph_row r) ∷ xs) (graph_same rs)

    rows_are : map (row_at value_at params) q.rows ≡ gap_rows forms (map convex_constraint p.constraints) ++ map bound_row (graph_numbers rules p s forms)
    rows_are =
        ap (map (row_at value_at params)) is.rows_are
        ∙ map-append (row_at value_at params) is.constraints (map graph_row (graph_rows of_number table))
        ∙ ap₂ ◌++◌ (rows_same (constraint_entries p) is.constraints (subst (λ gs. EntryRows of_number number_of Sums Changes gs (constraint_entries p) (Ok is.constraints)) own is.constraints_are)
        ∙ all_constraints forms 0 p.constraints)
        (graph_same (graph_rows of_number table) ∙ ap (map bound_row) (sym rows))

    assigned : (u : Unknowns) → AreOfKinds q.kinds u ↔ IsAssignment (reduced_with rules p s forms) u
    assigned u = (
      λ h. let g = subst (λ ks. AreOfKinds ks u) is.kinds_are h in record { nonneg = nonneg_from (unknown_kinds rules p) u g; nonpos = nonpos_from (unknown_kinds rules p) u g },
      λ h. subst (λ ks. AreOfKinds ks u) (sym is.kinds_are) (kinds_from (unknown_kinds rules p) u h.nonneg h.nonpos),
    )

    objective_is : (u : Unknowns) → linear_value value_at q.objective u params ≡ objective_of (convex_problem p) (forms u)
    objective_is u =
        objective_same p.sense (form_at of_number fs p.objective.0 0) q.objective u
        (subst (λ gs. Objective of_number number_of Sums Changes p gs (Ok q.objective)) own is.objective_is)

    pub program_of : IsProgramOf (linear_at value_at params q) (convex_problem p) (reduced_with rules p s forms)
    program_of = record { assignments = assigned; rows = rows_are; objective = objective_is }

    pub is_reduction : IsReduction rules (convex_problem p) s (reduced_with rules p s forms) → IsReductionAt rules p s (linear_at value_at params q)
    is_reduction h = record { reduced = reduced_with rules p s forms; reduction = h; program = program_of; point = λ u. refl }
