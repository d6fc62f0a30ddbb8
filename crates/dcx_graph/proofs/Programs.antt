-- The program depends on the forms of the objective and of the sides of constraints alone.
use Rattle.std.proofs.Common.{◌≡◌, ℕ, ◌+◌, List, [], ◌++◌, length, map, Option, Result, Ok, Err, slice_index_or, inl, inr, refl, sym, ap, ◌∙◌, subst}
use Rattle.std.specs.List.{All}
use Rattle.std.proofs.lemmas.List.Elements.{All-head, All-tail}
use Rattle.dcx_math.proofs.Lists.{holds_at}
use Rattle.dcx_frac.specs.declared.fraction.Frac.{Frac}
use Rattle.dcx_frac.specs.declared.fraction.Passes.{Passes}
use Rattle.dcx_tree.specs.declared.problem.Problem.{Problem}
use Rattle.dcx_tree.specs.Problems.{sides_in, roots_of}
use Rattle.dcx_linear.specs.declared.change.Change.{Change}
use Rattle.dcx_linear.specs.declared.change.Change.TheVariants.{Scale}
use Rattle.dcx_linear.specs.declared.form.Form.{Form}
use Rattle.dcx_linear.specs.declared.row.Row.{Row}
use Rattle.dcx_linear.specs.declared.row.UnknownKind.{UnknownKind}
use Rattle.dcx_linear.specs.Parts.{adds_part}
use Rattle.dcx_entries.specs.declared.formed.FormedRow.{FormedRow}
use Rattle.dcx_entries.specs.Forming.{FormsEach}
use Rattle.dcx_entries.specs.Parts.{zero_form}
use Rattle.dcx_entries.specs.declared.formed.Formed.{Formed}
use Rattle.dcx_entries.specs.declared.standing.Standing.{Standing}
use Rattle.dcx_entries.specs.Nodes.{table_forms}
use Rattle.dcx_entries.specs.Standing.{all_forms}
use Rattle.dcx_entries.specs.Kept.{IsKept, graph_rows}
use Rattle.dcx_point.specs.Pairs.{Pairs}
use Rattle.dcx_convex.specs.Rules.{Rules}
use Rattle.dcx_unknowns.specs.Layout.{unknown_kinds}
use Rattle.dcx_graph.specs.declared.constraint.ConstraintEntry.{ConstraintEntry}
use Rattle.dcx_graph.specs.declared.origin.Origin.{Origin}
use Rattle.dcx_graph.specs.Program.{Program, minus_one, constraint_entries, origins_of, graph_row, AtRow, OfKind, form_at, Least, EntryRow}
use Rattle.dcx_graph.specs.Program.{RowOf, EntryRows, Objective, IsProgramWith, IsRowStopWith, GivesProgramWith, GivesProgram}
use Rattle.dcx_graph.proofs.Entries.{HasBoth, entries_have}

-- each answer of forming carries over
pub each_carried : {A E : Type 0} (F G : ℕ → Result A E → Type 0) → ((j : ℕ) (r : Result A E) → F j r → G j r) → (n : ℕ) (r : Result (List A) E) → FormsEach F n r → FormsEach G n r
each_carried F G f n (Ok xs) h = (h.0, λ j x e. f j (Ok x) (h.1 j x e))
each_carried F G f n (Err e) h = (h.0, h.1, f h.0 (Err e) h.2, λ j b. let s = h.3 j b in (s.0, f j (Ok s.0) s.1))

module _ {C : Type 0} (of_number : Frac → C) (number_of : C → Option Frac) (Sums : C → C → Result C Passes → Type 0) (Changes : Change → C → Result C Passes → Type 0) (p : Problem) where
  -- ---- other forms
  module _ (forms others : List (List (Form C))) where
    abbrev pub Agree : ℕ → Type 0
    Agree a = slice_index_or forms a [] ≡ slice_index_or others a []

    same_form : (a e : ℕ) → Agree a → form_at of_number forms a e ≡ form_at of_number others a e
    same_form a e h = ap (λ (fs : List (Form C)). slice_index_or fs e (zero_form of_number)) h

    row_carried : (x : ConstraintEntry) → HasBoth Agree x → (n : ℕ) (r : Result (Row C) (ℕ × Passes)) → AtRow n (EntryRow of_number number_of Sums Changes forms x) r
        → AtRow n (EntryRow of_number number_of Sums Changes others x) r
    row_carried x both n r h =
        subst (λ f. AtRow n (OfKind x.kind (adds_part number_of Sums Changes (form_at of_number others x.left.0 x.entry) (Scale minus_one) f)) r) (same_form x.right.0 x.entry both.right)
        (subst (λ f. AtRow n (OfKind x.kind (adds_part number_of Sums Changes f (Scale minus_one) (form_at of_number forms x.right.0 x.entry))) r) (same_form x.left.0 x.entry both.left) h)

    module _ (agree : All Agree (roots_of p.objective p.constraints)) where
      rows_carried : (r : Result (List (Row C)) (ℕ × Passes)) → EntryRows of_number number_of Sums Changes forms (constraint_entries p) r
          → EntryRows of_number number_of Sums Changes others (constraint_entries p) r
      rows_carried r h =
          let both = entries_have Agree 0 p.constraints (All-tail Agree p.objective.0 (sides_in p.constraints) agree) in
          each_carried (RowOf of_number number_of Sums Changes forms (constraint_entries p)) (RowOf of_number number_of Sums Changes others (constraint_entries p))
          (λ n q k. (k.0, k.1, row_carried k.0 (holds_at (HasBoth Agree) (constraint_entries p) n k.0 both k.1) n q k.2)) (length (constraint_entries p)) r h

      objective_carried : (r : Result (Form C) Passes) → Objective of_number number_of Sums Changes p forms r → Objective of_number number_of Sums Changes p others r
      objective_carried r h = subst (λ f. Least number_of Changes p.sense f r) (same_form p.objective.0 0 (All-head Agree p.objective.0 (sides_in p.constraints) agree)) h

      objective_row_carried : (n : ℕ) (s : ℕ × Passes) → AtRow n (Objective of_number number_of Sums Changes p forms) (Err s) → AtRow n (Objective of_number number_of Sums Changes p others) (Err s)
      objective_row_carried n s h = (h.0, objective_carried (Err s.1) h.1)

      -- where they agree on the objective and on the sides of constraints, they give the same
      pub program_carried : (graph : List (FormedRow C)) (kinds : List UnknownKind) (r : Result (Program C) (ℕ × Passes)) → GivesProgramWith of_number number_of Sums Changes p forms graph kinds r
          → GivesProgramWith of_number number_of Sums Changes p others graph kinds r
      program_carried graph kinds (Ok q) h = record {
        constraints = h.constraints;
        constraints_are = rows_carried (Ok h.constraints) h.constraints_are;
        rows_are = h.rows_are;
        objective_is = objective_carried (Ok q.objective) h.objective_is;
        kinds_are = h.kinds_are;
        origins_are = h.origins_are;
      }
      program_carried graph kinds (Err s) (inl h) = inl (rows_carried (Err s) h)
      program_carried graph kinds (Err s) (inr h) = inr ((h.0.0, rows_carried (Ok h.0.0) h.0.1), objective_row_carried (length (constraint_entries p) + length graph) s h.1)

  -- ---- what is asked
  module _ (forms : List (List (Form C))) (graph : List (FormedRow C)) (xs : List ConstraintEntry) (all : xs ≡ constraint_entries p) where
    own_rows : (r : Result (List (Row C)) (ℕ × Passes)) → EntryRows of_number number_of Sums Changes forms xs r → EntryRows of_number number_of Sums Changes forms (constraint_entries p) r
    own_rows r h = subst (λ ys. EntryRows of_number number_of Sums Changes forms ys r) all h

    -- a row of a constraint stops
    pub rows_stop : (s : ℕ × Passes) → EntryRows of_number number_of Sums Changes forms xs (Err s) → IsRowStopWith of_number number_of Sums Changes p forms graph s
    rows_stop s h = inl (own_rows (Err s) h)

    module _ (rows : List (Row C)) (formed : EntryRows of_number number_of Sums Changes forms xs (Ok rows)) where
      -- or the objective
      pub objective_stops : (n : ℕ) (s : ℕ × Passes) → n ≡ length xs + length graph → AtRow n (Objective of_number number_of Sums Changes p forms) (Err s)
          → IsRowStopWith of_number number_of Sums Changes p forms graph s
      objective_stops n s is h =
          inr (
            (rows, own_rows (Ok rows) formed),
            subst (λ ys. AtRow (length ys + length graph) (Objective of_number number_of Sums Changes p forms) (Err s)) all
                (subst (λ m. AtRow m (Objective of_number number_of Sums Changes p forms) (Err s)) is h),
          )

      -- or nothing does
      pub asked_is : (kinds : List UnknownKind) (f : Form C) (origins : List Origin) → Objective of_number number_of Sums Changes p forms (Ok f) → origins ≡ origins_of xs graph →
          IsProgramWith of_number number_of Sums Changes p forms graph kinds (record { rows = rows ++ map graph_row graph; objective = f; kinds = kinds; origins = origins })
      asked_is kinds f origins objective come = record {
        constraints = rows;
        constraints_are = own_rows (Ok rows) formed;
        rows_are = refl;
        objective_is = objective;
        kinds_are = refl;
        origins_are = subst (λ ys. origins ≡ origins_of ys graph) all come;
      }

  -- ---- what is kept of the nodes
  module _ (Reads : ℕ → List ℕ → ℕ → Pairs → C → Type 0) (rules : Rules) (setting : Pairs) (formed : Formed C) (kept : IsKept of_number number_of Sums Changes Reads rules p setting formed)
      (standing : List (Standing C)) (graph : List (FormedRow C)) (kinds : List UnknownKind) (stand : standing ≡ formed.standing) (rows : graph ≡ formed.rows)
      (known : kinds ≡ unknown_kinds rules p) where
    kept_agree : All (Agree (all_forms of_number standing) (table_forms kept.table)) (roots_of p.objective p.constraints)
    kept_agree = subst (λ ss. All (Agree (all_forms of_number ss) (table_forms kept.table)) (roots_of p.objective p.constraints)) (sym stand) kept.roots

    -- its program is that of the nodes by the rules
    pub kept_program : (r : Result (Program C) (ℕ × Passes)) → GivesProgramWith of_number number_of Sums Changes p (all_forms of_number standing) graph kinds r
        → GivesProgram of_number number_of Sums Changes rules p kept.table r
    kept_program r h =
        subst (λ ks. GivesProgramWith of_number number_of Sums Changes p (table_forms kept.table) (graph_rows of_number kept.table) ks r) known
        (subst (λ rs. GivesProgramWith of_number number_of Sums Changes p (table_forms kept.table) rs kinds r) (rows ∙ kept.rows)
        (program_carried (all_forms of_number standing) (table_forms kept.table) kept_agree graph kinds r h))
