-- How many rows a program has, and what is so of its forms: that they are no wider than those of the nodes, and whatever else sums
-- and changes keep.
use Rattle.std.proofs.Common.{◌≡◌, ℕ, ◌+◌, ◌<◌, ◌≤◌, ◌^◌, List, [], ◌∷◌, length, map, Option, Result, Ok, slice_index_or, sym, ap, ap₂, ◌∙◌, subst, arith, length-append}
use Rattle.std.specs.Prelude.{sum_by}
use Rattle.std.specs.List.{All}
use Rattle.std.proofs.lemmas.List.{length-map}
use Rattle.std.proofs.lemmas.List.Elements.{All-head, All-tail, All-append, All-map}
use native.Mathlib.Decide.{dec_lt}
use Rattle.dcx_math.proofs.Lists.{holds_at, all_from_at}
use Rattle.dcx_frac.specs.declared.fraction.Frac.{Frac}
use Rattle.dcx_frac.specs.declared.fraction.Passes.{Passes}
use Rattle.dcx_tree.specs.declared.problem.Problem.{Problem}
use Rattle.dcx_tree.specs.declared.constraint.Sense.{Sense}
use Rattle.dcx_tree.specs.declared.constraint.Sense.TheVariants.{Minimize, Maximize}
use Rattle.dcx_tree.specs.Problems.{sides_in, roots_of}
use Rattle.dcx_linear.specs.declared.change.Change.{Change}
use Rattle.dcx_linear.specs.declared.change.Change.TheVariants.{Scale}
use Rattle.dcx_linear.specs.declared.form.Form.{Form}
use Rattle.dcx_linear.specs.declared.row.Row.{Row}
use Rattle.dcx_linear.specs.declared.row.UnknownKind.{UnknownKind}
use Rattle.dcx_linear.specs.Forms.{sum_gives_linear, change_gives_linear}
use Rattle.dcx_linear.specs.Widths.{form_width, rows_width}
use Rattle.dcx_linear.proofs.Widths.{sum_width, change_width}
use Rattle.dcx_unknowns.specs.Layout.{constraint_rows}
use Rattle.dcx_entries.specs.declared.formed.FormedRow.{FormedRow}
use Rattle.dcx_entries.specs.Parts.{zero_form}
use Rattle.dcx_entries.proofs.Past.{past_end}
use Rattle.dcx_graph.specs.Program.{Program, minus_one, constraint_entries, entry_origin, graph_origin, graph_row, form_at, Least, RowOf, IsProgramWith}
use Rattle.dcx_graph.specs.Reduced.{HasOrigins}
use Rattle.dcx_graph.proofs.Entries.{HasBoth, entries-length, entries_have}

-- a row is as wide as its form
abbrev IsRowWithin : {C : Type 0} → ℕ → Row C → Type 0
IsRowWithin n r = form_width r.form ≤ n

rows_within : {C : Type 0} (n : ℕ) (rs : List (Row C)) → All (IsRowWithin n) rs → rows_width rs ≤ n
rows_within n [] h = omega arith
rows_within n (r ∷ rs) h =
    let first : form_width r.form ≤ n = All-head (IsRowWithin n) r rs h in
    let rest : rows_width rs ≤ n = rows_within n rs (All-tail (IsRowWithin n) r rs h) in omega arith

-- the fact holds of the forms of a node
abbrev pub OfNode : {C : Type 0} → (Form C → Type 0) → List (List (Form C)) → ℕ → Type 0
OfNode P forms a = All P (slice_index_or forms a [])

-- the forms of a node are no wider than this
abbrev pub AreWithin : {C : Type 0} → List (List (Form C)) → ℕ → ℕ → Type 0
AreWithin forms n a = OfNode (λ f. form_width f ≤ n) forms a

module _ {C : Type 0} (of_number : Frac → C) (number_of : C → Option Frac) (Sums : C → C → Result C Passes → Type 0) (Changes : Change → C → Result C Passes → Type 0) (p : Problem)
    (forms : List (List (Form C))) (graph : List (FormedRow C)) where
  -- ---- as many origins as rows
  module _ (kinds : List UnknownKind) (q : Program C) (is : IsProgramWith of_number number_of Sums Changes p forms graph kinds q) where
    pub rows-length : length q.rows ≡ length (constraint_entries p) + length graph
    rows-length =
        ap length is.rows_are ∙ length-append is.constraints (map graph_row graph) ∙ ap₂ ◌+◌ is.constraints_are.0 (length-map graph graph_row)

    origins-length : length q.origins ≡ length (constraint_entries p) + length graph
    origins-length =
        ap length is.origins_are ∙ length-append (map entry_origin (constraint_entries p)) (map graph_origin graph)
        ∙ ap₂ ◌+◌ (length-map (constraint_entries p) entry_origin) (length-map graph graph_origin)

    pub program_origins : sum_by constraint_rows p.constraints + length graph < 2 ^ 32 → HasOrigins q.rows q.origins
    program_origins few =
        let count = entries-length 0 p.constraints in
        let rows = rows-length in
        record { one_each = origins-length ∙ sym rows; few = omega (arith, few, count, rows) }

    -- ---- what sums and changes keep
    module _ (P : Form C → Type 0) (zero : P (zero_form of_number)) (sums : (f g h : Form C) → sum_gives_linear number_of Sums f g (Ok h) → P f → P g → P h)
        (changes : (change : Change) (f h : Form C) → change_gives_linear number_of Changes change f (Ok h) → P f → P h) (roots : All (OfNode P forms) (roots_of p.objective p.constraints)) where
      form_has : (a e : ℕ) → OfNode P forms a → P (form_at of_number forms a e)
      form_has a e h = by (dec_lt e (length (slice_index_or forms a [])))
        where
          by : Dec (e < length (slice_index_or forms a [])) → P (form_at of_number forms a e)
          by (yes lt) = h e (zero_form of_number) lt
          by (no f) = subst P (sym (past_end (slice_index_or forms a []) e (zero_form of_number) (omega arith))) zero

      sides : All (HasBoth (OfNode P forms)) (constraint_entries p)
      sides = entries_have (OfNode P forms) 0 p.constraints (All-tail (OfNode P forms) p.objective.0 (sides_in p.constraints) roots)

      row_has : (i : ℕ) (r : Row C) → RowOf of_number number_of Sums Changes forms (constraint_entries p) i (Ok r) → P r.form
      row_has i r h =
          let x = h.0 in
          let both = holds_at (HasBoth (OfNode P forms)) (constraint_entries p) i x sides h.1 in
          let parts = h.2.1 in
          let left = form_at of_number forms x.left.0 x.entry in
          let right = form_at of_number forms x.right.0 x.entry in
          sums left parts.0 r.form parts.2 (form_has x.left.0 x.entry both.left) (changes (Scale minus_one) right parts.0 parts.1 (form_has x.right.0 x.entry both.right))

      pub program_rows_have : All (λ r. P r.form) graph → All (λ r. P r.form) q.rows
      program_rows_have h =
          subst (All (λ r. P r.form)) (sym is.rows_are)
          (All-append (λ r. P r.form) is.constraints (map graph_row graph) (all_from_at (λ r. P r.form) is.constraints (λ i r e. row_has i r (is.constraints_are.1 i r e)))
          (All-map (λ r. P r.form) graph_row graph h))

      least_has : (sense : Sense) (f g : Form C) → Least number_of Changes sense f (Ok g) → P f → P g
      least_has Minimize f g h b = let e : f ≡ g = cc in subst P e b
      least_has Maximize f g h b = changes (Scale minus_one) f g h b

      pub program_objective_has : P q.objective
      program_objective_has =
          least_has p.sense (form_at of_number forms p.objective.0 0) q.objective is.objective_is (form_has p.objective.0 0 (All-head (OfNode P forms) p.objective.0 (sides_in p.constraints) roots))

    -- ---- no wider than the forms of the nodes
    module _ (n : ℕ) (roots : All (AreWithin forms n) (roots_of p.objective p.constraints)) where
      pub program_rows_within : All (λ r. form_width r.form ≤ n) graph → rows_width q.rows ≤ n
      program_rows_within h =
          rows_within n q.rows (program_rows_have (λ f. form_width f ≤ n) (omega arith) (sum_width number_of n Sums) (change_width number_of n Changes) roots h)

      pub program_objective_within : form_width q.objective ≤ n
      program_objective_within = program_objective_has (λ f. form_width f ≤ n) (omega arith) (sum_width number_of n Sums) (change_width number_of n Changes) roots
