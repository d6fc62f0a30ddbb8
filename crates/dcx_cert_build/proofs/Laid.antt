-- The rows of a program that reducing gives come from the constraints and then from the graphs, by node, result entry and row.
use Rattle.std.proofs.Common.{◌≡◌, ℕ, ◌+◌, ◌<◌, Bool, true, false, List, [], ◌++◌, length, map, Option, Some, Result, Ok, slice_get, slice_index_or, sym, ap, ap₂, ◌∙◌, arith, length-append}
use Rattle.std.proofs.lemmas.List.{length-map}
use Rattle.std.proofs.lemmas.Option.{slice_get-get_or}
use Rattle.dcx_math.proofs.Lists.{element_at}
use Rattle.dcx_frac.specs.declared.fraction.Frac.{Frac}
use Rattle.dcx_frac.specs.declared.fraction.Passes.{Passes}
use Rattle.dcx_shape.specs.Sides.{entries_of}
use Rattle.dcx_atom.specs.Arrays.{list_below, joined_below}
use Rattle.dcx_atom.proofs.BoundRows.{map-list_below}
use Rattle.dcx_point.specs.Pairs.{Pairs}
use Rattle.dcx_convex.specs.Rules.{Rules, Plain, Parametrized}
use Rattle.dcx_tree.specs.declared.problem.Problem.{Problem}
use Rattle.dcx_tree.specs.Nodes.{Node, arg_sides}
use Rattle.dcx_linear.specs.declared.change.Change.{Change}
use Rattle.dcx_linear.specs.declared.form.Form.{Form}
use Rattle.dcx_unknowns.specs.Layout.{is_reduced, unknown_kinds}
use Rattle.dcx_entries.specs.declared.entries.EntryForms.{EntryForms}
use Rattle.dcx_entries.specs.Parts.{zero_form}
use Rattle.dcx_entries.specs.Entries.{alone}
use Rattle.dcx_entries.specs.Nodes.{Table, table_forms, NodeEntryBy, AreFormed}
use Rattle.dcx_entries.specs.Standing.{args_among}
use Rattle.dcx_entries.specs.Kept as kept
use Rattle.dcx_graph.proofs.FormedLists.{joined_same, joined_none, map-joined}
use Rattle.dcx_graph.specs.declared.origin.Origin.{Origin}
use Rattle.dcx_graph.specs.declared.origin.Origin.TheVariants as origins
use Rattle.dcx_graph.specs.Program.{Program, IsProgram, constraint_entries, entry_origin, graph_origin}
use Rattle.dcx_graph.proofs.Counted.{number_rows, reduced_count}
use Rattle.dcx_graph.proofs.Sizes.{rows-length}
use Rattle.dcx_graph.proofs.Settings.{rows_at-length}
use Rattle.dcx_cert_build.specs.Origins.{entry_count, entry_rows, node_rows, graph_origins, IsLaidOut}
use Rattle.dcx_cert_build.specs.Laws.{ProgramsAreLaidOut}

module _ {C : Type 0} (of_number : Frac → C) (number_of : C → Option Frac) (Sums : C → C → Result C Passes → Type 0) (Changes : Change → C → Result C Passes → Type 0)
    (Reads : ℕ → List ℕ → ℕ → Pairs → C → Type 0) (rules : Rules) (p : Problem) (setting : Pairs) where
  -- ---- where they come from
  -- so many rows of an entry
  abbrev Origins : ℕ → ℕ → ℕ → List Origin
  Origins i j n = list_below n (λ k. origins.Graph (record { 0 = i }) j k)

  entry_origins : (i j : ℕ) (e : EntryForms C) (n : ℕ) → length e.rows ≡ n → map graph_origin (kept.entry_rows of_number i j e) ≡ Origins i j n
  entry_origins i j e n count = map-list_below (length e.rows) _ graph_origin ∙ ap (Origins i j) count

  module _ (forms : List (List (Form C))) (i : ℕ) (n : Node) (es : List (EntryForms C)) where
    abbrev Here : ℕ → EntryForms C
    Here j = slice_index_or es j (alone (zero_form of_number))

    abbrev Given : Bool → Type 0
    Given reduced = (j : ℕ) (e : EntryForms C) → slice_get es j ≡ Some e → NodeEntryBy of_number number_of Sums Changes Reads rules p setting reduced forms i n j (Ok e)

    mapped_rows : map graph_origin (kept.node_rows of_number i es) ≡ joined_below (length es) (λ j. map graph_origin (kept.entry_rows of_number i j (Here j)))
    mapped_rows = map-joined graph_origin (length es) (λ j. kept.entry_rows of_number i j (Here j))

    node_origins : (reduced : Bool) → length es ≡ entries_of n.sides → Given reduced → map graph_origin (kept.node_rows of_number i es) ≡ node_rows p.tree i reduced (Some n)
    node_origins true size h =
        mapped_rows
        ∙ joined_same (length es) (λ j. map graph_origin (kept.entry_rows of_number i j (Here j))) (entry_rows p.tree i n)
        (λ j b. entry_origins i j (Here j) (entry_count p.tree n n.call j)
        (reduced_count of_number number_of Sums Changes Reads rules p setting forms i n n.call j (Here j) (h j (Here j) (slice_get-get_or es j (alone (zero_form of_number)) b))))
        ∙ ap (λ k. joined_below k (entry_rows p.tree i n)) size
    node_origins false size h =
        mapped_rows
        ∙ joined_none (length es) (λ j. map graph_origin (kept.entry_rows of_number i j (Here j)))
        (λ j b. entry_origins i j (Here j) 0 (number_rows of_number number_of Sums Changes Reads rules p setting n.call (arg_sides p.tree n) (args_among of_number forms n.args) j (Here j)
        (h j (Here j) (slice_get-get_or es j (alone (zero_form of_number)) b))))

  -- ---- the rows of all nodes
  module _ (table : Table C) (formed : AreFormed of_number number_of Sums Changes Reads rules p setting (length p.tree) table) where
    abbrev Own : ℕ → List (EntryForms C)
    Own i = slice_index_or table i []

    at_node : (i : ℕ) → i < length p.tree → map graph_origin (kept.node_rows of_number i (Own i)) ≡ node_rows p.tree i (is_reduced rules p i) (slice_get p.tree i)
    at_node i lt =
        let n = element_at p.tree i lt in
        let count = formed.count in
        let gives = formed.each i n.0 (Own i) lt n.1 (slice_get-get_or table i [] (omega (arith, lt, count))) in
        node_origins _ i n.0 (Own i) (is_reduced rules p i) gives.0 gives.1 ∙ ap (node_rows p.tree i (is_reduced rules p i)) (sym n.1)

    pub graph_rows_are : map graph_origin (kept.graph_rows of_number table) ≡ graph_origins rules p
    graph_rows_are =
        map-joined graph_origin (length table) (λ i. kept.node_rows of_number i (Own i))
        ∙ ap (λ k. joined_below k (λ i. map graph_origin (kept.node_rows of_number i (Own i)))) formed.count
        ∙ joined_same (length p.tree) (λ i. map graph_origin (kept.node_rows of_number i (Own i))) (λ i. node_rows p.tree i (is_reduced rules p i) (slice_get p.tree i)) at_node

    pub laid_out : (q : Program C) → IsProgram of_number number_of Sums Changes rules p table q → IsLaidOut p q
    laid_out q is =
        let rows = rows-length of_number number_of Sums Changes p (table_forms table) (kept.graph_rows of_number table) (unknown_kinds rules p) q is in
        record {
          rules = rules;
          origins_are = is.origins_are ∙ ap (λ l. map entry_origin (constraint_entries p) ++ l) graph_rows_are;
          one_each = ap length is.origins_are ∙ length-append (map entry_origin (constraint_entries p)) (map graph_origin (kept.graph_rows of_number table))
              ∙ ap₂ ◌+◌ (length-map (constraint_entries p) entry_origin) (length-map (kept.graph_rows of_number table) graph_origin) ∙ sym rows;
        }

pub programs_are_laid_out : ProgramsAreLaidOut
programs_are_laid_out = record {
  numbers = λ p setting q h. laid_out _ _ _ _ _ Plain p setting h.nodes.table h.nodes.formed q h.program;
  affine = λ p setting q h. laid_out _ _ _ _ _ Parametrized p setting h.nodes.table h.nodes.formed q h.program;
  fixed = λ p setting q r h f. record {
    rules = h.rules;
    origins_are = f.1 ∙ h.origins_are;
    one_each = ap length f.1 ∙ h.one_each ∙ sym (rows_at-length setting 0 q.rows r.rows f.0.0);
  };
}
