-- The rows of formed nodes are the rows of the graphs, with the forms of the arguments put in.
use Rattle.std.proofs.Common.{◌≡◌, ℕ, ◌<◌, Bool, true, false, List, [], length, map, option_map, Option, Some, slice_get, slice_index_or, Result, Ok, Err, refl, sym, ap, ◌∙◌, subst}
use Rattle.std.specs.List.{AllByRecursion}
use Rattle.std.proofs.Math.Path.{fun_ext}
use Rattle.std.proofs.lemmas.List.{length-map}
use Rattle.std.proofs.lemmas.Option.{slice_get-map, get_or_from_slice_get}
use Rattle.dcx_math.specs.Rational.{ℚ}
use Rattle.dcx_math.proofs.Lists.{map-map}
use Rattle.dcx_frac.specs.declared.fraction.Frac.{Frac}
use Rattle.dcx_frac.specs.declared.fraction.Passes.{Passes}
use Rattle.dcx_shape.specs.Sides.{entries_of}
use Rattle.dcx_atom.specs.declared.stops.ValueStop.{ValueStop}
use Rattle.dcx_atom.specs.Arrays.{Entries, sides_at, joined_below}
use Rattle.dcx_atom.specs.Rows.{Row, row_at}
use Rattle.dcx_atom.specs.Graph.{PlacedRow}
use Rattle.dcx_atom.proofs.BoundRows.{map-list_below}
use Rattle.dcx_affine.specs.Pairing.{pairs_at}
use Rattle.dcx_point.specs.Pairs.{Pairs}
use Rattle.dcx_arena.specs.Nodes.{IsNode}
use Rattle.dcx_convex.specs.Nodes.{Setting, arguments}
use Rattle.dcx_convex.specs.Rules.{Rules}
use Rattle.dcx_convex.specs.Reductions.{Unknowns}
use Rattle.dcx_call.specs.declared.call.Call.{Call}
use Rattle.dcx_call.specs.declared.call.Call.TheVariants as calls
use Rattle.dcx_call.specs.Atoms.{atom_meaning, atom_lawful}
use Rattle.dcx_call.specs.Linears.{linear_meaning}
use Rattle.dcx_call.specs.Values.{given_by, entry_formed}
use Rattle.dcx_tree.specs.declared.problem.Problem.{Problem}
use Rattle.dcx_tree.specs.Nodes.{Node, arg_sides}
use Rattle.dcx_linear.specs.declared.change.Change.{Change}
use Rattle.dcx_linear.specs.Parameters.{Parameters}
use Rattle.dcx_linear.specs.Forms.{linear_value}
use Rattle.dcx_linear.specs.Parts.{sums_parts}
use Rattle.dcx_unknowns.specs.Layout.{is_reduced, first_aux, call_rows, rows_if, rows_at}
use Rattle.dcx_unknowns.specs.Equations.{Forms, filling_of, row_number, numbers_if, graph_numbers}
use Rattle.dcx_unknowns.proofs.NodeForms.{node_at}
use Rattle.dcx_entries.specs.declared.entries.EntryForms.{EntryForms}
use Rattle.dcx_entries.specs.declared.formed.FormedRow.{FormedRow}
use Rattle.dcx_entries.specs.Parts.{Arguments, zero_form, term_part, aux_part, row_part}
use Rattle.dcx_entries.specs.Entries.{alone, EachSum}
use Rattle.dcx_entries.specs.Standing.{args_among}
use Rattle.dcx_entries.specs.Nodes.{Table, table_forms, number_entry, numbers_in, scaling_of, ReducedEntry, NodeEntryBy, AreFormed}
use Rattle.dcx_entries.specs.Kept.{entry_rows, node_rows, graph_rows}
use Rattle.dcx_formed.specs.Forms.{forms_at}
use Rattle.dcx_formed.proofs.Lists.{joined_same, joined_none, flat_below, map-joined, list_of, maps_same, all_at}
use Rattle.dcx_formed.proofs.Coefs.{AreCoefs}
use Rattle.dcx_atom.specs.Fractions.{FitsRow}
use Rattle.dcx_formed.proofs.PartValues.{parts_are, row_is}
use Rattle.dcx_formed.proofs.Tables.{entries_counted, entry_there}
use Rattle.dcx_formed.proofs.Stood.{args_match}
use Rattle.dcx_formed.proofs.Made.{entry_is, linear_made, atom_made, pair_made}
use Rattle.dcx_linear.specs.declared.form.Form.{Form}

-- ---- the rows of a node
module _ {C : Type 0} (value_at : C → Parameters → ℚ) (of_number : Frac → C) (number_of : C → Option Frac) (Sums : C → C → Result C Passes → Type 0) (Changes : Change → C → Result C Passes → Type 0)
    (Reads : ℕ → List ℕ → ℕ → Pairs → C → Type 0) (laws : AreCoefs value_at of_number number_of Sums Changes) (rules : Rules) (p : Problem) (setting : Pairs) (table : Table C)
    (formed : AreFormed of_number number_of Sums Changes Reads rules p setting (length p.tree) table) (params : Parameters) (s : Setting) where
  abbrev F : Forms
  F = forms_at value_at of_number params table

  abbrev row_of : Form C → Unknowns → ℚ
  row_of f u = linear_value value_at f u params

  abbrev placed_of : FormedRow C → Unknowns → ℚ
  placed_of r u = linear_value value_at r.form u params

  abbrev none : EntryForms C
  none = alone (zero_form of_number)

  -- the rows of an entry
  entry_numbers : (i j : ℕ) (e : EntryForms C) → map placed_of (entry_rows of_number i j e) ≡ map row_of e.rows
  entry_numbers i j e =
      map-list_below (length e.rows) (λ k. record { node = record { 0 = i }; entry = j; row = k; form = slice_index_or e.rows k (zero_form of_number) }) placed_of
      ∙ list_of row_of e.rows (zero_form of_number)

  no_number_rows : (r : Result Frac ValueStop) (e : EntryForms C) → (let t : Result (EntryForms C) ValueStop = Ok e in t ≡ number_entry of_number number_of Sums Changes Reads rules p setting r)
      → e.rows ≡ []
  no_number_rows (Ok x) e h = ap (λ (z : EntryForms C). z.rows) (entry_is {E = ValueStop} e _ h)
  no_number_rows (Err stop) e h = absurd (cc)

  module _ (i : ℕ) (n : Node) (at : IsNode p.tree i n) where
    abbrev args : Arguments C
    args = args_among of_number (table_forms table) n.args

    -- the rows of an entry of an atom are those of its graph
    graph_row : (row : Row) → FitsRow row → (f : Form C) → sums_parts of_number number_of Sums Changes (map (row_part of_number args (first_aux rules p i)) row) (Ok f) → (u : Unknowns) →
        row_of f u ≡ row_at row (arguments (map (F u) n.args)) (filling_of rules p i u)
    graph_row row fits f h u =
        parts_are value_at of_number number_of Sums Changes laws u params (map (row_part of_number args (first_aux rules p i)) row) f h
        ∙ row_is value_at of_number number_of Sums Changes laws u params args (first_aux rules p i) row fits
        ∙ ap (λ (a : Entries). row_at row a (filling_of rules p i u)) (args_match value_at of_number number_of Sums Changes laws table params u n.args)

    graph_rows_are : (rows : List Row) → AllByRecursion FitsRow rows → (fs : List (Form C))
        → EachSum of_number number_of Sums Changes (map (λ row. map (row_part of_number args (first_aux rules p i)) row) rows) (Ok fs)
        → map row_of fs ≡ map (λ row u. row_at row (arguments (map (F u) n.args)) (filling_of rules p i u)) rows
    graph_rows_are rows fits fs h =
        let part = λ (row : Row). map (row_part of_number args (first_aux rules p i)) row in
        maps_same row_of (λ row u. row_at row (arguments (map (F u) n.args)) (filling_of rules p i u)) fs rows (h.0 ∙ length-map rows part) (λ k f row there here.
        let own : slice_index_or (map part rows) k [] ≡ part row = get_or_from_slice_get (map part rows) k (part row) [] (slice_get-map part rows k ∙ ap (option_map part) here) in
        fun_ext (λ u. graph_row row (all_at FitsRow rows fits k row here) f (subst (λ (ps : List (Change × Form C)). sums_parts of_number number_of Sums Changes ps (Ok f)) own (h.1 k f there)) u))

    -- the rows of entry j, by its call
    abbrev call_rows_at : Call → ℕ → List Row
    call_rows_at (calls.Variable v) j = []
    call_rows_at (calls.Parameter q) j = []
    call_rows_at (calls.Constant c) j = []
    call_rows_at (calls.Atom m) j = (atom_meaning m).rows (arg_sides p.tree n) j
    call_rows_at (calls.Linear l) j = []
    call_rows_at (calls.Pairing q) j = []

    abbrev number_of_row : Row → Unknowns → ℚ
    number_of_row row u = row_at row (arguments (map (F u) n.args)) (filling_of rules p i u)

    no_rows : (e : EntryForms C) → e.rows ≡ [] → map row_of e.rows ≡ []
    no_rows e h = ap (map row_of) h

    reduced_rows : (call : Call) (j : ℕ) (e : EntryForms C) → ReducedEntry of_number number_of Sums Changes Reads rules p setting (table_forms table) i n.args call (arg_sides p.tree n) j (Ok e) →
        map row_of e.rows ≡ map number_of_row (call_rows_at call j)
    reduced_rows (calls.Variable v) j e h = no_rows e (ap (λ (z : EntryForms C). z.rows) (entry_is {E = ValueStop} e _ h))
    reduced_rows (calls.Parameter q) j e h = no_rows e (ap (λ (z : EntryForms C). z.rows) (entry_is {E = ValueStop} e _ h.2))
    reduced_rows (calls.Constant c) j e h = no_rows e (no_number_rows (entry_formed (calls.Constant c) (given_by setting) (given_by []) (arg_sides p.tree n) (numbers_in number_of args) j) e h)
    reduced_rows (calls.Atom m) j e h =
        let result = map (aux_part of_number (first_aux rules p i)) ((atom_meaning m).result (arg_sides p.tree n) j) in
        let rows = (atom_meaning m).rows (arg_sides p.tree n) j in
        graph_rows_are rows ((atom_lawful m).fraction_coefficients.rows (arg_sides p.tree n) j) e.rows
        (atom_made of_number number_of Sums Changes result (map (λ row. map (row_part of_number args (first_aux rules p i)) row) rows) e h).rows_sum
    reduced_rows (calls.Linear l) j e h = no_rows e (linear_made of_number number_of Sums Changes (map (term_part args) ((linear_meaning l).terms (arg_sides p.tree n) j)) e h).rows
    reduced_rows (calls.Pairing q) j e h =
        no_rows e
        (pair_made of_number number_of Sums Changes (scaling_of of_number number_of Sums Changes Reads rules p setting q (table_forms table) n.args) args
        (pairs_at q (sides_at (arg_sides p.tree n) 0) (sides_at (arg_sides p.tree n) 1) j) j e h).rows

    -- the rows of a call, entry by entry
    call_numbers : (call : Call) → map (row_number rules p s F i n) (call_rows p.tree n call) ≡ joined_below (entries_of n.sides) (λ j. map number_of_row (call_rows_at call j))
    call_numbers (calls.Variable v) = sym (joined_none (entries_of n.sides) (λ j. []) (λ j b. refl))
    call_numbers (calls.Parameter q) = sym (joined_none (entries_of n.sides) (λ j. []) (λ j b. refl))
    call_numbers (calls.Constant c) = sym (joined_none (entries_of n.sides) (λ j. []) (λ j b. refl))
    call_numbers (calls.Atom m) =
        let place = λ (j : ℕ) (row : Row). (let r : PlacedRow = record { entry = j; row = row } in r) in
        map-joined (row_number rules p s F i n) (entries_of n.sides) (λ j. map (place j) ((atom_meaning m).rows (arg_sides p.tree n) j))
        ∙ joined_same (entries_of n.sides) (λ j. map (row_number rules p s F i n) (map (place j) ((atom_meaning m).rows (arg_sides p.tree n) j)))
        (λ j. map number_of_row ((atom_meaning m).rows (arg_sides p.tree n) j))
        (λ j b. map-map (place j) (row_number rules p s F i n) ((atom_meaning m).rows (arg_sides p.tree n) j))
    call_numbers (calls.Linear l) = sym (joined_none (entries_of n.sides) (λ j. []) (λ j b. refl))
    call_numbers (calls.Pairing q) = sym (joined_none (entries_of n.sides) (λ j. []) (λ j b. refl))

    -- those of the node
    abbrev rows_when : Bool → ℕ → List Row
    rows_when true j = call_rows_at n.call j
    rows_when false j = []

    entry_by_rules : (b : Bool) (j : ℕ) (e : EntryForms C) → NodeEntryBy of_number number_of Sums Changes Reads rules p setting b (table_forms table) i n j (Ok e)
        → map row_of e.rows ≡ map number_of_row (rows_when b j)
    entry_by_rules true j e h = reduced_rows n.call j e h
    entry_by_rules false j e h = no_rows e (no_number_rows (entry_formed n.call (given_by setting) (given_by []) (arg_sides p.tree n) (numbers_in number_of args) j) e h)

    entry_at : (j : ℕ) → j < entries_of n.sides → map placed_of (entry_rows of_number i j (slice_index_or (slice_index_or table i []) j none)) ≡ map number_of_row (rows_when (is_reduced rules p i) j)
    entry_at j b =
        let w = entry_there of_number number_of Sums Changes Reads rules p setting table formed i n at j b in
        ap (λ e. map placed_of (entry_rows of_number i j e)) (get_or_from_slice_get (slice_index_or table i []) j w.entry none w.here)
        ∙ entry_numbers i j w.entry
        ∙ entry_by_rules (is_reduced rules p i) j w.entry w.gives

    node_by_rules : (b : Bool) → joined_below (entries_of n.sides) (λ j. map number_of_row (rows_when b j)) ≡ numbers_if rules p s F i (Some n) (rows_if p.tree b (Some n))
    node_by_rules true = sym (call_numbers n.call)
    node_by_rules false = joined_none (entries_of n.sides) (λ j. []) (λ j b. refl)

    node_numbers : map placed_of (node_rows of_number i (slice_index_or table i [])) ≡ numbers_if rules p s F i (slice_get p.tree i) (rows_at rules p i)
    node_numbers =
        let es = slice_index_or table i [] in
        map-joined placed_of (length es) (λ j. entry_rows of_number i j (slice_index_or es j none))
        ∙ ap (λ m. joined_below m (λ j. map placed_of (entry_rows of_number i j (slice_index_or es j none))))
        (entries_counted of_number number_of Sums Changes Reads rules p setting table formed i n at)
        ∙ joined_same (entries_of n.sides) (λ j. map placed_of (entry_rows of_number i j (slice_index_or es j none))) (λ j. map number_of_row (rows_when (is_reduced rules p i) j)) entry_at
        ∙ node_by_rules (is_reduced rules p i)
        ∙ sym (ap (λ o. numbers_if rules p s F i o (rows_if p.tree (is_reduced rules p i) o)) at)

  -- ---- the rows of all nodes
  pub rows_are : graph_numbers rules p s F ≡ map placed_of (graph_rows of_number table)
  rows_are =
      flat_below (λ i. numbers_if rules p s F i (slice_get p.tree i) (rows_at rules p i)) (length p.tree)
      ∙ joined_same (length p.tree) (λ i. numbers_if rules p s F i (slice_get p.tree i) (rows_at rules p i)) (λ i. map placed_of (node_rows of_number i (slice_index_or table i [])))
      (λ i b. let (n, at) = node_at p i b in sym (node_numbers i n at))
      ∙ ap (λ m. joined_below m (λ i. map placed_of (node_rows of_number i (slice_index_or table i [])))) (sym formed.count)
      ∙ sym (map-joined placed_of (length table) (λ i. node_rows of_number i (slice_index_or table i [])))
