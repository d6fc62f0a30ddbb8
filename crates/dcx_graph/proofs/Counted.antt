-- Formed nodes have as many rows as the layout of the program counts.
use Rattle.std.proofs.Common.{◌≡◌, ℕ, zero, suc, ◌+◌, ◌<◌, ◌≤◌, Bool, true, false, List, [], length, map, Option, Some, Result, Ok, Err}
use Rattle.std.proofs.Common.{slice_get, slice_index_or, refl, sym, ap, ap₂, ◌∙◌, arith, add-one, length-append}
use Rattle.std.proofs.lemmas.List.{length-map}
use Rattle.std.proofs.lemmas.Option.{slice_get-get_or}
use Rattle.dcx_math.proofs.Lists.{element_at}
use Rattle.dcx_frac.specs.declared.fraction.Frac.{Frac}
use Rattle.dcx_frac.specs.declared.fraction.Passes.{Passes}
use Rattle.dcx_shape.specs.declared.shape.Sides.{Sides}
use Rattle.dcx_shape.specs.Sides.{entries_of}
use Rattle.dcx_atom.specs.declared.stops.ValueStop.{ValueStop}
use Rattle.dcx_atom.specs.Graph.{PlacedRow}
use Rattle.dcx_atom.specs.Rows.{Row}
use Rattle.dcx_atom.specs.Arrays.{joined_below}
use Rattle.dcx_atom.proofs.BoundRows.{length-list_below}
use Rattle.dcx_affine.specs.declared.pairing.Pair.{Pair}
use Rattle.dcx_point.specs.Pairs.{Pairs}
use Rattle.dcx_call.specs.declared.call.Call.{Call}
use Rattle.dcx_call.specs.declared.call.Call.TheVariants as calls
use Rattle.dcx_call.specs.Atoms.{atom_meaning}
use Rattle.dcx_call.specs.Values.{given_by, entry_formed}
use Rattle.dcx_convex.specs.Rules.{Rules}
use Rattle.dcx_tree.specs.declared.problem.Problem.{Problem}
use Rattle.dcx_tree.specs.Nodes.{Node, arg_sides}
use Rattle.dcx_linear.specs.declared.change.Change.{Change}
use Rattle.dcx_linear.specs.declared.form.Form.{Form}
use Rattle.dcx_unknowns.specs.Layout.{is_reduced, call_rows, rows_if, rows_of_node, rows_counted}
use Rattle.dcx_unknowns.proofs.Places.{summed_next}
use Rattle.dcx_entries.specs.declared.entries.EntryForms.{EntryForms}
use Rattle.dcx_entries.specs.declared.scaling.Scaling.{Scaling}
use Rattle.dcx_entries.specs.Parts.{Arguments, zero_form}
use Rattle.dcx_entries.specs.Entries.{alone, PairEntryBy}
use Rattle.dcx_entries.specs.Nodes.{Table, numbers_in, number_entry, NumberEntry, ReducedEntry, NodeEntryBy, AreFormed}
use Rattle.dcx_entries.specs.Standing.{args_among}
use Rattle.dcx_entries.specs.Kept.{entry_rows, node_rows, graph_rows}

-- a row of an entry
abbrev placed_at : ℕ → Row → PlacedRow
placed_at j row = record { entry = j; row = row }

-- how many rows entry j of a node with this call has
abbrev pub row_count : List Node → Node → Call → ℕ → ℕ
row_count nodes n (calls.Variable v) j = 0
row_count nodes n (calls.Parameter q) j = 0
row_count nodes n (calls.Constant x) j = 0
row_count nodes n (calls.Atom m) j = length ((atom_meaning m).rows (arg_sides nodes n) j)
row_count nodes n (calls.Linear l) j = 0
row_count nodes n (calls.Pairing q) j = 0

-- ---- lists of the same length
joined_alike : {A B : Type 0} (n : ℕ) (f : ℕ → List A) (g : ℕ → List B) → ((j : ℕ) → j < n → length (f j) ≡ length (g j)) → length (joined_below n f) ≡ length (joined_below n g)
joined_alike zero f g h = refl
joined_alike (suc n) f g h =
    length-append (joined_below n f) (f n) ∙ ap₂ ◌+◌ (joined_alike n f g (λ j b. h j (omega arith))) (h n (omega arith)) ∙ sym (length-append (joined_below n g) (g n))

joined_empty : {A : Type 0} (n : ℕ) (f : ℕ → List A) → ((j : ℕ) → j < n → length (f j) ≡ 0) → length (joined_below n f) ≡ 0
joined_empty zero f h = refl
joined_empty (suc n) f h =
    let a = length-append (joined_below n f) (f n) in
    let b = joined_empty n f (λ j b. h j (omega arith)) in
    let d = h n (omega arith) in omega (arith, a, b, d)

module _ {C : Type 0} (of_number : Frac → C) (number_of : C → Option Frac) (Sums : C → C → Result C Passes → Type 0) (Changes : Change → C → Result C Passes → Type 0)
    (Reads : ℕ → List ℕ → ℕ → Pairs → C → Type 0) (rules : Rules) (p : Problem) (setting : Pairs) where
  -- ---- the rows of an entry
  is_alone : {E : Type 0} (e : EntryForms C) (f : Form C) → ◌≡◌ {A = Result (EntryForms C) E} (Ok e) (Ok (alone f)) → length e.rows ≡ 0
  is_alone e f h = let d : e ≡ alone f = cc in ap (λ (x : EntryForms C). length x.rows) d

  number_alone : (e : EntryForms C) (r : Result Frac ValueStop) → Ok e ≡ number_entry of_number number_of Sums Changes Reads rules p setting r → length e.rows ≡ 0
  number_alone e (Ok x) h = is_alone e _ h
  number_alone e (Err stop) h = cc

  pub number_rows : (call : Call) (sides : List Sides) (args : Arguments C) (j : ℕ) (e : EntryForms C) → NumberEntry of_number number_of Sums Changes Reads rules p setting call sides args j (Ok e)
      → length e.rows ≡ 0
  number_rows call sides args j e h = number_alone e (entry_formed call (given_by setting) (given_by []) sides (numbers_in number_of args) j) h

  pair_alone : (zero : Bool) (scaling : Scaling) (args : Arguments C) (pairs : List Pair) (j : ℕ) (e : EntryForms C) → PairEntryBy of_number number_of Sums Changes zero scaling args pairs j (Ok e)
      → length e.rows ≡ 0
  pair_alone true scaling args pairs j e h = cc
  pair_alone false scaling args pairs j e h = is_alone e h.0 h.2

  pub reduced_count : (forms : List (List (Form C))) (i : ℕ) (n : Node) (call : Call) (j : ℕ) (e : EntryForms C)
      → ReducedEntry of_number number_of Sums Changes Reads rules p setting forms i n.args call (arg_sides p.tree n) j (Ok e) → length e.rows ≡ row_count p.tree n call j
  reduced_count forms i n (calls.Variable v) j e h = is_alone e _ h
  reduced_count forms i n (calls.Parameter q) j e h = is_alone e _ h.2
  reduced_count forms i n (calls.Constant x) j e h = number_rows (calls.Constant x) (arg_sides p.tree n) (args_among of_number forms n.args) j e h
  reduced_count forms i n (calls.Atom m) j e h =
      let d : e ≡ record { form = h.0; rows = h.2.0 } = let q = h.2.2 in cc in
      ap (λ (x : EntryForms C). length x.rows) d ∙ h.2.1.0 ∙ length-map ((atom_meaning m).rows (arg_sides p.tree n) j) _
  reduced_count forms i n (calls.Linear l) j e h = is_alone e h.0 h.2
  reduced_count forms i n (calls.Pairing q) j e h = pair_alone _ _ _ _ j e h

  -- ---- the rows of a node
  own_rows : (i : ℕ) (es : List (EntryForms C)) (j : ℕ) (e : EntryForms C) → slice_index_or es j (alone (zero_form of_number)) ≡ e
      → length (entry_rows of_number i j (slice_index_or es j (alone (zero_form of_number)))) ≡ length e.rows
  own_rows i es j e is = ap (λ (x : EntryForms C). length (entry_rows of_number i j x)) is ∙ length-list_below (length e.rows) _

  module _ (forms : List (List (Form C))) (i : ℕ) (n : Node) (es : List (EntryForms C)) where
    abbrev Here : ℕ → EntryForms C
    Here j = slice_index_or es j (alone (zero_form of_number))

    none_in : ((j : ℕ) → j < length es → length (Here j).rows ≡ 0) → length (node_rows of_number i es) ≡ 0
    none_in h = joined_empty (length es) (λ j. entry_rows of_number i j (Here j)) (λ j b. own_rows i es j (Here j) refl ∙ h j b)

    call_count : (call : Call) → length es ≡ entries_of n.sides → ((j : ℕ) → j < length es → length (Here j).rows ≡ row_count p.tree n call j)
        → length (node_rows of_number i es) ≡ length (call_rows p.tree n call)
    call_count (calls.Variable v) size h = none_in h
    call_count (calls.Parameter q) size h = none_in h
    call_count (calls.Constant x) size h = none_in h
    call_count (calls.Atom m) size h =
        let rows = (atom_meaning m).rows (arg_sides p.tree n) in
        joined_alike (length es) (λ j. entry_rows of_number i j (Here j)) (λ j. map (placed_at j) (rows j)) (λ j b. own_rows i es j (Here j) refl ∙ h j b ∙ sym (length-map (rows j) (placed_at j)))
        ∙ ap (λ k. length (joined_below k (λ j. map (placed_at j) (rows j)))) size
    call_count (calls.Linear l) size h = none_in h
    call_count (calls.Pairing q) size h = none_in h

    node_count : (reduced : Bool) → length es ≡ entries_of n.sides → ((j : ℕ) (e : EntryForms C) → slice_get es j ≡ Some e
        → NodeEntryBy of_number number_of Sums Changes Reads rules p setting reduced forms i n j (Ok e)) → length (node_rows of_number i es) ≡ length (rows_if p.tree reduced (Some n))
    node_count true size h = call_count n.call size (λ j b. reduced_count forms i n n.call j (Here j) (h j (Here j) (slice_get-get_or es j (alone (zero_form of_number)) b)))
    node_count false size h =
        none_in (λ j b. number_rows n.call (arg_sides p.tree n) (args_among of_number forms n.args) j (Here j) (h j (Here j) (slice_get-get_or es j (alone (zero_form of_number)) b)))

  -- ---- the rows of all nodes
  module _ (table : Table C) (formed : AreFormed of_number number_of Sums Changes Reads rules p setting (length p.tree) table) where
    abbrev Own : ℕ → List (EntryForms C)
    Own i = slice_index_or table i []

    node_counted : (i : ℕ) → i < length p.tree → length (node_rows of_number i (Own i)) ≡ length (rows_if p.tree (is_reduced rules p i) (slice_get p.tree i))
    node_counted i lt =
        let n = element_at p.tree i lt in
        let count = formed.count in
        let gives = formed.each i n.0 (Own i) lt n.1 (slice_get-get_or table i [] (omega arith)) in
        node_count _ i n.0 (Own i) (is_reduced rules p i) gives.0 gives.1 ∙ ap (λ (o : Option Node). length (rows_if p.tree (is_reduced rules p i) o)) (sym n.1)

    rows_below : (k : ℕ) → k ≤ length p.tree → length (joined_below k (λ i. node_rows of_number i (Own i))) ≡ rows_counted p.tree (is_reduced rules p) k
    rows_below zero le = refl
    rows_below (suc k) le =
        length-append (joined_below k (λ i. node_rows of_number i (Own i))) (node_rows of_number k (Own k))
        ∙ ap₂ ◌+◌ (rows_below k (omega arith)) (node_counted k (omega arith))
        ∙ sym (summed_next (λ i. length (rows_of_node p.tree (is_reduced rules p) i)) k)
        ∙ ap (rows_counted p.tree (is_reduced rules p)) (add-one k)

    pub graph-counted : length (graph_rows of_number table) ≡ rows_counted p.tree (is_reduced rules p) (length p.tree)
    graph-counted = ap (λ k. length (joined_below k (λ i. node_rows of_number i (Own i)))) formed.count ∙ rows_below (length p.tree) (omega arith)
