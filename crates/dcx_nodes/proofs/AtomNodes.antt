-- The graph of an atom speaks of its own auxiliary unknowns, which have numbers of 32 bits.
use Rattle.std.proofs.Common.{◌≡◌, ℕ, ◌+◌, ◌<◌, ◌^◌, arith, Bool, List, [], ◌∷◌, length, map, get_or, All, Option, Some, None, sym, ap, ◌∙◌, subst, Result, true}
use Rattle.std.proofs.lemmas.List.{length-map, get_or-map}
use Rattle.std.proofs.lemmas.List.Elements.{All-cons, All-nil}
use Rattle.std.proofs.lemmas.Option.{same_Some, slice_get_within}
use Rattle.dcx_frac.specs.declared.fraction.Frac.{Frac}
use Rattle.dcx_frac.specs.declared.fraction.Passes.{Passes}
use Rattle.dcx_shape.specs.declared.shape.Sides.{Sides}
use Rattle.dcx_shape.specs.Sides.{entries_of}
use Rattle.dcx_atom.specs.declared.graph.Graph.{Graph}
use Rattle.dcx_atom.specs.declared.graph.GraphRow.{GraphRow}
use Rattle.dcx_atom.specs.declared.graph.GraphTerm.{GraphTerm}
use Rattle.dcx_atom.specs.declared.graph.AuxTerm.{AuxTerm}
use Rattle.dcx_atom.specs.declared.graph.Operand.{Operand}
use Rattle.dcx_atom.specs.declared.graph.Operand.TheVariants.{Argument, Aux}
use Rattle.dcx_atom.specs.declared.stops.ValueStop.{ValueStop}
use Rattle.dcx_atom.specs.Graph.{row_term, form_term, PlacedRow, placed_row, IsGraphOf}
use Rattle.dcx_atom.specs.Rows.{Row}
use Rattle.dcx_atom.proofs.BoundRows.{length-list_below}
use Rattle.dcx_atom.proofs.Lists.{get_or-list_below}
use Rattle.dcx_point.specs.Pairs.{Pairs}
use Rattle.dcx_arena.specs.Nodes.{IsNode, call_at, args_at, sides_at}
use Rattle.dcx_call.specs.declared.atoms.AtomCall.{AtomCall}
use Rattle.dcx_call.specs.declared.call.Call.TheVariants as calls
use Rattle.dcx_call.specs.Atoms.{atom_meaning, atom_lawful}
use Rattle.dcx_tree.specs.declared.problem.Problem.{Problem}
use Rattle.dcx_tree.specs.Nodes.{Node, arg_sides}
use Rattle.dcx_tree.proofs.NodeValues.{args_are, sides_are}
use Rattle.dcx_unknowns.specs.Layout.{marked, IsCallGraph, IsNodeGraph}
use Rattle.dcx_unknowns.proofs.Lists.{Each, each_head, each_tail, each_nil, each_cons, each_joined}
use Rattle.dcx_atom.specs.OwnUnknowns.{IsOwn, AreOwnTerms, AreOwnRows, IsOwnForm, UsesOwn}
use Rattle.dcx_linear.specs.declared.change.Change.{Change}
use Rattle.dcx_linear.specs.declared.form.Form.{Form}
use Rattle.dcx_entries.specs.declared.entries.EntryForms.{EntryForms}
use Rattle.dcx_entries.specs.Forming.{FormsEach, AtEntry}
use Rattle.dcx_entries.specs.Parts.{aux_part, row_part}
use Rattle.dcx_entries.specs.Entries.{AtomEntry}
use Rattle.dcx_entries.specs.Standing.{args_among, IsOperand}
use Rattle.dcx_entries.proofs.Places.{RowIsThere, AuxFits}
use Rattle.dcx_nodes.specs.Given.{HasFewUnknowns, first_marked}
use Rattle.dcx_nodes.specs.Formed.{ReducedGives}
use Rattle.dcx_nodes.proofs.AtNode.{the_node, call_is, shape_given}
use Rattle.dcx_nodes.proofs.Auxiliaries.{first_by_rules, graph_room}
use Rattle.dcx_nodes.proofs.Gives.{reduced_by}

-- ---- of the first so many unknowns
module _ (n first : ℕ) (few : first + n < 2 ^ 32) where
  terms_fit : (ts : List AuxTerm) → IsOwnForm n (map form_term ts) → All (AuxFits first) ts
  terms_fit [] h = All-nil (AuxFits first)
  terms_fit (t ∷ ts) h = All-cons (AuxFits first) t ts (let own = h.0 in omega (arith, own, few)) (terms_fit ts h.1)

  operand_there : (o : Operand) → IsOwn n o → IsOperand first o
  operand_there (Argument k e) h = tt
  operand_there (Aux k) h = omega (arith, h, few)

  row_there : (ts : List GraphTerm) → AreOwnTerms n (map row_term ts) → All (λ (t : GraphTerm). IsOperand first t.operand) ts
  row_there [] h = All-nil (λ (t : GraphTerm). IsOperand first t.operand)
  row_there (t ∷ ts) h = All-cons (λ (u : GraphTerm). IsOperand first u.operand) t ts (operand_there t.operand h.0) (row_there ts h.1)

  rows_there : (rs : List GraphRow) → Each (λ (r : PlacedRow). AreOwnTerms n r.row) (map placed_row rs) → All (RowIsThere first) rs
  rows_there [] h = All-nil (RowIsThere first)
  rows_there (r ∷ rs) h = All-cons (RowIsThere first) r rs (row_there r.terms (each_head (λ (r : PlacedRow). AreOwnTerms n r.row) (placed_row r) (map placed_row rs) h))
      (rows_there rs (each_tail (λ (r : PlacedRow). AreOwnTerms n r.row) (placed_row r) (map placed_row rs) h))

placed_own : (n j : ℕ) (rows : List Row) → AreOwnRows n rows → Each (λ (r : PlacedRow). AreOwnTerms n r.row) (map (λ row. record { entry = j; row = row }) rows)
placed_own n j [] h = each_nil (λ (r : PlacedRow). AreOwnTerms n r.row)
placed_own n j (r ∷ rs) h = each_cons (λ (r : PlacedRow). AreOwnTerms n r.row) (record { entry = j; row = r }) _ h.0 (placed_own n j rs h.1)

module _ (p : Problem) (i : ℕ) (m : AtomCall) (c : call_at p.tree i ≡ Some (calls.Atom m)) (n : Node) (at : IsNode p.tree i n) where
  -- an atom has a graph
  pub graph_there : IsNodeGraph p.tree i None → ⊥
  graph_there h = subst (λ z. IsCallGraph p.tree n z None) (call_is p i (calls.Atom m) c n at) (h n at)

  module _ (g : Graph) (h : IsNodeGraph p.tree i (Some g)) where
    is_graph : IsGraphOf (atom_meaning m) (arg_sides p.tree n) (entries_of n.sides) g
    is_graph = subst (λ z. IsCallGraph p.tree n z (Some g)) (call_is p i (calls.Atom m) c n at) (h n at)

    pub graph_of : (size : ℕ) → size ≡ entries_of (sides_at p.tree i) → IsGraphOf (atom_meaning m) (arg_sides p.tree n) size g
    graph_of size e = subst (λ k. IsGraphOf (atom_meaning m) (arg_sides p.tree n) k g) (sym (e ∙ ap entries_of (sides_are p.tree i n at))) is_graph

    own : UsesOwn (atom_meaning m) (arg_sides p.tree n) (entries_of n.sides)
    own = (atom_lawful m).own_unknowns (arg_sides p.tree n) n.sides (shape_given p i (calls.Atom m) c n at)

    pub results_counted : length g.results ≡ entries_of n.sides
    results_counted = sym (length-map g.results (map form_term)) ∙ ap length is_graph.results ∙ length-list_below (entries_of n.sides) ((atom_meaning m).result (arg_sides p.tree n))

    module _ (first : ℕ) (few : first + length g.aux < 2 ^ 32) where
      few_own : first + length ((atom_meaning m).kinds (arg_sides p.tree n)) < 2 ^ 32
      few_own = subst (λ ks. first + length ks < 2 ^ 32) is_graph.kinds few

      pub results_fit : All (λ ts. All (AuxFits first) ts) g.results
      results_fit k d lt =
          let below : k < entries_of n.sides = omega (arith, lt, results_counted) in
          let result : map form_term (get_or g.results k d) ≡ (atom_meaning m).result (arg_sides p.tree n) k =
          sym (get_or-map (map form_term) g.results k d [] lt) ∙ ap (λ fs. get_or fs k []) is_graph.results
          ∙ get_or-list_below (entries_of n.sides) ((atom_meaning m).result (arg_sides p.tree n)) k [] below in
          terms_fit (length ((atom_meaning m).kinds (arg_sides p.tree n))) first few_own (get_or g.results k d)
          (subst (IsOwnForm (length ((atom_meaning m).kinds (arg_sides p.tree n)))) (sym result) (own.results k below))

      pub rows_fit : All (RowIsThere first) g.rows
      rows_fit =
          let size = length ((atom_meaning m).kinds (arg_sides p.tree n)) in
          let P : PlacedRow → Type 0 = λ r. AreOwnTerms size r.row in
          rows_there size first few_own g.rows
          (subst (Each P) (sym is_graph.rows)
          (each_joined P (entries_of n.sides) (λ j. map (λ row. record { entry = j; row = row }) ((atom_meaning m).rows (arg_sides p.tree n) j))
          (λ j b. placed_own size j ((atom_meaning m).rows (arg_sides p.tree n) j) (own.rows j b))))

  module _ {C : Type 0} (of_number : Frac → C) (number_of : C → Option Frac) (Sums : C → C → Result C Passes → Type 0) (Changes : Change → C → Result C Passes → Type 0)
      (Reads : ℕ → List ℕ → ℕ → Pairs → C → Type 0) (setting : Pairs) (reduced fixed : List Bool) (forms : List (List (Form C))) (ids : List ℕ) (ids_are : ids ≡ args_at p.tree i) where
    abbrev pub AtomGives : List ℕ → ℕ → List Sides → ℕ → Result (EntryForms C) ValueStop → Type 0
    AtomGives args first sides j r =
        AtEntry j (AtomEntry of_number number_of Sums Changes (map (aux_part of_number first) ((atom_meaning m).result sides j))
        (map (λ row. map (row_part of_number (args_among of_number forms args) first) row) ((atom_meaning m).rows sides j))) r

    pub atom_gives : length reduced ≡ length p.tree → (size : ℕ) (r : Result (List (EntryForms C)) ValueStop) → size ≡ entries_of (sides_at p.tree i) →
        FormsEach (AtomGives ids (first_marked p reduced i) (arg_sides p.tree n)) size r →
        ReducedGives of_number number_of Sums Changes Reads p setting reduced fixed forms i r
    atom_gives count size r size_is f =
        reduced_by of_number number_of Sums Changes Reads p setting reduced fixed forms i (calls.Atom m) c size size_is r
        (λ rules marks z there.
        subst (λ first. FormsEach (AtomGives z.args first (arg_sides p.tree z)) size r) (first_by_rules p reduced rules count marks.reduces i)
        (subst (λ (y : Node). FormsEach (AtomGives y.args (first_marked p reduced i) (arg_sides p.tree y)) size r) (same_Some n z (sym at ∙ there))
        (subst (λ zs. FormsEach (AtomGives zs (first_marked p reduced i) (arg_sides p.tree n)) size r) (ids_are ∙ args_are p.tree i n at) f)))

-- ---- as code has them
module _ (p : Problem) (i : ℕ) (m : AtomCall) (c : call_at p.tree i ≡ Some (calls.Atom m)) where
  pub atom_within : i < length p.tree
  atom_within = let (n, at) = the_node p i (calls.Atom m) c in slice_get_within p.tree i n at

  module _ (g : Graph) (h : IsNodeGraph p.tree i (Some g)) where
    pub results_here : length g.results ≡ entries_of (sides_at p.tree i)
    results_here = let (n, at) = the_node p i (calls.Atom m) c in results_counted p i m c n at g h ∙ sym (ap entries_of (sides_are p.tree i n at))

    module _ (reduced : List Bool) (few : HasFewUnknowns p reduced) (e : marked reduced i ≡ true) (first : ℕ) (is : first ≡ first_marked p reduced i) where
      pub room_here : first + length g.aux < 2 ^ 32
      room_here = graph_room p reduced i few g atom_within e h first is

      pub fits_here : All (λ ts. All (AuxFits first) ts) g.results
      fits_here = let (n, at) = the_node p i (calls.Atom m) c in results_fit p i m c n at g h first room_here

      pub rows_here : All (RowIsThere first) g.rows
      rows_here = let (n, at) = the_node p i (calls.Atom m) c in rows_fit p i m c n at g h first room_here
