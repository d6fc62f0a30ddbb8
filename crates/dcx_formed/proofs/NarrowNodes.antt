-- What is kept by all operations, and is so of numbers, unknowns and parameters, is so of each formed node.
use Rattle.std.proofs.Common.{◌≡◌, ◌⊎◌, ℕ, zero, suc, ◌+◌, ◌<◌, ◌≤◌, arith, get_or, Bool, true, false, List, [], length, map, Option, Some, None}
use Rattle.std.proofs.Common.{option_map, Result, Ok, Err, slice_get, slice_index_or, refl, sym, ap, ◌∙◌, subst, inl, inr}
use Rattle.std.specs.List.{Contains, list_any}
use Rattle.std.proofs.Props.{props}
use Rattle.std.proofs.Math.Logic.{∥∥₁_elim}
use Rattle.std.proofs.lemmas.Option.{none-some, slice_get-map, slice_get_within, slice_get_cases, get_or_from_slice_get}
use Rattle.std.proofs.lemmas.List.{length-map}
use Rattle.dcx_frac.specs.declared.fraction.Frac.{Frac}
use Rattle.dcx_frac.specs.declared.fraction.Passes.{Passes}
use Rattle.dcx_shape.specs.Shape.{sides_of}
use Rattle.dcx_shape.specs.Sides.{entries_of}
use Rattle.dcx_atom.specs.declared.stops.ValueStop.{ValueStop}
use Rattle.dcx_atom.specs.Arrays.{sides_at}
use Rattle.dcx_atom.specs.Formed.{zero_frac}
use Rattle.dcx_affine.specs.declared.pairing.Pair.{Pair}
use Rattle.dcx_affine.specs.Pairing.{pairs_at}
use Rattle.dcx_point.specs.Pairs.{Pairs}
use Rattle.dcx_arena.specs.Nodes.{IsNode}
use Rattle.dcx_call.specs.declared.attribute.Parameter.{Parameter}
use Rattle.dcx_call.specs.declared.attribute.Variable.{Variable}
use Rattle.dcx_call.specs.declared.call.Call.{Call}
use Rattle.dcx_call.specs.declared.call.Call.TheVariants as calls
use Rattle.dcx_call.specs.Atoms.{atom_meaning, atom_lawful}
use Rattle.dcx_call.specs.Linears.{linear_meaning}
use Rattle.dcx_call.specs.Calls.{shape_of}
use Rattle.dcx_call.specs.Values.{given_by, entry_formed}
use Rattle.dcx_call.proofs.CallLaws.{own_is}
use Rattle.dcx_convex.specs.Rules.{Rules}
use Rattle.dcx_tree.specs.declared.problem.Problem.{Problem}
use Rattle.dcx_tree.specs.Nodes.{Node, arg_sides, number_in as number_of_name}
use Rattle.dcx_tree.specs.Problems.{IsListed, AreDeclared}
use Rattle.dcx_tree.specs.Meaning.{names_in}
use Rattle.dcx_tree.proofs.Sublists.{contains_at}
use Rattle.dcx_linear.specs.declared.change.Change.{Change}
use Rattle.dcx_linear.specs.declared.form.Form.{Form}
use Rattle.dcx_linear.specs.Forms.{is_constant}
use Rattle.dcx_unknowns.specs.Unknowns.{first_unknown, unknown_from}
use Rattle.dcx_unknowns.specs.Layout.{is_reduced, first_aux, aux_at, call_aux, aux_if, unknown_kinds}
use Rattle.dcx_unknowns.proofs.Domains.{number_is}
use Rattle.dcx_unknowns.proofs.Lists.{Each, each_nil, each_map}
use Rattle.dcx_unknowns.proofs.NodeForms.{node_at}
use Rattle.dcx_entries.specs.declared.entries.EntryForms.{EntryForms}
use Rattle.dcx_entries.specs.declared.scaling.Scaling.{Scaling}
use Rattle.dcx_entries.specs.Parts.{Arguments, form_of_unknown, has_zero_divisor}
use Rattle.dcx_entries.specs.Entries.{alone, entry_forms, PairEntryBy}
use Rattle.dcx_entries.specs.Standing.{args_among}
use Rattle.dcx_entries.specs.Nodes.{Table, table_forms, numbers_in, number_entry, ReducedEntry, NodeEntryBy, scaling_of, AreFormed}
use Rattle.dcx_entries.proofs.Past.{past_end}
use Rattle.dcx_formed.specs.Within.{OfEntry, OfTable}
use Rattle.dcx_formed.proofs.Unknowns.{aux_within, variable_within}
use Rattle.dcx_formed.proofs.Entries.{at_or, IsKept, linear_keeps, atom_keeps, terms_have, result_has, rows_have, pair_sum_keeps, number_has}

-- the entries that stand at a place of the table, as forms
forms_there : {C : Type 0} (table : Table C) (a : ℕ) (es : List (EntryForms C)) → slice_get table a ≡ Some es → slice_index_or (table_forms table) a [] ≡ entry_forms es
forms_there table a es e = get_or_from_slice_get (table_forms table) a (entry_forms es) [] (slice_get-map entry_forms table a ∙ ap (option_map entry_forms) e)

module _ {C : Type 0} (of_number : Frac → C) (number_of : C → Option Frac) (Sums : C → C → Result C Passes → Type 0) (Changes : Change → C → Result C Passes → Type 0)
    (Reads : ℕ → List ℕ → ℕ → Pairs → C → Type 0) (rules : Rules) (p : Problem) (setting : Pairs)
    (F : Form C → Type 0) (kept : IsKept of_number number_of Sums Changes F (length (unknown_kinds rules p)))
    (reads : (q : Parameter) (j : ℕ) (c : C) → (AreDeclared p.tree p.variables p.parameters → Contains p.parameters q) → j < entries_of (sides_of q.shape) →
    Reads (number_of_name (names_in p).parameters q.name) q.name j setting c → F (is_constant c)) where
  number_keeps : (e : EntryForms C) (r : Result Frac ValueStop) → ◌≡◌ {A = Result (EntryForms C) ValueStop} (Ok e) (number_entry of_number number_of Sums Changes Reads rules p setting r) → OfEntry F e
  number_keeps e (Ok x) is = let d : alone (is_constant (of_number x)) ≡ e = cc in number_has of_number number_of Sums Changes F (length (unknown_kinds rules p)) kept e x d
  number_keeps e (Err stop) is = absurd cc

  -- the form of an unknown, if there is one
  unknown_has : (o : Option ℕ) → ((n : ℕ) → o ≡ Some n → n < length (unknown_kinds rules p)) → F (form_of_unknown of_number o)
  unknown_has None h = kept.numbers zero_frac
  unknown_has (Some n) h = kept.unknowns n (h n refl)

  form_has : (e : EntryForms C) (f : Form C) → alone f ≡ e → F f → OfEntry F e
  form_has e f d h = subst (λ x. OfEntry F x) d (record { form = h; rows = λ k g at. absurd (none-some g at) })

  module _ (forms : List (List (Form C))) (i : ℕ) (n : Node) (at : IsNode p.tree i n) (b : i < length p.tree) (has : (k e : ℕ) → F (args_among of_number forms n.args k e)) (j : ℕ)
      (lt : j < entries_of n.sides) (e : EntryForms C) where
    variable_keeps : (v : Variable) → (AreDeclared p.tree p.variables p.parameters → Contains p.variables v) → sides_of v.shape ≡ n.sides → (m : ℕ) →
        unknown_from (first_unknown p.variables (number_of_name (names_in p).variables v.name)) v j ≡ Some m → m < length (unknown_kinds rules p)
    variable_keeps v listed own m is =
        ∥∥₁_elim p.declared (hlevel props)
        (λ d. let (k, there) = contains_at p.variables v (listed d) in
        variable_within rules p k v there j (subst (λ s. j < entries_of s) (sym own) lt) m
        (ap (λ h. unknown_from (first_unknown p.variables h) v j) (sym (number_is p d k v there)) ∙ is))

    pair_keeps : (scaling : Scaling) (args : Arguments C) (h : (k x : ℕ) → F (args k x)) (xs : List Pair) (zero_there : Bool)
        → PairEntryBy of_number number_of Sums Changes zero_there scaling args xs j (Ok e) → OfEntry F e
    pair_keeps scaling args h xs true s = absurd cc
    pair_keeps scaling args h xs false s = pair_sum_keeps of_number number_of Sums Changes F (length (unknown_kinds rules p)) kept args h scaling xs e s

    abbrev number_formed : Call → Result Frac ValueStop
    number_formed call = entry_formed call (given_by setting) (given_by []) (arg_sides p.tree n) (numbers_in number_of (args_among of_number forms n.args)) j

    reduced_keeps : (call : Call) → shape_of call (arg_sides p.tree n) ≡ Some n.sides → (AreDeclared p.tree p.variables p.parameters → IsListed p.variables p.parameters call) →
        ((k : ℕ) → k < length (call_aux p.tree n call) → first_aux rules p i + k < length (unknown_kinds rules p)) →
        ReducedEntry of_number number_of Sums Changes Reads rules p setting forms i n.args call (arg_sides p.tree n) j (Ok e) → OfEntry F e
    reduced_keeps (calls.Variable v) shape listed few s =
        let o = unknown_from (first_unknown p.variables (number_of_name (names_in p).variables v.name)) v j in
        let d : alone (form_of_unknown of_number o) ≡ e = cc in
        form_has e (form_of_unknown of_number o) d (unknown_has o (variable_keeps v listed (own_is (sides_of v.shape) (arg_sides p.tree n) n.sides shape)))
    reduced_keeps (calls.Parameter q) shape listed few s =
        let c = s.0 in
        let d : alone (is_constant c) ≡ e = cc (s.2) in
        form_has e (is_constant c) d (reads q j c listed (subst (λ r. j < entries_of r) (sym (own_is (sides_of q.shape) (arg_sides p.tree n) n.sides shape)) lt) s.1)
    reduced_keeps (calls.Constant x) shape listed few s = number_keeps e (number_formed (calls.Constant x)) s
    reduced_keeps (calls.Atom m) shape listed few s =
        let own = (atom_lawful m).own_unknowns (arg_sides p.tree n) n.sides shape in
        atom_keeps of_number number_of Sums Changes F (length (unknown_kinds rules p)) kept _ _ e s
        (result_has of_number number_of Sums Changes F (length (unknown_kinds rules p)) kept (first_aux rules p i) (length ((atom_meaning m).kinds (arg_sides p.tree n))) few
        ((atom_meaning m).result (arg_sides p.tree n) j) (own.results j lt))
        (rows_have of_number number_of Sums Changes F (length (unknown_kinds rules p)) kept (first_aux rules p i) (length ((atom_meaning m).kinds (arg_sides p.tree n))) few
        (args_among of_number forms n.args) has ((atom_meaning m).rows (arg_sides p.tree n) j) (own.rows j lt))
    reduced_keeps (calls.Linear l) shape listed few s =
        linear_keeps of_number number_of Sums Changes F (length (unknown_kinds rules p)) kept _ e s
        (terms_have of_number number_of Sums Changes F (length (unknown_kinds rules p)) kept (args_among of_number forms n.args) has ((linear_meaning l).terms (arg_sides p.tree n) j))
    reduced_keeps (calls.Pairing q) shape listed few s =
        let scaling = scaling_of of_number number_of Sums Changes Reads rules p setting q forms n.args in
        let xs = pairs_at q (sides_at (arg_sides p.tree n) 0) (sides_at (arg_sides p.tree n) 1) j in
        pair_keeps scaling (args_among of_number forms n.args) has xs (list_any (has_zero_divisor number_of scaling (args_among of_number forms n.args)) xs) s

    aux_is : is_reduced rules p i ≡ true → (k : ℕ) → k < length (call_aux p.tree n n.call) → first_aux rules p i + k < length (unknown_kinds rules p)
    aux_is reduced k l =
        let same : aux_at rules p i ≡ call_aux p.tree n n.call = ap (λ r. aux_if p.tree r (slice_get p.tree i)) reduced ∙ ap (aux_if p.tree true) at in
        aux_within rules p i k b (subst (λ xs. k < length xs) (sym same) l)

    node_keeps : (reduced : Bool) → is_reduced rules p i ≡ reduced → NodeEntryBy of_number number_of Sums Changes Reads rules p setting reduced forms i n j (Ok e) → OfEntry F e
    node_keeps true is s = reduced_keeps n.call (p.nodes.shaped i n at) (λ d. d.listed i n at) (aux_is is) s
    node_keeps false is s = number_keeps e (number_formed n.call) s

  -- ---- all nodes
  module _ (table : Table C) (formed : AreFormed of_number number_of Sums Changes Reads rules p setting (length p.tree) table) where
    abbrev HasBelow : ℕ → Type 0
    HasBelow d = (i j : ℕ) (es : List (EntryForms C)) (e : EntryForms C) → i < d → slice_get table i ≡ Some es → slice_get es j ≡ Some e → OfEntry F e

    entries_have : (d a : ℕ) → a < d → HasBelow d → Each F (slice_index_or (table_forms table) a [])
    entries_have d a l h = by (slice_get_cases table a).1
      where
        by : ((x : List (EntryForms C)) × (a < length table) × (slice_get table a ≡ Some x) × (get_or table a x ≡ x)) ⊎ ((length table ≤ a) × (slice_get table a ≡ None))
            → Each F (slice_index_or (table_forms table) a [])
        by (inl found) = subst (Each F) (sym (forms_there table a found.0 found.2)) (each_map F (λ (x : EntryForms C). x.form) found.0 (λ j e at. (h a j found.0 e l found.2 at).form))
        by (inr past) = subst (Each F) (sym (past_end (table_forms table) a [] (let q = past.0 in omega (arith, q, length-map table entry_forms)))) (each_nil F)

    args_have : (d i : ℕ) (n : Node) → IsNode p.tree i n → i < suc d → HasBelow d → (k e : ℕ) → F (args_among of_number (table_forms table) n.args k e)
    args_have d i n at l h k e =
        at_or F (slice_index_or (map (λ a. slice_index_or (table_forms table) a []) n.args) k []) e (is_constant (of_number zero_frac))
        (at_or (Each F) (map (λ a. slice_index_or (table_forms table) a []) n.args) k []
        (each_map (Each F) (λ a. slice_index_or (table_forms table) a []) n.args
        (λ m a there. let early : a < i = subst (λ x. x < i) (get_or_from_slice_get n.args m a a there) (p.nodes.earlier i n at m a (slice_get_within n.args m a there)) in
        entries_have d a (omega (arith, early, l)) h))
        (each_nil F))
        (kept.numbers zero_frac)

    below : (d : ℕ) → HasBelow d
    below zero i j es e l there at = absurd (omega arith)
    below (suc d) i j es e l there found =
        let within : i < length p.tree = let q = slice_get_within table i es there in omega (arith, q, formed.count) in
        let (n, at) = node_at p i within in
        let gives = formed.each i n es within at there in
        node_keeps (table_forms table) i n at within (args_have d i n at l (below d)) j (let q = slice_get_within es j e found in omega (arith, q, gives.0)) e (is_reduced rules p i) refl
        (gives.1 j e found)

    pub table_keeps : OfTable F table
    table_keeps i j es e there at = below (suc i) i j es e (omega arith) there at
