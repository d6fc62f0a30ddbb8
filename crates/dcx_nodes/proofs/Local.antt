-- What is formed of a node depends on the forms of its arguments alone.
use Rattle.std.proofs.Common.{◌≡◌, ℕ, zero, suc, ◌+◌, ◌<◌, ◌≤◌, arith, Bool, true, false, List, [], ◌∷◌, ◌++◌, length, length-append, map}
use Rattle.std.proofs.Common.{get_or, slice_index_or, All, Option, Some, refl, sym, ap, ap₂, ◌∙◌, subst, Result, Ok}
use Rattle.std.specs.Prelude.{slice_get, not, option_map}
use Rattle.std.specs.List.{list_all}
use Rattle.std.proofs.Math.ListN.{get_or-append}
use Rattle.std.proofs.lemmas.List.{length-map, map_push}
use Rattle.std.proofs.lemmas.List.Elements.{All-head, All-tail, All-weaker}
use Rattle.std.proofs.lemmas.Option.{same_Some, none-some, slice_get_within}
use Rattle.dcx_frac.specs.declared.fraction.Frac.{Frac}
use Rattle.dcx_frac.specs.declared.fraction.Passes.{Passes}
use Rattle.dcx_shape.specs.Sides.{entries_of}
use Rattle.dcx_atom.specs.declared.stops.ValueStop.{ValueStop}
use Rattle.dcx_atom.specs.Arrays.{sides_at}
use Rattle.dcx_atom.specs.Formed.{zero_frac}
use Rattle.dcx_affine.specs.Pairing.{pairs_at}
use Rattle.dcx_point.specs.Pairs.{Pairs}
use Rattle.dcx_arena.specs.Nodes.{IsNode, call_at}
use Rattle.dcx_call.specs.declared.call.Call.{Call}
use Rattle.dcx_call.specs.declared.call.Call.TheVariants as calls
use Rattle.dcx_call.specs.Atoms.{atom_meaning}
use Rattle.dcx_call.specs.Linears.{linear_meaning}
use Rattle.dcx_convex.specs.Rules.{Rules, Plain, judgement_at}
use Rattle.dcx_tree.specs.declared.problem.Problem.{Problem}
use Rattle.dcx_tree.specs.Nodes.{Node, arg_sides}
use Rattle.dcx_tree.specs.Meaning.{convex_problem}
use Rattle.dcx_tree.proofs.NodeValues.{args_are}
use Rattle.dcx_unknowns.specs.Layout.{is_reduced, first_aux}
use Rattle.dcx_linear.specs.declared.change.Change.{Change}
use Rattle.dcx_linear.specs.declared.form.Form.{Form}
use Rattle.dcx_linear.specs.Forms.{is_constant}
use Rattle.dcx_entries.specs.declared.entries.EntryForms.{EntryForms}
use Rattle.dcx_entries.specs.Forming.{FormsEach, AtEntry}
use Rattle.dcx_entries.specs.Parts.{Arguments, term_part, aux_part, row_part}
use Rattle.dcx_entries.specs.Entries.{entry_forms, LinearEntry, AtomEntry, PairEntry}
use Rattle.dcx_entries.specs.Standing.{args_among}
use Rattle.dcx_entries.specs.Nodes.{has_numbers, Table, table_forms, NumberEntry, side_of, scaling_of, pairing_scaling, ReducedEntry, NodeEntryBy, NodeEntry, NodeGives, AreFormed}
use Rattle.dcx_nodes.proofs.Gives.{each_alike}
use Rattle.dcx_nodes.proofs.PairNodes.{args_two}

-- what stands in a list that has one more
pub get_pushed : {A : Type 0} (xs : List A) (x y : A) (j : ℕ) → slice_get (xs ++ x ∷ []) j ≡ Some y → (P : Type 0) → (slice_get xs j ≡ Some y → P) → (j ≡ length xs → x ≡ y → P) → P
get_pushed [] x y zero e P f g = g refl (same_Some x y e)
get_pushed [] x y (suc j) e P f g = absurd (none-some y e)
get_pushed (z ∷ zs) x y zero e P f g = f e
get_pushed (z ∷ zs) x y (suc j) e P f g = get_pushed zs x y j e P f (λ d. g (ap suc d))

module _ {C : Type 0} (of_number : Frac → C) (number_of : C → Option Frac) (Sums : C → C → Result C Passes → Type 0) (Changes : Change → C → Result C Passes → Type 0)
    (Reads : ℕ → List ℕ → ℕ → Pairs → C → Type 0) (rules : Rules) (p : Problem) (setting : Pairs) where
  -- other forms, which are the same of the arguments of node i
  module _ (forms other : List (List (Form C))) (i : ℕ) (n : Node) (at : IsNode p.tree i n) (same : All (λ a. slice_index_or other a [] ≡ slice_index_or forms a []) n.args) where
    abbrev IsSame : ℕ → Type 0
    IsSame a = slice_index_or other a [] ≡ slice_index_or forms a []

    found : (ids : List ℕ) → All IsSame ids → map (λ a. slice_index_or other a []) ids ≡ map (λ a. slice_index_or forms a []) ids
    found [] h = refl
    found (a ∷ ids) h = ap₂ ◌∷◌ (All-head IsSame a ids h) (found ids (All-tail IsSame a ids h))

    args_alike : args_among of_number other n.args ≡ args_among of_number forms n.args
    args_alike =
        let among : List (List (Form C)) → Arguments C = λ m k e. slice_index_or (slice_index_or m k []) e (is_constant (of_number zero_frac)) in
        ap among (found n.args same)

    side_alike : (k : ℕ) → k < length n.args → side_of of_number number_of Sums Changes Reads rules p setting other (get_or n.args k 0)
        ≡ side_of of_number number_of Sums Changes Reads rules p setting forms (get_or n.args k 0)
    side_alike k b =
        ap (λ fs. record {
          number = not (is_reduced rules p (get_or n.args k 0));
          fixed = (judgement_at Plain (convex_problem p).nodes (get_or n.args k 0)).fixed;
          numbers = list_all (has_numbers number_of) fs;
        })
        (same k 0 b)

    abbrev Entry : List (List (Form C)) → Call → ℕ → Result (EntryForms C) ValueStop → Type 0
    Entry fs call j r = ReducedEntry of_number number_of Sums Changes Reads rules p setting fs i n.args call (arg_sides p.tree n) j r

    reduced_alike : (call : Call) → n.call ≡ call → (j : ℕ) (r : Result (EntryForms C) ValueStop) → Entry forms call j r → Entry other call j r
    reduced_alike (calls.Variable v) is j r h = h
    reduced_alike (calls.Parameter q) is j r h = h
    reduced_alike (calls.Constant x) is j r h =
        subst (λ a. NumberEntry of_number number_of Sums Changes Reads rules p setting (calls.Constant x) (arg_sides p.tree n) a j r) (sym args_alike) h
    reduced_alike (calls.Atom m) is j r h =
        subst (λ a. AtEntry j (AtomEntry of_number number_of Sums Changes (map (aux_part of_number (first_aux rules p i)) ((atom_meaning m).result (arg_sides p.tree n) j))
        (map (λ row. map (row_part of_number a (first_aux rules p i)) row) ((atom_meaning m).rows (arg_sides p.tree n) j))) r) (sym args_alike) h
    reduced_alike (calls.Linear l) is j r h =
        subst (λ a. AtEntry j (LinearEntry of_number number_of Sums Changes (map (term_part a) ((linear_meaning l).terms (arg_sides p.tree n) j))) r) (sym args_alike) h
    reduced_alike (calls.Pairing q) is j r h =
        let call : call_at p.tree i ≡ Some (calls.Pairing q) = ap (option_map (λ (z : Node). z.call)) at ∙ ap Some is in
        let two = args_two p i q call n at n.args (sym (args_are p.tree i n at)) in
        let scaling = ap₂ (pairing_scaling q) (side_alike 0 (omega (arith, two))) (side_alike 1 (omega (arith, two))) in
        subst (λ s. PairEntry of_number number_of Sums Changes s (args_among of_number other n.args) (pairs_at q (sides_at (arg_sides p.tree n) 0) (sides_at (arg_sides p.tree n) 1) j) j r)
        (sym scaling)
        (subst (λ a. PairEntry of_number number_of Sums Changes (scaling_of of_number number_of Sums Changes Reads rules p setting q forms n.args) a
        (pairs_at q (sides_at (arg_sides p.tree n) 0) (sides_at (arg_sides p.tree n) 1) j) j r) (sym args_alike) h)

    by_mark : (b : Bool) (j : ℕ) (r : Result (EntryForms C) ValueStop) → NodeEntryBy of_number number_of Sums Changes Reads rules p setting b forms i n j r
        → NodeEntryBy of_number number_of Sums Changes Reads rules p setting b other i n j r
    by_mark true j r h = reduced_alike n.call refl j r h
    by_mark false j r h = subst (λ a. NumberEntry of_number number_of Sums Changes Reads rules p setting n.call (arg_sides p.tree n) a j r) (sym args_alike) h

    entry_alike : (j : ℕ) (r : Result (EntryForms C) ValueStop) → NodeEntry of_number number_of Sums Changes Reads rules p setting forms i n j r
        → NodeEntry of_number number_of Sums Changes Reads rules p setting other i n j r
    entry_alike = by_mark (is_reduced rules p i)

    pub entries_by_args : (size : ℕ) (r : Result (List (EntryForms C)) ValueStop) → FormsEach (NodeEntry of_number number_of Sums Changes Reads rules p setting forms i n) size r
        → FormsEach (NodeEntry of_number number_of Sums Changes Reads rules p setting other i n) size r
    entries_by_args size r h =
        each_alike (NodeEntry of_number number_of Sums Changes Reads rules p setting forms i n) (NodeEntry of_number number_of Sums Changes Reads rules p setting other i n) size r
        (λ j b. entry_alike j) h

  -- other forms, which are the same of all nodes before node i
  module _ (forms other : List (List (Form C))) (i : ℕ) (same : (a : ℕ) → a < i → slice_index_or other a [] ≡ slice_index_or forms a []) (n : Node) (at : IsNode p.tree i n) where
    pub entries_alike : (size : ℕ) (r : Result (List (EntryForms C)) ValueStop) → FormsEach (NodeEntry of_number number_of Sums Changes Reads rules p setting forms i n) size r
        → FormsEach (NodeEntry of_number number_of Sums Changes Reads rules p setting other i n) size r
    entries_alike size r h =
        entries_by_args forms other i n at (All-weaker (λ a. a < i) (λ a. slice_index_or other a [] ≡ slice_index_or forms a []) same n.args (p.nodes.earlier i n at)) size r h

  -- one node more
  pub formed_more : (k : ℕ) (table : Table C) (es : List (EntryForms C)) → AreFormed of_number number_of Sums Changes Reads rules p setting k table →
      ((n : Node) → IsNode p.tree k n → NodeGives of_number number_of Sums Changes Reads rules p setting table k n (Ok es))
      → AreFormed of_number number_of Sums Changes Reads rules p setting (k + 1) (table ++ es ∷ [])
  formed_more k table es h here = record {
    count = omega (arith, length-append table (es ∷ []), h.count);
    each = λ i n fs lt at there. subst (λ forms. FormsEach (NodeEntry of_number number_of Sums Changes Reads rules p setting forms i n) (entries_of n.sides) (Ok fs))
        (sym (map_push entry_forms table es))
        (get_pushed table es fs i there (FormsEach (NodeEntry of_number number_of Sums Changes Reads rules p setting (table_forms table ++ entry_forms es ∷ []) i n) (entries_of n.sides) (Ok fs))
        (λ old. entries_alike (table_forms table) (table_forms table ++ entry_forms es ∷ []) i
        (pushed_same i (let b = slice_get_within table i fs old in omega (arith, b))) n at (entries_of n.sides) (Ok fs)
        (h.each i n fs (let b = slice_get_within table i fs old in omega (arith, b, h.count)) at old))
        (λ last same. subst (λ gs. FormsEach (NodeEntry of_number number_of Sums Changes Reads rules p setting (table_forms table ++ entry_forms es ∷ []) i n) (entries_of n.sides) (Ok gs)) same
        (entries_alike (table_forms table) (table_forms table ++ entry_forms es ∷ []) i (pushed_same i (omega (arith, last))) n at (entries_of n.sides) (Ok es)
        (new_node i n at (last ∙ h.count)))));
  }
    where
      pushed_same : (i : ℕ) → i ≤ length table → (a : ℕ) → a < i → slice_index_or (table_forms table ++ entry_forms es ∷ []) a [] ≡ slice_index_or (table_forms table) a []
      pushed_same i le a b = get_or-append (table_forms table) (entry_forms es ∷ []) [] a (omega (arith, b, le, length-map table entry_forms))

      new_node : (i : ℕ) (n : Node) → IsNode p.tree i n → i ≡ k → NodeGives of_number number_of Sums Changes Reads rules p setting table i n (Ok es)
      new_node i n at e = subst (λ m. (n : Node) → IsNode p.tree m n → NodeGives of_number number_of Sums Changes Reads rules p setting table m n (Ok es)) (sym e) here n at
