-- The nodes of a problem are formed in one way.
use Rattle.std.proofs.Common.{◌≡◌, ℕ, zero, suc, ◌<◌, ◌≤◌, arith, Bool, true, false, List, [], ◌∷◌, length, map, get_or, Option, Some, refl, sym, ap, ap₂, ◌∙◌, subst, Result, Ok, Err}
use Rattle.std.specs.Prelude.{slice_get}
use native.Mathlib.Decide.{dec_lt}
use Rattle.dcx_math.proofs.Lists.{map-get_or}
use Rattle.dcx_frac.specs.declared.fraction.Frac.{Frac}
use Rattle.dcx_frac.specs.declared.fraction.Passes.{Passes}
use Rattle.dcx_shape.specs.Sides.{entries_of}
use Rattle.dcx_atom.specs.declared.stops.ValueStop.{ValueStop}
use Rattle.dcx_atom.specs.Arrays.{sides_at}
use Rattle.dcx_affine.specs.Pairing.{pairs_at}
use Rattle.dcx_point.specs.Pairs.{Pairs}
use Rattle.dcx_arena.specs.Nodes.{IsNode}
use Rattle.dcx_call.specs.declared.call.Call.{Call}
use Rattle.dcx_call.specs.declared.call.Call.TheVariants as calls
use Rattle.dcx_call.specs.Atoms.{atom_meaning}
use Rattle.dcx_call.specs.Linears.{linear_meaning}
use Rattle.dcx_convex.specs.Rules.{Rules}
use Rattle.dcx_tree.specs.declared.problem.Problem.{Problem}
use Rattle.dcx_tree.specs.Nodes.{Node, arg_sides}
use Rattle.dcx_unknowns.specs.Layout.{is_reduced, first_aux}
use Rattle.dcx_unknowns.proofs.NodeForms.{node_at}
use Rattle.dcx_linear.specs.declared.change.Change.{Change}
use Rattle.dcx_linear.specs.declared.form.Form.{Form}
use Rattle.dcx_linear.specs.Forms.{is_constant}
use Rattle.dcx_entries.specs.declared.entries.EntryForms.{EntryForms}
use Rattle.dcx_entries.specs.Forming.{FormsEach}
use Rattle.dcx_entries.specs.Parts.{term_part, aux_part, row_part}
use Rattle.dcx_entries.specs.Entries.{alone, entry_forms}
use Rattle.dcx_entries.specs.Standing.{args_among}
use Rattle.dcx_entries.specs.Nodes.{Table, table_forms, NodeStop, NumberEntry, scaling_of, ReducedEntry, NodeEntryBy, NodeEntry, NodeGives, AreFormed, IsFirstStop, NodesGive}
use Rattle.dcx_entries.proofs.OneAnswer.{one_each, one_linear_entries, one_atom_entries, one_pair_entries}
use Rattle.dcx_nodes.proofs.Local.{entries_alike}
use Rattle.dcx_nodes.proofs.Numbers.{found_at}
use Rattle.dcx_nodes.proofs.PairNodes.{same_get}

-- lists that have the same at each place
same_all : {A : Type 0} (xs ys : List A) (d : A) → length xs ≡ length ys → ((i : ℕ) → i < length xs → get_or xs i d ≡ get_or ys i d) → xs ≡ ys
same_all [] [] d e h = refl
same_all [] (y ∷ ys) d e h = absurd (omega (arith, e))
same_all (x ∷ xs) [] d e h = absurd (omega (arith, e))
same_all (x ∷ xs) (y ∷ ys) d e h = ap₂ ◌∷◌ (h 0 (omega arith)) (same_all xs ys d (omega (arith, e)) (λ i b. h (suc i) (omega (arith, b))))

module _ {C : Type 0} (of_number : Frac → C) (number_of : C → Option Frac) (Sums : C → C → Result C Passes → Type 0) (Changes : Change → C → Result C Passes → Type 0)
    (Reads : ℕ → List ℕ → ℕ → Pairs → C → Type 0)
    (one_sum : (a b : C) (r s : Result C Passes) → Sums a b r → Sums a b s → r ≡ s) (one_change : (change : Change) (a : C) (r s : Result C Passes) → Changes change a r → Changes change a s → r ≡ s)
    (one_read : (position : ℕ) (name : List ℕ) (entry : ℕ) (setting : Pairs) (c d : C) → Reads position name entry setting c → Reads position name entry setting d → c ≡ d)
    (rules : Rules) (p : Problem) (setting : Pairs) where
  -- ---- one node
  module _ (forms : List (List (Form C))) (i : ℕ) (n : Node) (size : ℕ) (r s : Result (List (EntryForms C)) ValueStop) where
    abbrev Entry : Call → ℕ → Result (EntryForms C) ValueStop → Type 0
    Entry call j q = ReducedEntry of_number number_of Sums Changes Reads rules p setting forms i n.args call (arg_sides p.tree n) j q

    one_reduced : (call : Call) → FormsEach (Entry call) size r → FormsEach (Entry call) size s → r ≡ s
    one_reduced (calls.Variable v) h k = one_each (Entry (calls.Variable v)) (λ j x y a b. a ∙ sym b) size r s h k
    one_reduced (calls.Parameter q) h k =
        one_each (Entry (calls.Parameter q))
        (λ j x y a b. a.2 ∙ ap (λ c. Ok (alone (is_constant c))) (one_read _ q.name j setting a.0 b.0 a.1 b.1) ∙ sym b.2) size r s h k
    one_reduced (calls.Constant x) h k = one_each (Entry (calls.Constant x)) (λ j x y a b. a ∙ sym b) size r s h k
    one_reduced (calls.Atom m) h k =
        one_atom_entries of_number number_of Sums Changes one_sum one_change (λ j. map (aux_part of_number (first_aux rules p i)) ((atom_meaning m).result (arg_sides p.tree n) j))
        (λ j. map (λ row. map (row_part of_number (args_among of_number forms n.args) (first_aux rules p i)) row) ((atom_meaning m).rows (arg_sides p.tree n) j)) size r s h k
    one_reduced (calls.Linear l) h k =
        one_linear_entries of_number number_of Sums Changes one_sum one_change (λ j. map (term_part (args_among of_number forms n.args)) ((linear_meaning l).terms (arg_sides p.tree n) j)) size r s h k
    one_reduced (calls.Pairing q) h k =
        one_pair_entries of_number number_of Sums Changes one_sum one_change (scaling_of of_number number_of Sums Changes Reads rules p setting q forms n.args) (args_among of_number forms n.args)
        (λ j. pairs_at q (sides_at (arg_sides p.tree n) 0) (sides_at (arg_sides p.tree n) 1) j) size r s h k

    one_by : (b : Bool) → FormsEach (NodeEntryBy of_number number_of Sums Changes Reads rules p setting b forms i n) size r
        → FormsEach (NodeEntryBy of_number number_of Sums Changes Reads rules p setting b forms i n) size s → r ≡ s
    one_by true h k = one_reduced n.call h k
    one_by false h k = one_each (NumberEntry of_number number_of Sums Changes Reads rules p setting n.call (arg_sides p.tree n) (args_among of_number forms n.args))
        (λ j x y a b. a ∙ sym b) size r s h k

    one_node : FormsEach (NodeEntry of_number number_of Sums Changes Reads rules p setting forms i n) size r
        → FormsEach (NodeEntry of_number number_of Sums Changes Reads rules p setting forms i n) size s → r ≡ s
    one_node = one_by (is_reduced rules p i)

  -- ---- the nodes before a node
  abbrev Formed : ℕ → Table C → Type 0
  Formed k t = AreFormed of_number number_of Sums Changes Reads rules p setting k t

  there_at : (k : ℕ) (t : Table C) → Formed k t → (i : ℕ) → i < k → slice_get t i ≡ Some (get_or t i [])
  there_at k t f i lt = let within : i < length t = omega (arith, lt, f.count) in found_at t i (get_or t i []) within (same_get t i [] (get_or t i []) within)

  -- tables that are the same before a node have the same forms there
  forms_alike : (t u : Table C) (i : ℕ) → ((x : ℕ) → x < i → get_or t x [] ≡ get_or u x []) → (x : ℕ) → x < i → get_or (table_forms u) x [] ≡ get_or (table_forms t) x []
  forms_alike t u i h x lt = sym (map-get_or entry_forms refl u x) ∙ ap entry_forms (sym (h x lt)) ∙ map-get_or entry_forms refl t x

  agree : (m : ℕ) (a b : ℕ) (t u : Table C) → Formed a t → Formed b u → a ≤ length p.tree → (i : ℕ) → i < m → i < a → i < b → get_or t i [] ≡ get_or u i []
  agree zero a b t u f g within i lt la lb = absurd (omega (arith, lt))
  agree (suc m) a b t u f g within i lt la lb =
      let (n, at) = node_at p i (omega (arith, la, within)) in
      let before = forms_alike t u i (λ x lx. agree m a b t u f g within x (omega (arith, lx, lt)) (omega (arith, lx, la)) (omega (arith, lx, lb))) in
      let e : ◌≡◌ {A = Result (List (EntryForms C)) ValueStop} (Ok (get_or t i [])) (Ok (get_or u i [])) = one_node (table_forms u) i n (entries_of n.sides) (Ok (get_or t i [])) (Ok (get_or u i []))
      (entries_alike of_number number_of Sums Changes Reads rules p setting (table_forms t) (table_forms u) i before n at (entries_of n.sides) (Ok (get_or t i []))
      (f.each i n (get_or t i []) la at (there_at a t f i la)))
      (g.each i n (get_or u i []) lb at (there_at b u g i lb)) in
      cc

  -- ---- all nodes
  one_table : (k : ℕ) → k ≤ length p.tree → (t u : Table C) → Formed k t → Formed k u → t ≡ u
  one_table k within t u f g = same_all t u [] (f.count ∙ sym g.count) (λ i b. let lt : i < k = omega (arith, b, f.count) in agree (suc i) k k t u f g within i (omega arith) lt lt)

  -- what stops the node of e, where its forms are those of another table
  moved : (k : ℕ) (t : Table C) → Formed k t → k ≤ length p.tree → (i : ℕ) (u : Table C) → i ≤ k → Formed i u → (n : Node) → IsNode p.tree i n → (stop : ValueStop) →
      NodeGives of_number number_of Sums Changes Reads rules p setting u i n (Err stop) → NodeGives of_number number_of Sums Changes Reads rules p setting t i n (Err stop)
  moved k t f within i u le g n at stop h =
      entries_alike of_number number_of Sums Changes Reads rules p setting (table_forms u) (table_forms t) i
      (forms_alike u t i (λ x lx. sym (agree i k i t u f g within x lx (omega (arith, lx, le)) lx))) n at (entries_of n.sides) (Err stop) h

  -- a node that is formed doesn't stop
  formed_or_stops : (k : ℕ) (t : Table C) → Formed k t → k ≤ length p.tree → (m : ℕ) (e : NodeStop) → e.node < k → IsFirstStop of_number number_of Sums Changes Reads rules p setting m e → ⊥
  formed_or_stops k t f within m e lt h =
      let (n, at) = node_at p e.node (omega (arith, lt, within)) in
      let d : ◌≡◌ {A = Result (List (EntryForms C)) ValueStop} (Ok (get_or t e.node [])) (Err e.stop) = one_node (table_forms t) e.node n (entries_of n.sides) (Ok (get_or t e.node [])) (Err e.stop)
      (f.each e.node n (get_or t e.node []) lt at (there_at k t f e.node lt))
      (moved k t f within e.node h.table (omega (arith, lt)) h.before n at e.stop (h.here n at)) in
      cc

  same_stop : (m : ℕ) → m ≤ length p.tree → (e d : NodeStop) → e.node ≡ d.node → IsFirstStop of_number number_of Sums Changes Reads rules p setting m e
      → IsFirstStop of_number number_of Sums Changes Reads rules p setting m d → e ≡ d
  same_stop m within e d same h k =
      let lt = k.within in
      let (n, at) = node_at p d.node (omega (arith, lt, within)) in
      let le : d.node ≤ length p.tree = omega (arith, lt, within) in
      let formed : Formed d.node h.table = subst (λ i. Formed i h.table) same h.before in
      let here : NodeGives of_number number_of Sums Changes Reads rules p setting h.table d.node n (Err e.stop) =
      subst (λ i. (n : Node) → IsNode p.tree i n → NodeGives of_number number_of Sums Changes Reads rules p setting h.table i n (Err e.stop)) same h.here n at in
      let q : ◌≡◌ {A = Result (List (EntryForms C)) ValueStop} (Err e.stop) (Err d.stop) = one_node (table_forms k.table) d.node n (entries_of n.sides) (Err e.stop) (Err d.stop)
      (moved d.node k.table k.before le d.node h.table (omega arith) formed n at e.stop here) (k.here n at) in
      let stops : e.stop ≡ d.stop = cc in
      ap₂ (λ x y. record { node = x; stop = y }) same stops

  pub one_forming : (k : ℕ) → k ≤ length p.tree → (r s : Result (Table C) NodeStop) → NodesGive of_number number_of Sums Changes Reads rules p setting k r
      → NodesGive of_number number_of Sums Changes Reads rules p setting k s → r ≡ s
  one_forming k within (Ok t) (Ok u) h g = ap Ok (one_table k within t u h g)
  one_forming k within (Ok t) (Err e) h g = absurd (formed_or_stops k t h within k e g.within g)
  one_forming k within (Err e) (Ok u) h g = absurd (formed_or_stops k u g within k e h.within h)
  one_forming k within (Err e) (Err d) h g = ap Err (by (dec_lt e.node d.node) (dec_lt d.node e.node))
    where
      by : Dec (e.node < d.node) → Dec (d.node < e.node) → e ≡ d
      by (yes lt) q = absurd (formed_or_stops d.node g.table g.before (let b = g.within in omega (arith, b, within)) k e lt h)
      by (no f) (yes lt) = absurd (formed_or_stops e.node h.table h.before (let b = h.within in omega (arith, b, within)) k d lt g)
      by (no f) (no q) = same_stop k within e d (omega (arith, f, q)) h g
