-- One node more is formed, or the first that isn't is met.
use Rattle.std.proofs.Common.{◌≡◌, ℕ, zero, suc, ◌+◌, ◌<◌, ◌≤◌, ◌^◌, arith, Bool, List, [], ◌∷◌, ◌++◌, length, length-append, map, get_or, slice_index_or}
use Rattle.std.proofs.Common.{Option, Some, option_map, unwrap_or, refl, sym, ap, ap₂, ◌∙◌, subst, inl, inr, Result, Ok, Err, OnOk, IfErr}
use Rattle.std.specs.Prelude.{slice_get}
use Rattle.std.specs.List.{All, Contains}
use Rattle.std.proofs.lemmas.List.Sums.{sum_by-cons}
use Rattle.std.proofs.lemmas.Bool.{cases_eq, cases_lt}
use Rattle.std.proofs.lemmas.List.{length-map, map_push, get_or_append_left, get_or_push}
use Rattle.std.proofs.lemmas.List.Elements.{All-contains, Contains-get_or}
use Rattle.std.proofs.lemmas.Option.{none-some, same_Some, slice_get-map, unwrap_or-slice_get}
use Rattle.dcx_math.proofs.Lists.{in_left}
use Rattle.dcx_frac.specs.declared.fraction.Frac.{Frac}
use Rattle.dcx_frac.specs.declared.fraction.Passes.{Passes}
use Rattle.dcx_shape.specs.Sides.{entries_of}
use Rattle.dcx_atom.specs.declared.stops.ValueStop.{ValueStop}
use Rattle.dcx_atom.specs.declared.stops.ValueStop.TheVariants as values
use Rattle.dcx_point.specs.Pairs.{Pairs}
use Rattle.dcx_arena.specs.declared.node.NodeId.{NodeId}
use Rattle.dcx_arena.specs.Nodes.{IsNode, args_at, sides_at, entries_in as entries_over}
use Rattle.dcx_tree.specs.declared.problem.Problem.{Problem}
use Rattle.dcx_tree.specs.Nodes.{Node}
use Rattle.dcx_tree.specs.Problems.{roots_of}
use Rattle.dcx_tree.proofs.Gathered.{roots_below}
use Rattle.dcx_tree.proofs.NodeValues.{args_are, sides_are}
use Rattle.dcx_unknowns.proofs.NodeForms.{node_at}
use Rattle.dcx_linear.specs.declared.change.Change.{Change}
use Rattle.dcx_linear.specs.Forms.{is_constant}
use Rattle.dcx_entries.specs.declared.entries.EntryForms.{EntryForms}
use Rattle.dcx_entries.specs.declared.formed.Formed.{Formed}
use Rattle.dcx_entries.specs.declared.standing.Standing.{Standing}
use Rattle.dcx_entries.specs.declared.standing.Standing.TheVariants.{Numbers, Forms}
use Rattle.dcx_entries.specs.Forming.{OnStop}
use Rattle.dcx_entries.specs.Entries.{alone, entry_forms}
use Rattle.dcx_entries.specs.Standing.{forms_of, all_forms}
use Rattle.dcx_entries.specs.Kept.{node_rows}
use Rattle.dcx_entries.specs.Nodes.{table_forms}
use Rattle.dcx_entries.proofs.Each.{OnStop-weaker}
use Rattle.dcx_nodes.specs.declared.forming.Forming.{Forming}
use Rattle.dcx_nodes.specs.Given.{first_marked}
use Rattle.dcx_nodes.specs.Formed.{entries_in, IsOfSides, MarkedGives}
use Rattle.dcx_nodes.specs.Uses.{IsUse, IsUsedFrom, AreLastUses, IsGivenBack}
use Rattle.dcx_nodes.specs.SoFar.{AreFormedTo, StopsAt, IsMarkedKept, IsMarkedStop, stop_of}
use Rattle.dcx_nodes.proofs.GraphRows.{node_more}
use Rattle.dcx_nodes.proofs.Numbers.{forms_counted}
use Rattle.dcx_nodes.proofs.Local.{get_pushed, entries_by_args, formed_more}

-- the forms of what stands for a node are those of its entries
forms_in : {C : Type 0} (of_number : Frac → C) (s : Standing C) → forms_of of_number s ≡ entry_forms (entries_in of_number s)
forms_in of_number (Forms es) = refl
forms_in of_number (Numbers x) = by x.entries
  where
    by : (xs : List Frac) → map (λ n. is_constant (of_number n)) xs ≡ entry_forms (map (λ n. alone (is_constant (of_number n))) xs)
    by [] = refl
    by (x ∷ xs) = ap (λ fs. is_constant (of_number x) ∷ fs) (by xs)

-- ---- lists
-- lists that are the same at a place, with one element more
pushed_alike : {A : Type 0} (fs gs : List (List A)) (f g : List A) (k : ℕ) → length fs ≡ k → length gs ≡ k → f ≡ g → (a : ℕ) → a < k + 1 → (a < k → slice_index_or fs a [] ≡ slice_index_or gs a []) →
    slice_index_or (fs ++ f ∷ []) a [] ≡ slice_index_or (gs ++ g ∷ []) a []
pushed_alike fs gs f g k m n same a lt before = elim (cases_lt a k) [
  | inl b ↦ get_or_append_left fs (f ∷ []) [] a (omega (arith, b, m)) ∙ before b ∙ sym (get_or_append_left gs (g ∷ []) [] a (omega (arith, b, n)))
  | inr past ↦ get_or_push fs f [] a (omega (arith, lt, past, m)) ∙ same ∙ sym (get_or_push gs g [] a (omega (arith, lt, past, n)))
]

-- the forms of what stands at a place
forms_at : {C : Type 0} (of_number : Frac → C) (xs ys : List (Standing C)) (a : ℕ) → slice_get xs a ≡ slice_get ys a
    → slice_index_or (all_forms of_number xs) a [] ≡ slice_index_or (all_forms of_number ys) a []
forms_at of_number xs ys a e =
    sym (unwrap_or-slice_get (all_forms of_number xs) a [])
    ∙ ap (λ o. unwrap_or o []) (slice_get-map (forms_of of_number) xs a ∙ ap (option_map (forms_of of_number)) e ∙ sym (slice_get-map (forms_of of_number) ys a))
    ∙ unwrap_or-slice_get (all_forms of_number ys) a []

module _ {C : Type 0} (of_number : Frac → C) (number_of : C → Option Frac) (Sums : C → C → Result C Passes → Type 0) (Changes : Change → C → Result C Passes → Type 0)
    (Reads : ℕ → List ℕ → ℕ → Pairs → C → Type 0) (p : Problem) (setting : Pairs) (reduced fixed : List Bool) where
  -- the arguments of a node are used by it
  arg_used : (k : ℕ) (ids : List ℕ) → ids ≡ args_at p.tree k → All (λ a. IsUsedFrom p k a) ids
  arg_used k ids e j d b = (k, omega arith, inl (subst (λ zs. Contains zs (get_or ids j d)) e (Contains-get_or ids j d b)))

  module _ (k : ℕ) (old : Forming C) (so_far : AreFormedTo of_number number_of Sums Changes Reads p setting reduced fixed k old) where
    -- the forms of the arguments of node k stand
    args_forms : (n : Node) → IsNode p.tree k n → All (λ a. slice_index_or (table_forms so_far.table) a [] ≡ slice_index_or (all_forms of_number old.standing.items) a []) n.args
    args_forms n at j d b =
        sym (so_far.forms (get_or n.args j d) (p.nodes.earlier k n at j d b) (arg_used k n.args (sym (args_are p.tree k n at)) j d b))

    -- by the table
    told : (r : Result (List (EntryForms C)) ValueStop) → MarkedGives of_number number_of Sums Changes Reads p setting reduced fixed (all_forms of_number old.standing.items) k r →
        MarkedGives of_number number_of Sums Changes Reads p setting reduced fixed (table_forms so_far.table) k r
    told r h rules marks n at =
        entries_by_args of_number number_of Sums Changes Reads rules p setting (all_forms of_number old.standing.items) (table_forms so_far.table) k n at (args_forms n at) (entries_of n.sides) r
        (h rules marks n at)

    -- one node more stands, and what isn't asked for behind it is given back
    module _ (lt : k < length p.tree) (uses : List ℕ) (last : AreLastUses p uses) (ids : List ℕ) (ids_are : ids ≡ args_at p.tree k) (formed kept : Standing C) (f : Forming C)
        (back : IsGivenBack uses k ids (old.standing.items ++ kept ∷ []) f.standing.items) where
      -- what is asked for still stands
      stands : (a : ℕ) → IsUsedFrom p (k + 1) a → slice_get f.standing.items a ≡ slice_get (old.standing.items ++ kept ∷ []) a
      stands a (i, past, use_is) = back.others a (λ e. let le = last.last a i use_is in absurd (omega (arith, past, le, e)))

      forms_stand : forms_of of_number kept ≡ forms_of of_number formed → (a : ℕ) → a < k + 1 → IsUsedFrom p (k + 1) a →
          slice_index_or (all_forms of_number f.standing.items) a [] ≡ slice_index_or (table_forms (so_far.table ++ entries_in of_number formed ∷ [])) a []
      forms_stand same a below (i, past, use_is) =
          let es = entries_in of_number formed in
          forms_at of_number f.standing.items (old.standing.items ++ kept ∷ []) a (stands a (i, past, use_is))
          ∙ ap (λ fs. slice_index_or fs a []) (map_push (forms_of of_number) old.standing.items kept)
          ∙ pushed_alike (all_forms of_number old.standing.items) (table_forms so_far.table) (forms_of of_number kept) (entry_forms es) k
          (length-map old.standing.items (forms_of of_number) ∙ so_far.count) (length-map so_far.table entry_forms ∙ so_far.table_count) (same ∙ forms_in of_number formed) a below
          (λ b. so_far.forms a b (i, omega (arith, past), use_is))
          ∙ ap (λ fs. slice_index_or fs a []) (sym (map_push entry_forms so_far.table es))

      sides_stand : IsOfSides (sides_at p.tree k) kept → (a : ℕ) (s : Standing C) → IsUsedFrom p (k + 1) a → slice_get f.standing.items a ≡ Some s → IsOfSides (sides_at p.tree a) s
      sides_stand sides a s (i, past, use_is) there =
          get_pushed old.standing.items kept s a (sym (stands a (i, past, use_is)) ∙ there) (IsOfSides (sides_at p.tree a) s) (so_far.sides a s (i, omega (arith, past), use_is))
          (λ end is. subst (IsOfSides (sides_at p.tree a)) is (subst (λ m. IsOfSides (sides_at p.tree m) kept) (sym (end ∙ so_far.count)) sides))

      -- the last use of a node that is used
      last_use : (a i : ℕ) → IsUse p a i → IsUse p a (get_or uses a 0)
      last_use a i use_is = elim (last.used a) [
        | inl none ↦ let le = last.last a i use_is in let e : i ≡ get_or uses a 0 = omega (arith, le, none) in subst (IsUse p a) e use_is
        | inr is ↦ is
      ]

      -- what is asked for by this node at last
      emptied_here : (a : ℕ) → get_or uses a 0 ≡ k → IsUse p a k → slice_get f.standing.items a ≡ Some (Forms [])
      emptied_here a e use_is = elim use_is [
        | inl there ↦ All-contains (λ a. get_or uses a 0 ≡ k → slice_get f.standing.items a ≡ Some (Forms [])) ids a back.emptied (subst (λ zs. Contains zs a) (sym ids_are) there) e
        | inr root ↦ let end = root.0 in absurd (omega (arith, lt, end))
      ]

      emptied : (a i : ℕ) → IsUse p a i → ¬ IsUsedFrom p (k + 1) a → slice_get f.standing.items a ≡ Some (Forms [])
      emptied a i use_is none =
          let m = get_or uses a 0 in
          let at_last : IsUse p a m = last_use a i use_is in
          elim (cases_lt k m) [
            | inl later ↦ absurd (none (m, omega (arith, later), at_last))
            | inr le ↦ elim (cases_eq m k) [
              | inl e ↦ emptied_here a e (subst (IsUse p a) e at_last)
              | inr ne ↦
                  back.others a ne
                  ∙ in_left old.standing.items (kept ∷ []) a (Forms [])
                  (so_far.given_back a i use_is (λ more. let past = more.1 in let b = last.last a more.0 more.2 in ne (omega (arith, le, past, b))))
            ]
          ]

      pub one_more : MarkedGives of_number number_of Sums Changes Reads p setting reduced fixed (all_forms of_number old.standing.items) k (Ok (entries_in of_number formed)) →
          forms_of of_number kept ≡ forms_of of_number formed → IsOfSides (sides_at p.tree k) kept →
          f.rows.items ≡ old.rows.items ++ node_rows of_number k (entries_in of_number formed) → f.next ≡ first_marked p reduced (k + 1) →
          AreFormedTo of_number number_of Sums Changes Reads p setting reduced fixed (k + 1) f
      one_more gives same sides rows next = let es = entries_in of_number formed in record {
        table = so_far.table ++ es ∷ [];
        formed = λ rules marks. formed_more of_number number_of Sums Changes Reads rules p setting k so_far.table es (so_far.formed rules marks) (λ n at. told (Ok es) gives rules marks n at);
        forms = forms_stand same;
        sides = sides_stand sides;
        given_back = emptied;
        rows = rows ∙ ap₂ (λ rs i. rs ++ node_rows of_number i es) so_far.rows (sym so_far.table_count) ∙ sym (node_more of_number so_far.table es);
        table_count = omega (arith, length-append so_far.table (es ∷ []), so_far.table_count);
        count = back.counted ∙ omega (arith, length-append old.standing.items (kept ∷ []), so_far.count);
        next = next;
      }

    pub stops_here : k < length p.tree → (stop : ValueStop) → MarkedGives of_number number_of Sums Changes Reads p setting reduced fixed (all_forms of_number old.standing.items) k (Err stop)
        → StopsAt of_number number_of Sums Changes Reads p setting reduced fixed k stop
    stops_here lt stop gives rules marks = record { within = lt; table = so_far.table; before = so_far.formed rules marks; here = λ n at. told (Err stop) gives rules marks n at }

    pub answer_stops : k < length p.tree → (stop : ValueStop) → OnStop stop
        (λ e. MarkedGives of_number number_of Sums Changes Reads p setting reduced fixed (all_forms of_number old.standing.items) k (Err e))
        → OnStop stop (StopsAt of_number number_of Sums Changes Reads p setting reduced fixed k)
    answer_stops lt stop h = OnStop-weaker stop (λ e. MarkedGives of_number number_of Sums Changes Reads p setting reduced fixed (all_forms of_number old.standing.items) k (Err e))
        (StopsAt of_number number_of Sums Changes Reads p setting reduced fixed k) (stops_here lt) h

    pub more_or_not : {E : Type 0} (r : Result (Unit {0}) E) → k < length p.tree → (uses : List ℕ) → AreLastUses p uses → (ids : List ℕ) → ids ≡ args_at p.tree k
        → (formed kept : Standing C) (f : Forming C) → MarkedGives of_number number_of Sums Changes Reads p setting reduced fixed (all_forms of_number old.standing.items) k
        (Ok (entries_in of_number formed))
        → forms_of of_number kept ≡ forms_of of_number formed → IsOfSides (sides_at p.tree k) kept → OnOk r (IsGivenBack uses k ids (old.standing.items ++ kept ∷ []) f.standing.items) →
        f.rows.items ≡ old.rows.items ++ node_rows of_number k (entries_in of_number formed) → f.next ≡ first_marked p reduced (k + 1) →
        OnOk r (AreFormedTo of_number number_of Sums Changes Reads p setting reduced fixed (k + 1) f)
    more_or_not (Ok u) lt uses last ids ids_are formed kept f gives same sides back rows next = one_more lt uses last ids ids_are formed kept f back gives same sides rows next
    more_or_not (Err e) lt uses last ids ids_are formed kept f gives same sides back rows next = tt

  -- nothing is formed yet
  pub none_formed : (f : Forming C) → f.standing.items ≡ [] → f.rows.items ≡ [] → f.next ≡ first_marked p reduced 0 → AreFormedTo of_number number_of Sums Changes Reads p setting reduced fixed 0 f
  none_formed f standing rows next = record {
    table = [];
    formed = λ rules marks. record { count = refl; each = λ i n es lt at there. absurd (omega (arith, lt)) };
    forms = λ a lt use_is. absurd (omega (arith, lt));
    sides = λ a s use_is there. absurd (none-some s (ap (λ xs. slice_get xs a) (sym standing) ∙ there));
    given_back = λ a i use_is none. absurd (none (i, omega arith, use_is));
    rows = rows;
    table_count = refl;
    count = ap length standing;
    next = next;
  }

  -- all are formed
  pub all_kept : (f : Forming C) (kept : Formed C) → AreFormedTo of_number number_of Sums Changes Reads p setting reduced fixed (length p.tree) f → kept.standing ≡ f.standing.items
      → kept.rows ≡ f.rows.items
      → IsMarkedKept of_number number_of Sums Changes Reads p setting reduced fixed kept
  all_kept f kept so_far standing rows rules marks = record {
    table = so_far.table;
    formed = so_far.formed rules marks;
    roots = λ k d lt.
        let roots = roots_of p.objective p.constraints in
        ap (λ xs. slice_index_or (all_forms of_number xs) (get_or roots k d) []) standing
        ∙ so_far.forms (get_or roots k d) (roots_below p.tree p.objective p.constraints p.objective_kept p.constraints_kept k d lt)
        (length p.tree, omega arith, inr (refl, Contains-get_or roots k d lt));
    rows = rows ∙ so_far.rows;
  }

  -- what stops a node, stops all
  pub marked_stop : (node : NodeId) (stop : ValueStop) → OnStop stop (StopsAt of_number number_of Sums Changes Reads p setting reduced fixed node.0)
      → IsMarkedStop of_number number_of Sums Changes Reads p setting reduced fixed (stop_of node stop)
  marked_stop node (values.Passes entry passes) h = h
  marked_stop node (values.ZeroDivisor entry) h = h
  marked_stop node values.Memory h = λ rules marks. tt

-- ---- few entries
entries_within : (nodes : List Node) (i : ℕ) (n : Node) → IsNode nodes i n → entries_of n.sides ≤ entries_over nodes
entries_within [] i n at = absurd (none-some n at)
entries_within (m ∷ nodes) zero n at =
    let same : entries_of m.sides ≡ entries_of n.sides = ap (λ (z : Node). entries_of z.sides) (same_Some m n at) in
    omega (arith, same, sum_by-cons (λ (z : Node). entries_of z.sides) m nodes)
entries_within (m ∷ nodes) (suc i) n at = omega (arith, entries_within nodes i n at, sum_by-cons (λ (z : Node). entries_of z.sides) m nodes)

entries_counted : {C : Type 0} (of_number : Frac → C) (s : Standing C) → length (entries_in of_number s) ≡ length (forms_of of_number s)
entries_counted of_number (Forms es) = sym (length-map es (λ (e : EntryForms _). e.form))
entries_counted of_number (Numbers x) = length-map x.entries (λ n. alone (is_constant (of_number n))) ∙ sym (length-map x.entries (λ n. is_constant (of_number n)))

pub few_standing : {C : Type 0} (of_number : Frac → C) (p : Problem) (i : ℕ) (s : Standing C) → i < length p.tree → IsOfSides (sides_at p.tree i) s → length (entries_in of_number s) < 2 ^ 32
few_standing of_number p i s lt h =
    let (n, at) = node_at p i lt in
    let small = entries_within p.tree i n at in
    let room = p.nodes.room.few_entries in
    let size = ap entries_of (sides_are p.tree i n at) in
    omega (arith, small, room, size, entries_counted of_number s, forms_counted of_number (sides_at p.tree i) s h)

-- want of memory says nothing
pub memory_stops : {A : Type 0} (r : Result A ValueStop) (P : ValueStop → Type 0) → IfErr r (λ e. e ≡ values.Memory) → IfErr r (λ e. OnStop e P)
memory_stops (Ok x) P h = tt
memory_stops (Err e) P h = subst (λ z. OnStop z P) (sym h) tt
