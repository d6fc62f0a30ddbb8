-- Counts within 32 bits, graphs node by node, and layouts.
use Rattle.std.proofs.Common.{◌≡◌, ◌⊎◌, ℕ, ◌+◌, ◌<◌, ◌≤◌, min, Bool, true, false, List, [], ◌++◌, length, map, Option, Some, None, IfSome, IsSome, refl, sym, ap, subst, ◌∙◌, arith, add-zero, inl, inr}
use Rattle.std.specs.Prelude.{not, sum_by, slice_get, unwrap_or, option_map, All}
use Rattle.std.proofs.Math.Path.{fun_ext}
use Rattle.std.proofs.lemmas.Bool.{cases_lt}
use Rattle.std.proofs.lemmas.List.{append-nil, map-append, get_or_past, length-map, append_assoc}
use Rattle.std.proofs.lemmas.List.Elements.{All-nil}
use Rattle.std.proofs.lemmas.List.Sums.{sum_by-append}
use Rattle.std.proofs.lemmas.Option.{none-some, same_Some, slice_get_past, slice_get_cases}
use Rattle.dcx_shape.specs.declared.shape.Sides.{Sides}
use Rattle.dcx_shape.specs.Sides.{entries_of}
use Rattle.dcx_atom.specs.declared.graph.Graph.{Graph}
use Rattle.dcx_atom.specs.Graph.{IsGraphOf, placed_row}
use Rattle.dcx_arena.specs.Nodes.{IsNode, args_at, sides_at, call_at}
use Rattle.dcx_call.specs.declared.atoms.AtomCall.{AtomCall}
use Rattle.dcx_call.specs.declared.call.Call.{Call}
use Rattle.dcx_call.specs.declared.call.Call.TheVariants as calls
use Rattle.dcx_call.specs.Atoms.{atom_meaning}
use Rattle.dcx_call.specs.Calls.{shape_of}
use Rattle.dcx_call.proofs.Entries.{some_fact}
use Rattle.dcx_convex.specs.Rules.{Rules, Plain, Parametrized, no_argument, judgement_by, is_constant, judgement_at}
use Rattle.dcx_convex.specs.Nodes as convex
use Rattle.dcx_tree.specs.declared.problem.Problem.{Problem}
use Rattle.dcx_tree.specs.Nodes.{Node, arg_sides, convex_node}
use Rattle.dcx_tree.specs.Meaning.{names_in, convex_problem}
use Rattle.dcx_tree.proofs.Names.{found_in}
use Rattle.dcx_tree.proofs.NodeValues.{args_are}
use Rattle.dcx_linear.specs.declared.row.UnknownKind.{UnknownKind}
use Rattle.dcx_linear.specs.Size.{columns_for, capped}
use Rattle.dcx_unknowns.specs.declared.layout.Layout.{Layout}
use Rattle.dcx_unknowns.specs.Layout.{is_reduced, marked, AreReduced, call_aux, aux_if, call_rows, rows_if, IsCallGraph, IsNodeGraph, aux_kind, aux_of}
use Rattle.dcx_unknowns.specs.Layout.{aux_below, rows_of_node, rows_counted, kinds_with, rows_with, columns_with, IsLayoutWith, IsTooLarge}
use Rattle.dcx_unknowns.proofs.Places.{joined_next, summed_next}

-- ---- counts within 32 bits
-- a sum that stays at the end of the numbers
pub capped_sum : (m n : ℕ) → min (capped m + capped n) 4294967295 ≡ capped (m + n)
capped_sum m n = omega arith

-- ---- the graph of a node
-- a call without a graph has no unknowns and no rows
call_none : (nodes : List Node) (n : Node) (call : Call) → IsCallGraph nodes n call None → (call_aux nodes n call ≡ []) × (call_rows nodes n call ≡ [])
call_none nodes n (calls.Variable v) h = (refl, refl)
call_none nodes n (calls.Parameter q) h = (refl, refl)
call_none nodes n (calls.Constant x) h = (refl, refl)
call_none nodes n (calls.Atom m) h = absurd h
call_none nodes n (calls.Linear l) h = (refl, refl)
call_none nodes n (calls.Pairing q) h = (refl, refl)

-- a graph has those of the call
call_some : (nodes : List Node) (n : Node) (call : Call) (g : Graph) → IsCallGraph nodes n call (Some g) → (g.aux ≡ call_aux nodes n call) × (map placed_row g.rows ≡ call_rows nodes n call)
call_some nodes n (calls.Variable v) g h = absurd (cc)
call_some nodes n (calls.Parameter q) g h = absurd (cc)
call_some nodes n (calls.Constant x) g h = absurd (cc)
call_some nodes n (calls.Atom m) g h = (h.kinds, h.rows)
call_some nodes n (calls.Linear l) g h = absurd (cc)
call_some nodes n (calls.Pairing q) g h = absurd (cc)

-- the columns of the auxiliary unknowns of the nodes before node i
abbrev pub aux_columns_at : List Node → (ℕ → Bool) → ℕ → ℕ
aux_columns_at nodes reduced i = sum_by columns_for (map aux_kind (aux_below nodes reduced i))

module _ (nodes : List Node) where
  pub node_none : (i : ℕ) → IsNodeGraph nodes i None → (aux_if nodes true (slice_get nodes i) ≡ []) × (rows_if nodes true (slice_get nodes i) ≡ [])
  node_none i h = by (slice_get nodes i) refl
    where
      by : (o : Option Node) → slice_get nodes i ≡ o → (aux_if nodes true o ≡ []) × (rows_if nodes true o ≡ [])
      by None e = (refl, refl)
      by (Some n) e = call_none nodes n n.call (h n e)

  pub node_some : (i : ℕ) (g : Graph) → i < length nodes → IsNodeGraph nodes i (Some g)
      → (g.aux ≡ aux_if nodes true (slice_get nodes i)) × (length g.rows ≡ length (rows_if nodes true (slice_get nodes i)))
  node_some i g lt h = by (slice_get nodes i) refl
    where
      by : (o : Option Node) → slice_get nodes i ≡ o → (g.aux ≡ aux_if nodes true o) × (length g.rows ≡ length (rows_if nodes true o))
      by None e = elim (slice_get_cases nodes i).1 [
        | inl q ↦ absurd (none-some q.0 (sym e ∙ q.2))
        | inr q ↦ let past = q.0 in absurd (omega (arith, lt, past))
      ]
      by (Some n) e = let s = call_some nodes n n.call g (h n e) in (s.0, sym (length-map g.rows placed_row) ∙ ap length s.1)

  -- a node that isn't reduced has none
  left_out_aux : (o : Option Node) → aux_if nodes false o ≡ []
  left_out_aux None = refl
  left_out_aux (Some n) = refl

  left_out_rows : (o : Option Node) → rows_if nodes false o ≡ []
  left_out_rows None = refl
  left_out_rows (Some n) = refl

  module _ (reduced : ℕ → Bool) (i : ℕ) where
    -- one more node, which is reduced or isn't
    pub aux_more : reduced i ≡ true → aux_below nodes reduced (i + 1) ≡ aux_below nodes reduced i ++ aux_if nodes true (slice_get nodes i)
    aux_more e = joined_next (aux_of nodes reduced) i ∙ ap (λ b. aux_below nodes reduced i ++ aux_if nodes b (slice_get nodes i)) e

    pub aux_no_more : reduced i ≡ false → aux_below nodes reduced (i + 1) ≡ aux_below nodes reduced i
    aux_no_more e =
        joined_next (aux_of nodes reduced) i ∙ ap (λ b. aux_below nodes reduced i ++ aux_if nodes b (slice_get nodes i)) e
        ∙ ap (λ xs. aux_below nodes reduced i ++ xs) (left_out_aux (slice_get nodes i)) ∙ append-nil (aux_below nodes reduced i)

    pub rows_more : reduced i ≡ true → rows_counted nodes reduced (i + 1) ≡ rows_counted nodes reduced i + length (rows_if nodes true (slice_get nodes i))
    rows_more e = summed_next (λ k. length (rows_of_node nodes reduced k)) i ∙ ap (λ b. rows_counted nodes reduced i + length (rows_if nodes b (slice_get nodes i))) e

    pub rows_no_more : reduced i ≡ false → rows_counted nodes reduced (i + 1) ≡ rows_counted nodes reduced i
    rows_no_more e =
        summed_next (λ k. length (rows_of_node nodes reduced k)) i ∙ ap (λ b. rows_counted nodes reduced i + length (rows_if nodes b (slice_get nodes i))) e
        ∙ ap (λ xs. rows_counted nodes reduced i + length xs) (left_out_rows (slice_get nodes i)) ∙ add-zero (rows_counted nodes reduced i)

    pub columns_more : reduced i ≡ true → aux_columns_at nodes reduced (i + 1) ≡ aux_columns_at nodes reduced i + sum_by columns_for (map aux_kind (aux_if nodes true (slice_get nodes i)))
    columns_more e =
        ap (λ xs. sum_by columns_for (map aux_kind xs)) (aux_more e) ∙ ap (sum_by columns_for) (map-append aux_kind (aux_below nodes reduced i) (aux_if nodes true (slice_get nodes i)))
        ∙ sum_by-append columns_for (map aux_kind (aux_below nodes reduced i)) (map aux_kind (aux_if nodes true (slice_get nodes i)))

    pub columns_no_more : reduced i ≡ false → aux_columns_at nodes reduced (i + 1) ≡ aux_columns_at nodes reduced i
    columns_no_more e = ap (λ xs. sum_by columns_for (map aux_kind xs)) (aux_no_more e)

    -- their kinds are added, or none
    pub kinds_more : (kinds old new : List UnknownKind) → reduced i ≡ true → kinds ≡ old ++ map aux_kind (aux_below nodes reduced i)
        → new ≡ kinds ++ map aux_kind (aux_if nodes true (slice_get nodes i))
        → new ≡ old ++ map aux_kind (aux_below nodes reduced (i + 1))
    kinds_more kinds old new e so_far more =
        let here = map aux_kind (aux_if nodes true (slice_get nodes i)) in
        more ∙ ap (λ ks. ks ++ here) so_far ∙ append_assoc old (map aux_kind (aux_below nodes reduced i)) here
        ∙ ap (λ ks. old ++ ks) (sym (ap (map aux_kind) (aux_more e) ∙ map-append aux_kind (aux_below nodes reduced i) (aux_if nodes true (slice_get nodes i))))

    pub kinds_no_more : (kinds old : List UnknownKind) → reduced i ≡ false → kinds ≡ old ++ map aux_kind (aux_below nodes reduced i) → kinds ≡ old ++ map aux_kind (aux_below nodes reduced (i + 1))
    kinds_no_more kinds old e so_far = so_far ∙ ap (λ xs. old ++ map aux_kind xs) (sym (aux_no_more e))

-- ---- what the rules say and what is marked
-- nothing is reduced past the last node
past_reduced : (rules : Rules) → not (is_constant rules no_argument) ≡ false
past_reduced Plain = refl
past_reduced Parametrized = refl

pub reduced_past : (rules : Rules) (p : Problem) (i : ℕ) → length p.tree ≤ i → is_reduced rules p i ≡ false
unfolding judgement_at
reduced_past rules p i past =
    let nodes = (convex_problem p).nodes in
    let long = length-map p.tree (convex_node (names_in p) p.tree) in
    let none : slice_get nodes i ≡ None = slice_get_past nodes i (omega (arith, long, past)) in
    ap (λ (o : Option convex.Node). not (is_constant rules (convex.told no_argument (judgement_by rules) (convex.told_within no_argument (judgement_by rules) nodes i) o))) none ∙ past_reduced rules

pub marks_are : (rules : Rules) (p : Problem) (marks : List Bool) → length marks ≡ length p.tree → AreReduced rules p marks → marked marks ≡ is_reduced rules p
marks_are rules p marks count are = fun_ext (λ i. elim (cases_lt i (length p.tree)) [
  | inl lt ↦ are i lt
  | inr past ↦ get_or_past marks i false (omega (arith, count, past)) ∙ sym (reduced_past rules p i past)
])

-- ---- the shapes of arguments
pub args_within : (p : Problem) (i : ℕ) → i < length p.tree → All (λ a. a < length p.tree) (args_at p.tree i)
args_within p i lt = by (slice_get p.tree i) refl
  where
    by : (o : Option Node) → slice_get p.tree i ≡ o → All (λ a. a < length p.tree) (unwrap_or (option_map (λ (n : Node). n.args) o) [])
    by None e = All-nil (λ a. a < length p.tree)
    by (Some n) e = λ k d h. let before = p.nodes.earlier i n e k d h in omega (arith, before, lt)

-- ---- the graph of an atom
-- what the sides of the arguments of an atom are, and that it has a value there
pub record IsAtomNode (p : Problem) (i : ℕ) (m : AtomCall) (sides : List Sides) : Type 0 where
  pub node : Node
  pub there : IsNode p.tree i node
  pub call : node.call ≡ calls.Atom m
  pub args : sides ≡ arg_sides p.tree node
  pub shape : (atom_meaning m).shape sides ≡ Some node.sides

module _ (p : Problem) (i : ℕ) (m : AtomCall) (sides : List Sides) where
  pub atom_node : call_at p.tree i ≡ Some (calls.Atom m) → sides ≡ map (sides_at p.tree) (args_at p.tree i) → IsAtomNode p i m sides
  atom_node e are =
      let (n, at, is) = found_in (slice_get p.tree i) (calls.Atom m) e in
      let same : sides ≡ arg_sides p.tree n = are ∙ ap (map (sides_at p.tree)) (args_are p.tree i n at) in
      record {
        node = n;
        there = at;
        call = is;
        args = same;
        shape = ap (atom_meaning m).shape same ∙ sym (ap (λ call. shape_of call (arg_sides p.tree n)) is) ∙ p.nodes.shaped i n at;
      }

  pub atom_has_value : IsAtomNode p i m sides → IsSome ((atom_meaning m).shape sides)
  atom_has_value a = subst IsSome (sym a.shape) refl

  -- the graph of the atom is that of the node
  pub atom_graph : (g : Graph) → IsAtomNode p i m sides → IfSome ((atom_meaning m).shape sides) (λ s. IsGraphOf (atom_meaning m) sides (entries_of s) g) → IsNodeGraph p.tree i (Some g)
  atom_graph g a h = λ n at.
      let here : IsGraphOf (atom_meaning m) sides (entries_of a.node.sides) g =
      some_fact (λ s. IsGraphOf (atom_meaning m) sides (entries_of s) g) ((atom_meaning m).shape sides) a.node.sides a.shape h in
      let placed : IsGraphOf (atom_meaning m) (arg_sides p.tree a.node) (entries_of a.node.sides) g = subst (λ ss. IsGraphOf (atom_meaning m) ss (entries_of a.node.sides) g) a.args here in
      let graph : IsCallGraph p.tree a.node a.node.call (Some g) = subst (λ call. IsCallGraph p.tree a.node call (Some g)) (sym a.call) placed in
      subst (λ (z : Node). IsCallGraph p.tree z z.call (Some g)) (same_Some a.node n (sym a.there ∙ at)) graph

-- ---- what is answered
-- a count within 32 bits that is over a bound, or within it
over : (most n told : ℕ) → told ≡ capped n → most < told → n ≤ most → ⊥
over most n told e h few = omega (arith, e, h, few)

exact : (n told : ℕ) → told ≡ capped n → told ≤ 2400 → told ≡ n
exact n told e h = omega (arith, e, h)

pub too_large : (p : Problem) (reduced : ℕ → Bool) (rows columns : ℕ) → rows ≡ capped (rows_with p reduced) → columns ≡ capped (columns_with p reduced) → (600 < rows) ⊎ (2400 < columns)
    → IsTooLarge p reduced rows columns
too_large p reduced rows columns r c many = record {
  many = λ few. elim many [ inl a ↦ over 600 (rows_with p reduced) rows r a few.few_rows | inr b ↦ over 2400 (columns_with p reduced) columns c b few.few_columns ];
  rows_told = r;
  columns_told = c;
}

pub laid_out : (p : Problem) (reduced : ℕ → Bool) (l : Layout) → l.kinds ≡ kinds_with p reduced → l.rows ≡ capped (rows_with p reduced) → l.columns ≡ capped (columns_with p reduced) → l.rows ≤ 600
    → l.columns ≤ 2400 → IsLayoutWith p reduced l
laid_out p reduced l k r c few_rows few_columns =
    let rows = exact (rows_with p reduced) l.rows r (omega (arith, few_rows)) in
    let columns = exact (columns_with p reduced) l.columns c few_columns in
    record {
      kinds = k;
      rows = rows;
      columns = columns;
      few = record { few_rows = subst (λ n. n ≤ 600) rows few_rows; few_columns = subst (λ n. n ≤ 2400) columns few_columns };
    }
