-- The rows of an atom's graph, and the atoms of the nodes so far.
use Rattle.std.proofs.Common.{◌≡◌, ℕ, zero, suc, ◌+◌, ◌<◌, Bool, true, false, List, [], ◌∷◌, ◌++◌, map, length, Option, Some, None, refl, sym, ap, ◌∙◌, arith, length-append, zero-add}
use Rattle.std.specs.Prelude.{slice_get, if◌then◌else◌}
use Rattle.std.specs.List.{flat_map, range_with_len}
use Rattle.std.proofs.lemmas.List.{length-map, map-append, map-id, append-nil}
use Rattle.std.proofs.lemmas.List.FromFn.{map-range_with_len_more}
use Rattle.std.proofs.lemmas.Grind.{flat_map-append}
use Rattle.std.proofs.lemmas.Option.{none-some}
use Rattle.dcx_shape.specs.declared.shape.Sides.{Sides}
use Rattle.dcx_atom.specs.declared.graph.Graph.{Graph}
use Rattle.dcx_atom.specs.Graph.{rows_below, IsGraphOf, placed_row}
use Rattle.dcx_atom.specs.Meaning.{Meaning}
use Rattle.dcx_atom.specs.Steps.{rows_before}
use Rattle.dcx_call.specs.declared.call.Call.{Call}
use Rattle.dcx_call.specs.declared.call.Call.TheVariants as calls
use Rattle.dcx_convex.specs.Certificates.{is_fixed}
use Rattle.dcx_arena.specs.declared.node.NodeId.{NodeId}
use Rattle.dcx_cert_sections.specs.declared.outline.AtomRows.{AtomRows}
use Rattle.dcx_cert_sections.specs.Outlines.{rows_shown}
use Rattle.dcx_tree.specs.declared.problem.Problem.{Problem}
use Rattle.dcx_tree.specs.Nodes.{Node}
use Rattle.dcx_tree.specs.Meaning.{convex_problem}
use Rattle.dcx_unknowns.specs.Layout.{IsCallGraph, IsNodeGraph}
use Rattle.dcx_cert_outline.specs.Drawn.{call_atoms, atoms_if, atoms_at}

-- as many rows as are told
rows_counted : (m : Meaning) (args : List Sides) (size : ℕ) → length (rows_below size (m.rows args)) ≡ rows_before m args size
rows_counted m args zero = refl
rows_counted m args (suc n) =
    length-append (rows_below n (m.rows args)) (map (λ row. record { entry = n; row = row }) (m.rows args n))
    ∙ ap (λ k. length (rows_below n (m.rows args)) + k) (length-map (m.rows args n) (λ row. record { entry = n; row = row }))
    ∙ ap (λ k. k + length (m.rows args n)) (rows_counted m args n)

graph_rows : (m : Meaning) (args : List Sides) (size : ℕ) (g : Graph) → IsGraphOf m args size g → length g.rows ≡ rows_before m args size
graph_rows m args size g h = sym (length-map g.rows placed_row) ∙ ap length h.rows ∙ rows_counted m args size

none_below : (nodes : List Node) (i : ℕ) → i < length nodes → slice_get nodes i ≡ None → ⊥
none_below [] i l e = omega (arith, l)
none_below (n ∷ nodes) zero l e = none-some n (sym e)
none_below (n ∷ nodes) (suc i) l e = none_below nodes i (omega (arith, l)) e

call_some : (nodes : List Node) (i : ℕ) (n : Node) (call : Call) (g : Graph) (rows : ℕ) → IsCallGraph nodes n call (Some g) → rows ≡ length g.rows → call_atoms nodes i n call ≡ (i, rows) ∷ []
call_some nodes i n (calls.Variable v) g rows h e = absurd (cc)
call_some nodes i n (calls.Parameter q) g rows h e = absurd (cc)
call_some nodes i n (calls.Constant x) g rows h e = absurd (cc)
call_some nodes i n (calls.Atom m) g rows h e = ap (λ k. (i, k) ∷ []) (sym (e ∙ graph_rows _ _ _ g h))
call_some nodes i n (calls.Linear l) g rows h e = absurd (cc)
call_some nodes i n (calls.Pairing q) g rows h e = absurd (cc)

call_none : (nodes : List Node) (i : ℕ) (n : Node) (call : Call) → IsCallGraph nodes n call None → call_atoms nodes i n call ≡ []
call_none nodes i n (calls.Variable v) h = refl
call_none nodes i n (calls.Parameter q) h = refl
call_none nodes i n (calls.Constant x) h = refl
call_none nodes i n (calls.Atom m) h = absurd h
call_none nodes i n (calls.Linear l) h = refl
call_none nodes i n (calls.Pairing q) h = refl

-- a node's graph tells its rows
pub node_some : (nodes : List Node) (i : ℕ) (g : Graph) (rows : ℕ) → i < length nodes → IsNodeGraph nodes i (Some g) → rows ≡ length g.rows → atoms_if nodes i (slice_get nodes i) ≡ (i, rows) ∷ []
node_some nodes i g rows l h e = by (slice_get nodes i) refl
  where
    by : (o : Option Node) → slice_get nodes i ≡ o → atoms_if nodes i o ≡ (i, rows) ∷ []
    by None t = absurd (none_below nodes i l t)
    by (Some n) t = call_some nodes i n n.call g rows (h n t) e

-- and none tells that the node is no atom
pub node_none : (nodes : List Node) (i : ℕ) → IsNodeGraph nodes i None → atoms_if nodes i (slice_get nodes i) ≡ []
node_none nodes i h = by (slice_get nodes i) refl
  where
    by : (o : Option Node) → slice_get nodes i ≡ o → atoms_if nodes i o ≡ []
    by None t = refl
    by (Some n) t = call_none nodes i n n.call (h n t)

-- ---- node after node
pub range_more : (k : ℕ) → range_with_len 0 (k + 1) ≡ range_with_len 0 k ++ k ∷ []
range_more k = sym (map-id (range_with_len 0 (k + 1))) ∙ map-range_with_len_more (λ (x : ℕ). x) 0 k k (zero-add k) ∙ ap (λ xs. xs ++ k ∷ []) (map-id (range_with_len 0 k))

pub atoms_more : (p : Problem) (i : ℕ) (old new : List (ℕ × ℕ)) → old ≡ flat_map (atoms_at p) (range_with_len 0 i) → new ≡ old ++ atoms_at p i → new ≡ flat_map (atoms_at p) (range_with_len 0 (i + 1))
atoms_more p i old new e put =
    put ∙ ap (λ t. t ++ atoms_at p i) e
    ∙ sym (ap (flat_map (atoms_at p)) (range_more i) ∙ flat_map-append (atoms_at p) (range_with_len 0 i) (i ∷ [])
    ∙ ap (λ t. flat_map (atoms_at p) (range_with_len 0 i) ++ t) (append-nil (atoms_at p i)))

-- ---- one node
none_of : (b : Bool) (xs : List (ℕ × ℕ)) → b ≡ true → (if b then [] else xs) ≡ []
none_of b xs e = ap (λ t. if t then [] else xs) e

all_of : (b : Bool) (xs : List (ℕ × ℕ)) → b ≡ false → (if b then [] else xs) ≡ xs
all_of b xs e = ap (λ t. if t then [] else xs) e

-- a node that has no variable below it adds nothing
pub none_at : (p : Problem) (i : ℕ) (fixed : Bool) (old : List (ℕ × ℕ)) → fixed ≡ is_fixed (convex_problem p).nodes i → fixed ≡ true → old ≡ old ++ atoms_at p i
none_at p i fixed old told e = sym (ap (λ t. old ++ t) (none_of (is_fixed (convex_problem p).nodes i) (atoms_if p.tree i (slice_get p.tree i)) (sym told ∙ e)) ∙ append-nil old)

-- nor does one that is no atom
pub nothing_at : (p : Problem) (i : ℕ) (fixed : Bool) (old : List (ℕ × ℕ)) → fixed ≡ is_fixed (convex_problem p).nodes i → fixed ≡ false → atoms_if p.tree i (slice_get p.tree i) ≡ []
    → old ≡ old ++ atoms_at p i
nothing_at p i fixed old told e none = sym (ap (λ t. old ++ t) (all_of (is_fixed (convex_problem p).nodes i) (atoms_if p.tree i (slice_get p.tree i)) (sym told ∙ e) ∙ none) ∙ append-nil old)

pub one_at : (p : Problem) (node : NodeId) (fixed : Bool) (old new : List AtomRows) (rows : ℕ) → fixed ≡ is_fixed (convex_problem p).nodes node.0 → fixed ≡ false
    → atoms_if p.tree node.0 (slice_get p.tree node.0) ≡ (node.0, rows) ∷ []
    → new ≡ old ++ record { node = node; rows = rows } ∷ [] → map rows_shown new ≡ map rows_shown old ++ atoms_at p node.0
one_at p node fixed old new rows told e one put =
    ap (map rows_shown) put ∙ map-append rows_shown old (record { node = node; rows = rows } ∷ [])
    ∙ ap (λ t. map rows_shown old ++ t) (sym (all_of (is_fixed (convex_problem p).nodes node.0) (atoms_if p.tree node.0 (slice_get p.tree node.0)) (sym told ∙ e) ∙ one))
