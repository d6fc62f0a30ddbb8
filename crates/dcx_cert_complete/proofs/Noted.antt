-- The multipliers of the rows of a node's graph are those of its rows among all, and the weights of a certificate are these.
use Rattle.std.proofs.Common.{◌≡◌, ◌≢◌, ◌⊎◌, inl, inr, ℕ, zero, suc, ◌<◌, arith, Bool, true, false, nat_eq, if◌then◌else◌, List, [], ◌∷◌, ◌++◌}
use Rattle.std.proofs.Common.{length, map, drop, Option, Some, None, Result, Ok, slice_get, append_assoc, refl, sym, ap, ◌∙◌, eq-eqb}
use Rattle.std.specs.List.{filter_map, cons_option, zip}
use Rattle.std.proofs.lemmas.Bool.{false≢true, ne_eqb, eqb-true}
use Rattle.std.proofs.lemmas.List.{append-nil}
use Rattle.std.proofs.lemmas.Option.{none-some, same_Some}
use Rattle.dcx_frac.specs.declared.fraction.Frac.{Frac}
use Rattle.dcx_frac.specs.declared.fraction.Passes.{Passes}
use Rattle.dcx_shape.specs.Sides.{entries_of}
use Rattle.dcx_atom.specs.Arrays.{list_below, joined_below}
use Rattle.dcx_atom.proofs.BoundRows.{below_or_last}
use Rattle.dcx_lp_answer.specs.declared.answer.LpStatus.{LpStatus}
use Rattle.dcx_lp_answer.specs.declared.answer.RowNote.{RowNote}
use Rattle.dcx_tree.specs.declared.problem.Problem.{Problem}
use Rattle.dcx_tree.specs.Nodes.{Node}
use Rattle.dcx_cert_sections.specs.declared.weights.NodeWeights.{NodeWeights}
use Rattle.dcx_graph.specs.declared.origin.Origin.{Origin}
use Rattle.dcx_graph.specs.declared.origin.Origin.TheVariants as origins
use Rattle.dcx_graph.specs.Program.{entry_origin, constraint_entries}
use Rattle.dcx_cert_build.specs.Origins.{entry_count, entry_rows, node_rows}
use Rattle.dcx_cert_build.specs.Weights.{note_of, node_multipliers, formed_weights, atom_multipliers}
use Rattle.dcx_cert_bound.specs.Weights.{weights_at}

module _ (i : ℕ) where
  -- rows of other nodes and of constraints, and rows of node i
  abbrev pub Others : List Origin → Type 0
  Others [] = Unit {0}
  Others (o ∷ os) = ((note : RowNote) → note_of i (o, note) ≡ None) × Others os

  abbrev pub Owned : List Origin → Type 0
  Owned [] = Unit {0}
  Owned (o ∷ os) = ((note : RowNote) → note_of i (o, note) ≡ Some note) × Owned os

  others_both : (xs ys : List Origin) → Others xs → Others ys → Others (xs ++ ys)
  others_both [] ys h k = k
  others_both (x ∷ xs) ys h k = (h.0, others_both xs ys h.1 k)

  owned_both : (xs ys : List Origin) → Owned xs → Owned ys → Owned (xs ++ ys)
  owned_both [] ys h k = k
  owned_both (x ∷ xs) ys h k = (h.0, owned_both xs ys h.1 k)

  mapped_other : {A : Type 0} (f : A → Origin) → ((x : A) (note : RowNote) → note_of i (f x, note) ≡ None) → (xs : List A) → Others (map f xs)
  mapped_other f h [] = tt
  mapped_other f h (x ∷ xs) = (h x, mapped_other f h xs)

  pub constraints_other : (p : Problem) → Others (map entry_origin (constraint_entries p))
  constraints_other p = mapped_other entry_origin (λ x note. refl) (constraint_entries p)

  graph_other : (k j r : ℕ) → k ≢ i → (note : RowNote) → note_of i (origins.Graph (record { 0 = k }) j r, note) ≡ None
  graph_other k j r d note = ap (λ (b : Bool). if b then Some note else None) (ne_eqb k i d)

  graph_own : (j r : ℕ) (note : RowNote) → note_of i (origins.Graph (record { 0 = i }) j r, note) ≡ Some note
  graph_own j r note = ap (λ (b : Bool). if b then Some note else None) (eq-eqb i i refl)

  listed_other : (k j n : ℕ) → k ≢ i → Others (list_below n (λ r. origins.Graph (record { 0 = k }) j r))
  listed_other k j zero d = tt
  listed_other k j (suc n) d = others_both (list_below n (λ r. origins.Graph (record { 0 = k }) j r)) (origins.Graph (record { 0 = k }) j n ∷ []) (listed_other k j n d) (graph_other k j n d, tt)

  listed_own : (j n : ℕ) → Owned (list_below n (λ r. origins.Graph (record { 0 = i }) j r))
  listed_own j zero = tt
  listed_own j (suc n) = owned_both (list_below n (λ r. origins.Graph (record { 0 = i }) j r)) (origins.Graph (record { 0 = i }) j n ∷ []) (listed_own j n) (graph_own j n, tt)

  joined_other : (f : ℕ → List Origin) (n : ℕ) → ((k : ℕ) → k < n → Others (f k)) → Others (joined_below n f)
  joined_other f zero h = tt
  joined_other f (suc n) h = others_both (joined_below n f) (f n) (joined_other f n (λ k b. h k (omega (arith, b)))) (h n (omega arith))

  joined_own : (f : ℕ → List Origin) (n : ℕ) → ((k : ℕ) → k < n → Owned (f k)) → Owned (joined_below n f)
  joined_own f zero h = tt
  joined_own f (suc n) h = owned_both (joined_below n f) (f n) (joined_own f n (λ k b. h k (omega (arith, b)))) (h n (omega arith))

  node_other : (nodes : List Node) (k : ℕ) (reduced : Bool) (o : Option Node) → k ≢ i → Others (node_rows nodes k reduced o)
  node_other nodes k reduced None d = tt
  node_other nodes k false (Some n) d = tt
  node_other nodes k true (Some n) d = joined_other (entry_rows nodes k n) (entries_of n.sides) (λ j b. listed_other k j (entry_count nodes n n.call j) d)

  node_own : (nodes : List Node) (reduced : Bool) (o : Option Node) → Owned (node_rows nodes i reduced o)
  node_own nodes reduced None = tt
  node_own nodes false (Some n) = tt
  node_own nodes true (Some n) = joined_own (entry_rows nodes i n) (entries_of n.sides) (λ j b. listed_own j (entry_count nodes n n.call j))

  -- ---- what is kept of the rows of node i
  no_notes : (xs : List Origin) → filter_map (note_of i) (zip xs []) ≡ []
  no_notes [] = refl
  no_notes (x ∷ xs) = refl

  skipped : (xs ys : List Origin) (notes : List RowNote) → Others xs → filter_map (note_of i) (zip (xs ++ ys) notes) ≡ filter_map (note_of i) (zip ys (drop (length xs) notes))
  skipped [] ys notes h = refl
  skipped (x ∷ xs) ys [] h = sym (no_notes ys)
  skipped (x ∷ xs) ys (n ∷ notes) h = by (note_of i (x, n)) (h.0 n) (skipped xs ys notes h.1)
    where
      by : (o : Option RowNote) → o ≡ None → filter_map (note_of i) (zip (xs ++ ys) notes) ≡ filter_map (note_of i) (zip ys (drop (length xs) notes)) →
          cons_option o (filter_map (note_of i) (zip (xs ++ ys) notes)) ≡ filter_map (note_of i) (zip ys (drop (length xs) notes))
      by None e rest = rest
      by (Some z) e rest = absurd (none-some z (sym e))

  own_notes : (xs ys : List Origin) (notes : List RowNote) → Owned xs → (q : ℕ) → q < length xs → slice_get (filter_map (note_of i) (zip (xs ++ ys) notes)) q ≡ slice_get notes q
  own_notes [] ys notes h q b = absurd (omega (arith, b))
  own_notes (x ∷ xs) ys [] h q b = refl
  own_notes (x ∷ xs) ys (n ∷ notes) h zero b = ap (λ o. slice_get (cons_option o (filter_map (note_of i) (zip (xs ++ ys) notes))) 0) (h.0 n)
  own_notes (x ∷ xs) ys (n ∷ notes) h (suc q) b = ap (λ o. slice_get (cons_option o (filter_map (note_of i) (zip (xs ++ ys) notes))) (suc q)) (h.0 n) ∙ own_notes xs ys notes h.1 q (omega (arith, b))

-- the part of node i among those of all nodes
joined_at : {A : Type 0} (f : ℕ → List A) (n i : ℕ) → i < n → (rest : List A) × (joined_below n f ≡ joined_below i f ++ (f i ++ rest))
joined_at f zero i b = absurd (omega (arith, b))
joined_at f (suc n) i b = by (below_or_last i n b) (λ k. joined_at f n i k)
  where
    by : (i < n) ⊎ (i ≡ n) → (i < n → (rest : List _) × (joined_below n f ≡ joined_below i f ++ (f i ++ rest))) → (rest : List _) × (joined_below n f ++ f n ≡ joined_below i f ++ (f i ++ rest))
    by (inl k) earlier =
        let (rest, e) = earlier k in
        (rest ++ f n, ap (λ xs. xs ++ f n) e ∙ append_assoc (joined_below i f) (f i ++ rest) (f n) ∙ ap (λ xs. joined_below i f ++ xs) (append_assoc (f i) rest (f n)))
    by (inr e) earlier = ([], ap (λ k. joined_below k f ++ f k) (sym e) ∙ ap (λ xs. joined_below i f ++ xs) (sym (append-nil (f i))))

-- row q of node i: what is kept of it is what is kept of its row among all
pub node_note : (before : List Origin) (nodes : List Node) (reduced : ℕ → Bool) (n i : ℕ) → Others i before → i < n → (notes : List RowNote) (q : ℕ)
    → q < length (node_rows nodes i (reduced i) (slice_get nodes i))
    → slice_get (filter_map (note_of i) (zip (before ++ joined_below n (λ k. node_rows nodes k (reduced k) (slice_get nodes k))) notes)) q
    ≡ slice_get (drop (length (before ++ joined_below i (λ k. node_rows nodes k (reduced k) (slice_get nodes k)))) notes) q
node_note before nodes reduced n i outside b notes q c =
    let f = λ (k : ℕ). node_rows nodes k (reduced k) (slice_get nodes k) in
    let (rest, e) = joined_at f n i b in
    let front = before ++ joined_below i f in
    let others = others_both i (before) (joined_below i f) outside (joined_other i f i (λ k l. node_other i nodes k (reduced k) (slice_get nodes k) (λ same. absurd (omega (arith, l, same))))) in
    ap (λ xs. slice_get (filter_map (note_of i) (zip xs notes)) q) (ap (λ xs. before ++ xs) e ∙ sym (append_assoc (before) (joined_below i f) (f i ++ rest)))
    ∙ ap (λ xs. slice_get xs q) (skipped i front (f i ++ rest) notes others)
    ∙ own_notes i (f i) rest (drop (length front) notes) (node_own i nodes (reduced i) (slice_get nodes i)) q c

-- the weights of a listed atom are the multipliers of the rows of its graph
pub weights_found : (status : LpStatus) (from : List Origin) (notes : List RowNote) (weights : List NodeWeights) (atoms : List (ℕ × ℕ))
    → map formed_weights weights ≡ map (atom_multipliers status from notes) atoms
    → (k : ℕ) (a : ℕ × ℕ) → slice_get atoms k ≡ Some a → map Ok (weights_at weights a.0) ≡ node_multipliers status from notes a.0
weights_found status from notes [] [] e k a at = absurd (none-some a at)
weights_found status from notes [] (b ∷ atoms) e k a at = cc
weights_found status from notes (w ∷ weights) [] e k a at = cc
weights_found status from notes (w ∷ weights) (b ∷ atoms) e k a at = by (nat_eq w.node.0 a.0) refl k at (λ j there. weights_found status from notes weights atoms rest j a there)
  where
    head : formed_weights w ≡ atom_multipliers status from notes b
    head = cc

    rest : map formed_weights weights ≡ map (atom_multipliers status from notes) atoms
    rest = cc

    node : w.node.0 ≡ b.0
    node = ap (λ (z : ℕ × List (Result Frac Passes)). z.0) head

    by : (t : Bool) → nat_eq w.node.0 a.0 ≡ t → (k : ℕ) → slice_get (b ∷ atoms) k ≡ Some a
        → ((j : ℕ) → slice_get atoms j ≡ Some a → map Ok (weights_at weights a.0) ≡ node_multipliers status from notes a.0)
        → map Ok (if t then w.numbers else weights_at weights a.0) ≡ node_multipliers status from notes a.0
    by true same k there later =
        ap (λ (z : ℕ × List (Result Frac Passes)). z.1) head ∙ ap (node_multipliers status from notes) (sym node ∙ eqb-true w.node.0 a.0 same)
    by false same zero there later = absurd (false≢true (sym same ∙ eq-eqb w.node.0 a.0 (node ∙ ap (λ (z : ℕ × ℕ). z.0) (same_Some b a there))))
    by false same (suc j) there later = later j there
