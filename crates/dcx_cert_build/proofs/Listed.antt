-- Of each atom that certificates show, a program that is laid out has as many rows as are shown.
use Rattle.std.proofs.Common.{◌≡◌, ℕ, zero, suc, ◌+◌, ◌<◌, ◌≤◌, Bool, true, false, List, [], ◌∷◌, ◌++◌, length, map, Option, Some, None, Ok, refl, sym, ap, ap₂, ◌∙◌, subst, arith}
use Rattle.std.specs.Prelude.{slice_get, if◌then◌else◌, Result}
use Rattle.std.specs.List.{All, flat_map, range_with_len, zip, filter_map}
use Rattle.std.proofs.lemmas.List.{append-nil, length-map}
use Rattle.std.proofs.lemmas.List.Elements.{All-nil, All-cons, All-head, All-tail, All-append}
use Rattle.std.proofs.lemmas.Grind.{flat_map-append}
use Rattle.dcx_cert_outline.proofs.Rows.{range_more}
use Rattle.dcx_frac.specs.declared.fraction.Frac.{Frac}
use Rattle.dcx_frac.specs.declared.fraction.Passes.{Passes}
use Rattle.dcx_shape.specs.Sides.{entries_of}
use Rattle.dcx_atom.specs.Steps.{rows_before}
use Rattle.dcx_call.specs.declared.call.Call.{Call}
use Rattle.dcx_call.specs.declared.call.Call.TheVariants as calls
use Rattle.dcx_call.specs.Atoms.{atom_meaning}
use Rattle.dcx_convex.specs.Rules.{Rules}
use Rattle.dcx_convex.specs.Certificates.{is_fixed}
use Rattle.dcx_tree.specs.declared.problem.Problem.{Problem}
use Rattle.dcx_tree.specs.Nodes.{Node, arg_sides}
use Rattle.dcx_tree.specs.Meaning.{convex_problem}
use Rattle.dcx_unknowns.specs.Layout.{is_reduced}
use Rattle.dcx_lp_answer.specs.declared.answer.LpStatus.{LpStatus}
use Rattle.dcx_lp_answer.specs.declared.answer.RowNote.{RowNote}
use Rattle.dcx_cert_sections.specs.declared.weights.NodeWeights.{NodeWeights}
use Rattle.dcx_cert_sections.specs.Shown.{atoms_of}
use Rattle.dcx_cert_outline.specs.Drawn.{call_atoms, atoms_if, atoms_at, problem_outline}
use Rattle.dcx_graph.specs.declared.origin.Origin.{Origin}
use Rattle.dcx_graph.specs.Program.{constraint_entries, entry_origin}
use Rattle.dcx_cert_build.specs.Origins.{entry_count, node_rows, graph_origins}
use Rattle.dcx_cert_build.specs.Weights.{graph_multiplier, note_of, formed_weights, atom_multipliers, AreWeights}
use Rattle.dcx_cert_build.proofs.Counts.{rows_in, notes_counted, joined, none_of, atom_rows, others_in, one_of_all}
use Rattle.dcx_cert_build.proofs.Fixed.{unfixed_is_reduced}

-- a node with how many there are
abbrev long : ℕ × List (Result Frac Passes) → ℕ × ℕ
long x = (x.0, length x.1)

module _ (p : Problem) (rules : Rules) (from : List Origin) (laid : from ≡ map entry_origin (constraint_entries p) ++ graph_origins rules p) where
  -- the atom has so many rows
  abbrev HasRows : ℕ × ℕ → Type 0
  HasRows a = rows_in a.0 from ≡ a.1

  abbrev Rows : ℕ → List Origin
  Rows i = node_rows p.tree i (is_reduced rules p i) (slice_get p.tree i)

  -- all rows of a node are those of its graph
  of_node : (i : ℕ) → i < length p.tree → rows_in i from ≡ rows_in i (Rows i)
  of_node i lt =
      let front = none_of i entry_origin (λ x. refl) (constraint_entries p) in
      let back = one_of_all i Rows (λ j t. others_in i p.tree j t (is_reduced rules p j) (slice_get p.tree j)) (length p.tree) lt in
      let both = ap (rows_in i) laid ∙ joined i (map entry_origin (constraint_entries p)) (graph_origins rules p) in
      both ∙ omega (arith, front, back)

  call_rows : (i : ℕ) → i < length p.tree → is_reduced rules p i ≡ true → (n : Node) → slice_get p.tree i ≡ Some n → (call : Call) → n.call ≡ call → All HasRows (call_atoms p.tree i n call)
  call_rows i lt reduced n at (calls.Variable v) e = All-nil HasRows
  call_rows i lt reduced n at (calls.Parameter q) e = All-nil HasRows
  call_rows i lt reduced n at (calls.Constant x) e = All-nil HasRows
  call_rows i lt reduced n at (calls.Atom m) e =
      All-cons HasRows (i, rows_before (atom_meaning m) (arg_sides p.tree n) (entries_of n.sides)) []
      (of_node i lt ∙ ap₂ (λ b o. rows_in i (node_rows p.tree i b o)) reduced at ∙ atom_rows i p.tree n (atom_meaning m) _ (λ k. ap (λ c. entry_count p.tree n c k) e) (entries_of n.sides))
      (All-nil HasRows)
  call_rows i lt reduced n at (calls.Linear l) e = All-nil HasRows
  call_rows i lt reduced n at (calls.Pairing q) e = All-nil HasRows

  at_node : (i : ℕ) → i < length p.tree → All HasRows (atoms_at p i)
  at_node i lt = by (is_fixed (convex_problem p).nodes i) refl
    where
      found : is_reduced rules p i ≡ true → (o : Option Node) → slice_get p.tree i ≡ o → All HasRows (atoms_if p.tree i o)
      found reduced None at = All-nil HasRows
      found reduced (Some n) at = call_rows i lt reduced n at n.call refl

      by : (b : Bool) → is_fixed (convex_problem p).nodes i ≡ b → All HasRows (if b then [] else atoms_if p.tree i (slice_get p.tree i))
      by true t = All-nil HasRows
      by false t = found (unfixed_is_reduced rules p i t) (slice_get p.tree i) refl

  up_to : (k : ℕ) → k ≤ length p.tree → All HasRows (flat_map (atoms_at p) (range_with_len 0 k))
  up_to zero le = All-nil HasRows
  up_to (suc k) le =
      let split : flat_map (atoms_at p) (range_with_len 0 (suc k)) ≡ flat_map (atoms_at p) (range_with_len 0 k) ++ atoms_at p k =
      let one : suc k ≡ k + 1 = omega arith in
      ap (λ n. flat_map (atoms_at p) (range_with_len 0 n)) one ∙ ap (flat_map (atoms_at p)) (range_more k) ∙ flat_map-append (atoms_at p) (range_with_len 0 k) (k ∷ [])
      ∙ ap (λ t. flat_map (atoms_at p) (range_with_len 0 k) ++ t) (append-nil (atoms_at p k)) in
      subst (All HasRows) (sym split) (All-append HasRows (flat_map (atoms_at p) (range_with_len 0 k)) (atoms_at p k) (up_to k (omega (arith, le))) (at_node k (omega (arith, le))))

  -- ---- the weights
  module _ (status : LpStatus) (notes : List RowNote) (noted : length from ≡ length notes) where
    counted : (atoms : List (ℕ × ℕ)) → All HasRows atoms → map long (map (atom_multipliers status from notes) atoms) ≡ atoms
    counted [] h = refl
    counted (a ∷ atoms) h =
        ap₂ (λ n ys. (a.0, n) ∷ ys)
        (length-map (filter_map (note_of a.0) (zip from notes)) (graph_multiplier status) ∙ notes_counted a.0 from notes noted ∙ All-head HasRows a atoms h)
        (counted atoms (All-tail HasRows a atoms h))

    pub weights_counted : (weights : List NodeWeights) → AreWeights (problem_outline p).atoms status from notes weights → atoms_of weights ≡ (problem_outline p).atoms
    weights_counted weights are =
        lengths weights ∙ ap (map long) are
        ∙ counted (problem_outline p).atoms (up_to (length p.tree) (omega arith))
      where
        lengths : (ws : List NodeWeights) → atoms_of ws ≡ map long (map formed_weights ws)
        lengths [] = refl
        lengths (w ∷ ws) = ap₂ (λ n ys. (w.node.0, n) ∷ ys) (sym (length-map w.numbers Ok)) (lengths ws)
