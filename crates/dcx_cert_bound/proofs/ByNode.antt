-- Weights of the nodes and the counts of a problem's outline stand at nodes of the problem, and each atom that has a variable below it has
-- its own.
use Rattle.std.proofs.Common.{◌≡◌, ◌≢◌, ◌⊎◌, inl, inr, IsSome, ℕ, zero, suc, ◌+◌, ◌<◌, arith, Bool, true, false, nat_eq, eq-eqb, List}
use Rattle.std.proofs.Common.{[], ◌∷◌, ◌++◌, length, map, Option, Some, None, option_map, refl, sym, ap, ◌∙◌, subst}
use Rattle.std.specs.Prelude.{if◌then◌else◌}
use Rattle.std.specs.Option.{unwrap_or}
use Rattle.std.specs.List.{slice_get, All, flat_map, range_with_len}
use Rattle.std.proofs.lemmas.Bool.{cases_eq, ne_eqb, true≢false}
use Rattle.std.proofs.lemmas.List.Elements.{All-nil, All-cons, All-head, All-tail, All-append, All-weaker}
use Rattle.std.proofs.lemmas.Option.{none-some, same_Some}
use Rattle.dcx_shape.specs.declared.shape.Sides.TheVariants.{Scalar}
use Rattle.dcx_shape.specs.Sides.{entries_of}
use Rattle.dcx_atom.specs.declared.array.Array.{Array}
use Rattle.dcx_atom.specs.Steps.{rows_before}
use Rattle.dcx_arena.specs.Nodes.{call_at, args_at, sides_at}
use Rattle.dcx_convex.specs.Certificates.{is_fixed}
use Rattle.dcx_call.specs.declared.atoms.AtomCall.{AtomCall}
use Rattle.dcx_call.specs.declared.call.Call.{Call}
use Rattle.dcx_call.specs.declared.call.Call.TheVariants as calls
use Rattle.dcx_call.specs.Atoms.{atom_meaning}
use Rattle.dcx_tree.specs.declared.problem.Problem.{Problem}
use Rattle.dcx_tree.specs.Nodes.{Node, arg_sides}
use Rattle.dcx_tree.specs.Meaning.{convex_problem}
use Rattle.dcx_tree.specs.Values.{array_at}
use Rattle.dcx_cert_outline.specs.Drawn.{call_atoms, atoms_if, atoms_at, problem_outline}
use Rattle.dcx_cert_outline.proofs.Rows.{atoms_more}
use Rattle.dcx_cert_collect.specs.Pass.{HaveWeights}
use Rattle.dcx_cert_sections.specs.declared.weights.NodeWeights.{NodeWeights}
use Rattle.dcx_cert_sections.specs.Shown.{atoms_of}
use Rattle.dcx_cert_bound.specs.Weights.{weights_at}

-- the count that stands first at node i
count_at : List (ℕ × ℕ) → ℕ → ℕ
count_at [] i = 0
count_at (a ∷ atoms) i = if nat_eq a.0 i then a.1 else count_at atoms i

length-weights_at : (weights : List NodeWeights) (i : ℕ) → length (weights_at weights i) ≡ count_at (atoms_of weights) i
unfolding count_at
length-weights_at [] i = refl
length-weights_at (w ∷ weights) i = by (nat_eq w.node.0 i) (length-weights_at weights i)
  where
    by : (b : Bool) → length (weights_at weights i) ≡ count_at (atoms_of weights) i
        → length (if b then w.numbers else weights_at weights i) ≡ (if b then length w.numbers else count_at (atoms_of weights) i)
    by true e = refl
    by false e = e

-- another node's counts don't matter
count_left : (xs ys : List (ℕ × ℕ)) (i : ℕ) → All (λ a. a.0 ≢ i) ys → count_at (xs ++ ys) i ≡ count_at xs i
unfolding count_at
count_left [] [] i all = refl
count_left [] (y ∷ ys) i all =
    ap (λ b. if b then y.1 else count_at ys i) (ne_eqb y.0 i (All-head (λ (a : ℕ × ℕ). a.0 ≢ i) y ys all)) ∙ count_left [] ys i (All-tail (λ (a : ℕ × ℕ). a.0 ≢ i) y ys all)
count_left (x ∷ xs) ys i all = ap (λ n. if nat_eq x.0 i then x.1 else n) (count_left xs ys i all)

count_right : (xs ys : List (ℕ × ℕ)) (i : ℕ) → All (λ a. a.0 ≢ i) xs → count_at (xs ++ ys) i ≡ count_at ys i
unfolding count_at
count_right [] ys i all = refl
count_right (x ∷ xs) ys i all =
    ap (λ b. if b then x.1 else count_at (xs ++ ys) i) (ne_eqb x.0 i (All-head (λ (a : ℕ × ℕ). a.0 ≢ i) x xs all)) ∙ count_right xs ys i (All-tail (λ (a : ℕ × ℕ). a.0 ≢ i) x xs all)

-- ---- the atoms of the first nodes
module _ (p : Problem) where
  abbrev first_atoms : ℕ → List (ℕ × ℕ)
  first_atoms n = flat_map (atoms_at p) (range_with_len 0 n)

  next_atoms : (n : ℕ) → first_atoms n ++ atoms_at p n ≡ first_atoms (n + 1)
  next_atoms n = atoms_more p n (first_atoms n) (first_atoms n ++ atoms_at p n) refl refl

  call_own : (i : ℕ) (n : Node) (call : Call) → All (λ a. a.0 ≡ i) (call_atoms p.tree i n call)
  call_own i n (calls.Variable v) = All-nil (λ (a : ℕ × ℕ). a.0 ≡ i)
  call_own i n (calls.Parameter q) = All-nil (λ (a : ℕ × ℕ). a.0 ≡ i)
  call_own i n (calls.Constant x) = All-nil (λ (a : ℕ × ℕ). a.0 ≡ i)
  call_own i n (calls.Atom m) = All-cons (λ (a : ℕ × ℕ). a.0 ≡ i) (i, rows_before (atom_meaning m) (arg_sides p.tree n) (entries_of n.sides)) [] refl (All-nil (λ (a : ℕ × ℕ). a.0 ≡ i))
  call_own i n (calls.Linear l) = All-nil (λ (a : ℕ × ℕ). a.0 ≡ i)
  call_own i n (calls.Pairing q) = All-nil (λ (a : ℕ × ℕ). a.0 ≡ i)

  atoms_own : (i : ℕ) → All (λ a. a.0 ≡ i) (atoms_at p i)
  atoms_own i = by (is_fixed (convex_problem p).nodes i) (slice_get p.tree i)
    where
      by : (b : Bool) (o : Option Node) → All (λ a. a.0 ≡ i) (if b then [] else atoms_if p.tree i o)
      by true o = All-nil (λ (a : ℕ × ℕ). a.0 ≡ i)
      by false None = All-nil (λ (a : ℕ × ℕ). a.0 ≡ i)
      by false (Some n) = call_own i n n.call

  atoms_below : (n : ℕ) → All (λ a. a.0 < n) (first_atoms n)
  atoms_below zero = All-nil (λ (a : ℕ × ℕ). a.0 < 0)
  atoms_below (suc n) =
      let more : n + 1 ≡ suc n = omega arith in
      subst (λ m. All (λ a. a.0 < m) (first_atoms m)) more
      (subst (All (λ (a : ℕ × ℕ). a.0 < n + 1)) (next_atoms n)
      (All-append (λ (a : ℕ × ℕ). a.0 < n + 1) (first_atoms n) (atoms_at p n)
      (All-weaker (λ (a : ℕ × ℕ). a.0 < n) (λ (a : ℕ × ℕ). a.0 < n + 1) (λ a l. omega (arith, l)) (first_atoms n) (atoms_below n))
      (All-weaker (λ (a : ℕ × ℕ). a.0 ≡ n) (λ (a : ℕ × ℕ). a.0 < n + 1) (λ a e. omega (arith, e)) (atoms_at p n) (atoms_own n))))

  -- node i counts as it does alone
  count_alone : (i : ℕ) (n : ℕ) → i < n → count_at (first_atoms n) i ≡ count_at (atoms_at p i) i
  count_alone i zero b = absurd (omega (arith, b))
  count_alone i (suc n) b = ap (λ m. count_at (first_atoms m) i) more ∙ ap (λ xs. count_at xs i) (sym (next_atoms n)) ∙ by (cases_eq i n) (count_alone i n)
    where
      more : suc n ≡ n + 1
      more = omega arith

      by : (i ≡ n) ⊎ (i ≢ n) → (i < n → count_at (first_atoms n) i ≡ count_at (atoms_at p i) i) → count_at (first_atoms n ++ atoms_at p n) i ≡ count_at (atoms_at p i) i
      by (inl e) before =
          count_right (first_atoms n) (atoms_at p n) i (All-weaker (λ (a : ℕ × ℕ). a.0 < n) (λ (a : ℕ × ℕ). a.0 ≢ i) (λ a l s. absurd (omega (arith, l, s, e))) (first_atoms n) (atoms_below n))
          ∙ ap (λ m. count_at (atoms_at p m) i) (sym e)
      by (inr ne) before =
          count_left (first_atoms n) (atoms_at p n) i (All-weaker (λ (a : ℕ × ℕ). a.0 ≡ n) (λ (a : ℕ × ℕ). a.0 ≢ i) (λ a l s. ne (sym s ∙ l)) (atoms_at p n) (atoms_own n))
          ∙ before (let lt : i < n = omega (arith, b, ne) in lt)

  own_count : (i : ℕ) (m : AtomCall) → is_fixed (convex_problem p).nodes i ≡ false → call_at p.tree i ≡ Some (calls.Atom m) →
      count_at (atoms_at p i) i ≡ rows_before (atom_meaning m) (map (sides_at p.tree) (args_at p.tree i)) (entries_of (sides_at p.tree i))
  unfolding count_at
  own_count i m free call = ap (λ b. count_at (if b then [] else atoms_if p.tree i (slice_get p.tree i)) i) free ∙ by (slice_get p.tree i) refl call
    where
      by : (o : Option Node) → slice_get p.tree i ≡ o → option_map (λ (n : Node). n.call) o ≡ Some (calls.Atom m)
          → count_at (atoms_if p.tree i o) i ≡ rows_before (atom_meaning m) (map (sides_at p.tree) (args_at p.tree i)) (entries_of (sides_at p.tree i))
      by None at e = absurd (none-some (calls.Atom m) e)
      by (Some n) at e =
          let rows = rows_before (atom_meaning m) (arg_sides p.tree n) (entries_of n.sides) in
          ap (λ c. count_at (call_atoms p.tree i n c) i) (same_Some n.call (calls.Atom m) e) ∙ ap (λ b. if b then rows else 0) (eq-eqb i i refl)
          ∙ ap (λ (o : Option Node). rows_before (atom_meaning m) (map (sides_at p.tree) (unwrap_or (option_map (λ (x : Node). x.args) o) []))
          (entries_of (unwrap_or (option_map (λ (x : Node). x.sides) o) Scalar))) (sym at)

  -- so where the weights have the nodes and the counts of the outline, they stand at nodes
  pub weights_there : (weights : List NodeWeights) → atoms_of weights ≡ (problem_outline p).atoms → All (λ w. w.node.0 < length p.tree) weights
  weights_there weights e = at weights (subst (All (λ (a : ℕ × ℕ). a.0 < length p.tree)) (sym e) (atoms_below (length p.tree)))
    where
      at : (ws : List NodeWeights) → All (λ (a : ℕ × ℕ). a.0 < length p.tree) (atoms_of ws) → All (λ (w : NodeWeights). w.node.0 < length p.tree) ws
      at [] all = All-nil (λ (w : NodeWeights). w.node.0 < length p.tree)
      at (w ∷ ws) all =
          All-cons (λ (x : NodeWeights). x.node.0 < length p.tree) w ws (All-head (λ (a : ℕ × ℕ). a.0 < length p.tree) (w.node.0, length w.numbers) (atoms_of ws) all)
          (at ws (All-tail (λ (a : ℕ × ℕ). a.0 < length p.tree) (w.node.0, length w.numbers) (atoms_of ws) all))

  -- and each atom whose value isn't known has its own
  pub weights_have : (weights : List NodeWeights) (values : List (Option Array)) → atoms_of weights ≡ (problem_outline p).atoms →
      ((i : ℕ) → i < length p.tree → is_fixed (convex_problem p).nodes i ≡ true → IsSome (array_at values i)) → HaveWeights p.tree values (weights_at weights)
  weights_have weights values e known i lt none m call =
      length-weights_at weights i ∙ ap (λ xs. count_at xs i) e ∙ count_alone i (length p.tree) lt ∙ own_count i m free call
    where
      free : is_fixed (convex_problem p).nodes i ≡ false
      free = by (is_fixed (convex_problem p).nodes i) refl
        where
          by : (b : Bool) → is_fixed (convex_problem p).nodes i ≡ b → is_fixed (convex_problem p).nodes i ≡ false
          by false t = t
          by true t = absurd (true≢false (sym (subst IsSome none (known i lt t))))
