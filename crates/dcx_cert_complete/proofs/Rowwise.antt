-- The rows of the graphs of a program times their multipliers are at most the weighted rows of the nodes whose values aren't known.
use Rattle.std.proofs.Common.{◌≡◌, ◌⊎◌, inl, inr, ℕ, zero, suc, ◌+◌, ◌<◌, arith, Bool, true, false, if◌then◌else◌, List, [], ◌∷◌, ◌++◌, length, map, Option}
use Rattle.std.proofs.Common.{Some, None, refl, sym, ap, ap₂, ◌∙◌, subst, pos}
use Rattle.std.specs.List.{flat_map, range_with_len}
use Rattle.std.proofs.lemmas.Bool.{false≢true}
use Rattle.std.proofs.lemmas.List.{length-append, length-map, map-append}
use Rattle.dcx_math.specs.Rational.{ℚ, whole, ◌+ℚ◌, ◌*ℚ◌, ◌≤ℚ◌}
use Rattle.dcx_math.specs.Sums.{IsNonnegative, rat_sum_below}
use Rattle.dcx_math.proofs.Orders.{≤ℚ_refl, ≤ℚ_trans, ≤ℚ-from_≡}
use Rattle.dcx_math.proofs.Sums.{rat_sum_below-same, rat_sum_below-monotone, rat_sum_below-first, rat_sum_below-zero}
use Rattle.dcx_frac.specs.declared.fraction.Frac.{Frac}
use Rattle.dcx_shape.specs.declared.shape.Sides.{Sides}
use Rattle.dcx_shape.specs.Sides.{entries_of}
use Rattle.dcx_atom.specs.declared.array.Array.{Array}
use Rattle.dcx_atom.specs.Arrays.{Entries, joined_below}
use Rattle.dcx_atom.specs.Graph as graph
use Rattle.dcx_atom.specs.Graph.{PlacedRow}
use Rattle.dcx_atom.specs.Rows.{Filling, Row, row_at, weighted}
use Rattle.dcx_atom.specs.Meaning.{Meaning}
use Rattle.dcx_atom.specs.Steps.{rows_before, weights_of}
use Rattle.dcx_atom.proofs.Duality.{weighted-nonpositive}
use Rattle.dcx_atom.proofs.BoundRows.{below_or_last}
use Rattle.dcx_point.specs.Pairs.{Pairs}
use Rattle.dcx_arena.specs.Nodes.{IsNode}
use Rattle.dcx_convex.specs.Nodes.{Numbers, Point, Setting, arguments}
use Rattle.dcx_convex.specs.Rules.{Rules}
use Rattle.dcx_convex.specs.Reductions.{Unknowns}
use Rattle.dcx_call.specs.declared.atoms.AtomCall.{AtomCall}
use Rattle.dcx_call.specs.declared.call.Call.{Call}
use Rattle.dcx_call.specs.declared.call.Call.TheVariants as calls
use Rattle.dcx_call.specs.Atoms.{atom_meaning, atom_lawful}
use Rattle.dcx_call.specs.Calls.{shape_of}
use Rattle.dcx_tree.specs.declared.problem.Problem.{Problem}
use Rattle.dcx_tree.specs.Nodes.{Node, arg_sides}
use Rattle.dcx_tree.specs.Meaning.{IsInDomain, setting_of}
use Rattle.dcx_tree.specs.Values.{array_at}
use Rattle.dcx_linear.specs.Rows.{combined_from}
use Rattle.dcx_unknowns.specs.Layout.{is_reduced, call_aux, call_rows, rows_if, rows_at}
use Rattle.dcx_unknowns.specs.Equations.{Forms, args_of, filling_of, AllStand, row_number, numbers_if, graph_numbers}
use Rattle.dcx_unknowns.proofs.Lists.{same_place}
use Rattle.dcx_atom.proofs.OwnTerms.{Agree, row_same, rows_same}
use Rattle.dcx_atom.specs.OwnUnknowns.{AreOwnRows}
use Rattle.dcx_unknowns.proofs.CallGraphs.{call_filling}
use Rattle.dcx_unknowns.proofs.NodeForms.{node_at}
use Rattle.dcx_postsolve.specs.Programs.{bound_row}
use Rattle.dcx_postsolve.proofs.Rows.{combined_append}
use Rattle.dcx_cert_bound.specs.Fixed.{AreFixedValues}
use Rattle.dcx_cert_complete.specs.Families as families
use Rattle.dcx_cert_complete.specs.Families.{AreFilled, atom_rows}
use Rattle.dcx_cert_complete.specs.Rows.{rows_until, AreRowWeights}
use Rattle.dcx_cert_complete.proofs.Numbered.{numbers_at, numbers_at-length}
use Rattle.dcx_cert_complete.proofs.Lifting.{u, own_filling, filling_known, known_args, others_reduced, unknown_filling}

-- ---- rows by nodes
module _ (m : ℕ → ℚ) (w : Unknowns) where
  flat_from : (f : ℕ → List (Unknowns → ℚ)) (a n k : ℕ) → combined_from m k (map bound_row (flat_map f (range_with_len a n))) w
      ≡ rat_sum_below n (λ i. combined_from m (k + length (flat_map f (range_with_len a i))) (map bound_row (f (a + i))) w)
  flat_from f a zero k = refl
  flat_from f a (suc n) k =
      let rest = flat_map f (range_with_len (a + 1) n) in
      let here : a ≡ a + 0 = omega arith in
      let at : k ≡ k + 0 = omega arith in
      ap (λ rs. combined_from m k rs w) (map-append bound_row (f a) rest)
      ∙ combined_append m w k (map bound_row (f a)) (map bound_row rest)
      ∙ ap₂ ◌+ℚ◌ (ap₂ (λ j b. combined_from m j (map bound_row (f b)) w) at here)
      (ap (λ j. combined_from m (k + j) (map bound_row rest) w) (length-map (f a) bound_row) ∙ flat_from f (a + 1) n (k + length (f a))
      ∙ rat_sum_below-same n _ _ (λ i b.
      let more = length-append (f a) (flat_map f (range_with_len (a + 1) i)) in
      let place : (k + length (f a)) + length (flat_map f (range_with_len (a + 1) i)) ≡ k + length (f a ++ flat_map f (range_with_len (a + 1) i)) = omega (arith, more) in
      let node : (a + 1) + i ≡ a + suc i = omega arith in
      ap₂ (λ j c. combined_from m j (map bound_row (f c)) w) place node))
      ∙ sym (rat_sum_below-first n (λ i. combined_from m (k + length (flat_map f (range_with_len a i))) (map bound_row (f (a + i))) w))

  flat_rows : (f : ℕ → List (Unknowns → ℚ)) (n k : ℕ) → combined_from m k (map bound_row (flat_map f (range_with_len 0 n))) w
      ≡ rat_sum_below n (λ i. combined_from m (k + length (flat_map f (range_with_len 0 i))) (map bound_row (f i)) w)
  flat_rows f n k = flat_from f 0 n k ∙ rat_sum_below-same n _ _ (λ i b. let z : 0 + i ≡ i = omega arith in ap (λ j. combined_from m (k + length (flat_map f (range_with_len 0 i)))
      (map bound_row (f j)) w) z)

  -- ---- the rows of one graph
  module _ (number : PlacedRow → Unknowns → ℚ) (a : Entries) (t : Filling) (same : (r : PlacedRow) → number r w ≡ row_at r.row a t) where
    abbrev placed : ℕ → Row → PlacedRow
    placed j row = record { entry = j; row = row }

    entry_sum : (j k : ℕ) (rows : List Row) → combined_from m k (map bound_row (map number (map (placed j) rows))) w ≡ weighted rows (λ r. m (k + r)) a t
    entry_sum j k [] = refl
    entry_sum j k (row ∷ rows) =
        let z : k ≡ k + 0 = omega arith in
        ap₂ ◌+ℚ◌ (ap₂ ◌*ℚ◌ (ap m z) (same (placed j row)))
        (entry_sum j (suc k) rows ∙ ap (λ (v : ℕ → ℚ). weighted rows v a t) (λ i r. m (next k r i)))
      where
        next : (k r : ℕ) → suc k + r ≡ k + suc r
        next k r = omega arith

    joined_count : (M : Meaning) (args : List Sides) (size : ℕ) → length (joined_below size (λ j. map (placed j) (M.rows args j))) ≡ rows_before M args size
    joined_count M args zero = refl
    joined_count M args (suc n) =
        length-append (joined_below n (λ j. map (placed j) (M.rows args j))) (map (placed n) (M.rows args n)) ∙ ap₂ ◌+◌ (joined_count M args n) (length-map (M.rows args n) (placed n))

    graph_sum : (M : Meaning) (args : List Sides) (size k : ℕ) → combined_from m k (map bound_row (map number (graph.rows_below size (M.rows args)))) w
        ≡ rat_sum_below size (λ j. weighted (M.rows args j) (λ r. m (k + (rows_before M args j + r))) a t)
    graph_sum M args zero k = refl
    graph_sum M args (suc n) k =
        let front = joined_below n (λ j. map (placed j) (M.rows args j)) in
        let back = map (placed n) (M.rows args n) in
        ap (λ rs. combined_from m k rs w) (ap (map bound_row) (map-append number front back) ∙ map-append bound_row (map number front) (map number back))
        ∙ combined_append m w k (map bound_row (map number front)) (map bound_row (map number back))
        ∙ ap₂ ◌+ℚ◌ (graph_sum M args n k)
        (ap (λ j. combined_from m (k + j) (map bound_row (map number back)) w) (length-map (map number front) bound_row ∙ length-map front number ∙ joined_count M args n)
        ∙ entry_sum n (k + rows_before M args n) (M.rows args n)
        ∙ ap (λ (v : ℕ → ℚ). weighted (M.rows args n) v a t) (λ i r. m (regroup k (rows_before M args n) r i)))
      where
        regroup : (k b r : ℕ) → (k + b) + r ≡ k + (b + r)
        regroup k b r = omega arith

-- weighted rows whose weights and unknowns are the same
weighted_same : (n : ℕ) (rows : List Row) (v w : ℕ → ℚ) (a : Entries) (t s : Filling) → AreOwnRows n rows → Agree n t s → ((r : ℕ) → r < length rows → v r ≡ w r)
    → weighted rows v a t ≡ weighted rows w a s
weighted_same n [] v w a t s own agree h = refl
weighted_same n (row ∷ rows) v w a t s own agree h =
    ap₂ ◌+ℚ◌ (ap₂ ◌*ℚ◌ (h 0 (omega arith)) (row_same n row a t s own.0 agree)) (weighted_same n rows (λ r. v (suc r)) (λ r. w (suc r)) a t s own.1 agree (λ r b. h (suc r) (omega arith)))

-- a row of an entry is among all
pub rows_within : (M : Meaning) (args : List Sides) (size j r : ℕ) → j < size → r < length (M.rows args j) → rows_before M args j + r < rows_before M args size
rows_within M args zero j r b l = absurd (omega arith)
rows_within M args (suc n) j r b l = by (below_or_last j n b) (λ k. rows_within M args n j r k l)
  where
    by : (j < n) ⊎ (j ≡ n) → (j < n → rows_before M args j + r < rows_before M args n) → rows_before M args j + r < rows_before M args n + length (M.rows args n)
    by (inl k) rest = omega (arith, rest k)
    by (inr e) rest = subst (λ k. rows_before M args k + r < rows_before M args n + length (M.rows args n)) (sym e) (omega (arith, subst (λ k. r < length (M.rows args k)) e l))

counted : (size : ℕ) (rows : ℕ → List Row) (M : Meaning) (args : List Sides) → ((j : ℕ) → rows j ≡ M.rows args j) → length (graph.rows_below size rows) ≡ rows_before M args size
counted zero rows M args e = refl
counted (suc q) rows M args e =
    length-append (graph.rows_below q rows) (map (λ row. record { entry = q; row = row }) (rows q))
    ∙ ap₂ ◌+◌ (counted q rows M args e) (length-map (rows q) (λ row. record { entry = q; row = row }) ∙ ap length (e q))

-- the rows of a node that is an atom
pub rows_count : (rules : Rules) (p : Problem) (i : ℕ) (n : Node) → IsNode p.tree i n → (c : AtomCall) → n.call ≡ calls.Atom c → is_reduced rules p i ≡ true →
    length (rows_at rules p i) ≡ rows_before (atom_meaning c) (arg_sides p.tree n) (entries_of n.sides)
rows_count rules p i n at c same reduced =
    ap₂ (λ r o. length (rows_if p.tree r o)) reduced at ∙ ap (λ call. length (call_rows p.tree n call)) same
    ∙ counted (entries_of n.sides) ((atom_meaning c).rows (arg_sides p.tree n)) (atom_meaning c) (arg_sides p.tree n) (λ j. refl)

module _ (rules : Rules) (p : Problem) (setting : Pairs) (values : List (Option Array)) (fixed : AreFixedValues p setting values) (forms : Forms) (all : AllStand rules p (setting_of p setting) forms)
    (x : Point) (dom : IsInDomain p x) (t : ℕ → Filling) (filled : AreFilled p.tree values t) (weights : ℕ → List Frac) (m : ℕ → ℚ) (first : ℕ)
    (are : AreRowWeights rules p values weights m first) where
  abbrev s : Setting
  s = setting_of p setting

  abbrev U : Unknowns
  U = u rules p setting values fixed forms all x dom t filled

  abbrev numbers : ℕ → List (Unknowns → ℚ)
  numbers = numbers_at rules p s forms

  module _ (i : ℕ) (b : i < length p.tree) (n : Node) (at : IsNode p.tree i n) where
    abbrev k : ℕ
    k = first + rows_until rules p i

    abbrev a : Entries
    a = args_of rules p s forms n U

    abbrev f : Filling
    f = filling_of rules p i U

    -- the rows of an atom
    abbrev atom_sum : AtomCall → ℚ
    atom_sum c = rat_sum_below (entries_of n.sides) (λ j. weighted ((atom_meaning c).rows (arg_sides p.tree n) j) (λ r. m (k + (rows_before (atom_meaning c) (arg_sides p.tree n) j + r))) a f)

    place : (q : ℕ) → m (k + q) ≡ m (first + (rows_until rules p i + q))
    place q = ap m (omega arith)

    unknown_atom : (c : AtomCall) → n.call ≡ calls.Atom c → array_at values i ≡ None → atom_sum c ≡ atom_rows (atom_meaning c) (arg_sides p.tree n) (entries_of n.sides) (weights i) a (t i)
    unknown_atom c same none =
        let M = atom_meaning c in
        let ss = arg_sides p.tree n in
        let shape : M.shape ss ≡ Some n.sides = subst (λ call. shape_of call ss ≡ Some n.sides) same (p.nodes.shaped i n at) in
        let agree = subst (λ call. Agree (length (call_aux p.tree n call)) (t i) f) same (unknown_filling rules p setting values fixed forms all x dom t filled i n at none) in
        rat_sum_below-same (entries_of n.sides) _ _ (λ j l.
        weighted_same (length (M.kinds ss)) (M.rows ss j) (λ r. m (k + (rows_before M ss j + r))) (weights_of M ss (weights i) j) a f (t i)
        (((atom_lawful c).own_unknowns ss n.sides shape).rows j l) (λ q h. sym (agree q h))
        (λ r h. place (rows_before M ss j + r) ∙ sym (are.weights_are i n at none c same (rows_before M ss j + r) (rows_within M ss (entries_of n.sides) j r l h))))

    known_atom : (c : AtomCall) → n.call ≡ calls.Atom c → is_reduced rules p i ≡ true → (y : Array) → array_at values i ≡ Some y → atom_sum c ≤ℚ whole (pos 0)
    known_atom c same reduced y is =
        let M = atom_meaning c in
        let ss = arg_sides p.tree n in
        let size = entries_of n.sides in
        let shape : M.shape ss ≡ Some n.sides = subst (λ call. shape_of call ss ≡ Some n.sides) same (p.nodes.shaped i n at) in
        let agree : Agree (length (M.kinds ss)) (M.filling ss a) f =
        subst (λ call. Agree (length (call_aux p.tree n call)) (call_filling call ss a) f) same
        (subst (λ (fs : List Numbers). Agree (length (call_aux p.tree n n.call)) (call_filling n.call ss (arguments fs)) f)
        (sym (known_args rules p setting values fixed forms all x dom t filled i n at y is))
        (subst (λ (v : Filling). Agree (length (call_aux p.tree n n.call)) v f) (filling_known rules p setting values fixed forms all x dom t filled i n at y is)
        (own_filling rules p setting values fixed forms all x dom t filled i n at reduced))) in
        let tight = (atom_lawful c).tightness ss n.sides shape a in
        ≤ℚ_trans (rat_sum_below-monotone size _ (λ j. whole (pos 0)) (λ j l.
        weighted-nonpositive (M.rows ss j) (λ r. m (k + (rows_before M ss j + r))) a f
        (λ r h. subst IsNonnegative (sym (place (rows_before M ss j + r)))
        (are.signs i (rows_before M ss j + r) b (subst (λ q. rows_before M ss j + r < q) (sym (rows_count rules p i n at c same reduced)) (rows_within M ss size j r l h))))
        (rows_same (length (M.kinds ss)) (M.rows ss j) a (M.filling ss a) f (((atom_lawful c).own_unknowns ss n.sides shape).rows j l) agree (tight.holds.rows j l))))
        (≤ℚ-from_≡ (rat_sum_below-zero size))

    -- a node that has no rows
    plain : (call : Call) → n.call ≡ call → (o : Option Array) → families.call_rows call (arg_sides p.tree n) (entries_of n.sides) (weights i) a (t i) ≡ whole (pos 0) →
        whole (pos 0) ≤ℚ families.rows_if p.tree o (Some n) (weights i) (forms U) (t i)
    plain call same (Some y) e = ≤ℚ_refl _
    plain call same None e = ≤ℚ-from_≡ (sym (ap (λ c. families.call_rows c (arg_sides p.tree n) (entries_of n.sides) (weights i) a (t i)) same ∙ e))

    -- the rows of a node
    node_sum : (r : Bool) → is_reduced rules p i ≡ r → (call : Call) → n.call ≡ call → (o : Option Array) → array_at values i ≡ o →
        combined_from m k (map bound_row (map (row_number rules p s forms i n) (if r then call_rows p.tree n call else []))) U ≤ℚ families.rows_if p.tree o (Some n) (weights i) (forms U) (t i)
    node_sum false reduced call same (Some y) is = ≤ℚ_refl _
    node_sum false reduced call same None is = absurd (false≢true (sym reduced ∙ others_reduced rules p setting values fixed forms all x dom t filled i b is))
    node_sum true reduced (calls.Variable v) same o is = plain (calls.Variable v) same o refl
    node_sum true reduced (calls.Parameter q) same o is = plain (calls.Parameter q) same o refl
    node_sum true reduced (calls.Constant c) same o is = plain (calls.Constant c) same o refl
    node_sum true reduced (calls.Linear l) same o is = plain (calls.Linear l) same o refl
    node_sum true reduced (calls.Pairing q) same o is = plain (calls.Pairing q) same o refl
    node_sum true reduced (calls.Atom c) same (Some y) is =
        ≤ℚ_trans (≤ℚ-from_≡ (graph_sum m U (row_number rules p s forms i n) a f (λ r. refl) (atom_meaning c) (arg_sides p.tree n) (entries_of n.sides) k)) (known_atom c same reduced y is)
    node_sum true reduced (calls.Atom c) same None is =
        ≤ℚ-from_≡ (graph_sum m U (row_number rules p s forms i n) a f (λ r. refl) (atom_meaning c) (arg_sides p.tree n) (entries_of n.sides) k ∙ unknown_atom c same is
        ∙ ap (λ call. families.call_rows call (arg_sides p.tree n) (entries_of n.sides) (weights i) a (t i)) (sym same))

  -- all rows
  pub all_rows : combined_from m first (map bound_row (graph_numbers rules p s forms)) U ≤ℚ families.rows_below p.tree values weights (length p.tree) (forms U) t
  all_rows =
      ≤ℚ_trans (≤ℚ-from_≡ (flat_rows m U numbers (length p.tree) first))
      (rat_sum_below-monotone (length p.tree) _ _ (λ i b.
      let (n, at) = node_at p i b in
      subst (λ z. combined_from m (first + z) (map bound_row (numbers i)) U ≤ℚ families.node_rows p.tree values weights (forms U) t i)
      (sym (same_place numbers (rows_at rules p) (numbers_at-length rules p s forms) (range_with_len 0 i)))
      (subst (λ o. combined_from m (first + rows_until rules p i) (map bound_row (numbers_if rules p s forms i o (rows_if p.tree (is_reduced rules p i) o))) U ≤ℚ families.rows_if
      p.tree (array_at values i) o (weights i) (forms U) (t i)) (sym at)
      (node_sum i b n at (is_reduced rules p i) refl n.call refl (array_at values i) refl))))
