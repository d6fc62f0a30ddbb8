-- The weights of a certificate that is built are the multipliers of the rows of the graphs.
use Rattle.std.proofs.Common.{◌≡◌, ℕ, zero, suc, ◌+◌, ◌<◌, arith, Bool, true, false, if◌then◌else◌, List, [], ◌∷◌, ◌++◌, length, map}
use Rattle.std.proofs.Common.{Option, Some, None, option_map, Result, Ok, slice_get, refl, sym, ap, ap₂, ◌∙◌, subst}
use Rattle.std.specs.List.{flat_map, range_with_len, filter_map, zip}
use Rattle.std.proofs.lemmas.List.{length-append, length-map, append-nil}
use Rattle.std.proofs.lemmas.Grind.{flat_map-append}
use Rattle.std.proofs.lemmas.Option.{slice_get-map, slice_get_within}
use Rattle.dcx_math.specs.Rational.{ℚ}
use Rattle.dcx_math.proofs.Lists.{element_at, mapped}
use Rattle.dcx_frac.specs.declared.fraction.Frac.{Frac}
use Rattle.dcx_frac.specs.declared.fraction.Passes.{Passes}
use Rattle.dcx_shape.specs.Sides.{entries_of}
use Rattle.dcx_atom.specs.declared.array.Array.{Array}
use Rattle.dcx_atom.specs.Arrays.{number_at, list_below, joined_below}
use Rattle.dcx_atom.specs.Steps.{rows_before}
use Rattle.dcx_atom.proofs.BoundRows.{length-list_below}
use Rattle.dcx_arena.specs.Nodes.{IsNode}
use Rattle.dcx_point.specs.Pairs.{Pairs}
use Rattle.dcx_call.specs.declared.atoms.AtomCall.{AtomCall}
use Rattle.dcx_call.specs.declared.call.Call.{Call}
use Rattle.dcx_call.specs.declared.call.Call.TheVariants as calls
use Rattle.dcx_call.specs.Atoms.{atom_meaning}
use Rattle.dcx_convex.specs.Certificates.{is_fixed}
use Rattle.dcx_convex.specs.Reductions.{Unknowns}
use Rattle.dcx_tree.specs.declared.problem.Problem.{Problem}
use Rattle.dcx_tree.specs.Nodes.{Node, arg_sides}
use Rattle.dcx_tree.specs.Meaning.{convex_problem, setting_of}
use Rattle.dcx_tree.proofs.NodeValues.{number_there}
use Rattle.dcx_cert_outline.proofs.Rows.{range_more}
use Rattle.dcx_linear.specs.declared.row.RowKind.TheVariants.{AtMost}
use Rattle.dcx_linear.specs.Rows.{HaveSigns}
use Rattle.dcx_unknowns.specs.Layout.{is_reduced, call_rows, rows_if, rows_at}
use Rattle.dcx_unknowns.proofs.Lists.{flat_first}
use Rattle.dcx_postsolve.specs.Programs.{bound_row}
use Rattle.dcx_lp_answer.specs.declared.answer.RowNote.{RowNote}
use Rattle.dcx_lp_answer.specs.declared.answer.LpAnswer.{LpAnswer}
use Rattle.dcx_lp_answer.specs.Right.{is_inequality, multiplier_at}
use Rattle.dcx_lp_answer.proofs.Formed.{formed_is_right}
use Rattle.dcx_std.specs.Solutions.{HasKinds, row_at, linear_program}
use Rattle.dcx_std.proofs.ScaledProgram.{scaled_program}
use Rattle.dcx_std.proofs.Solutions.{facts_of, inequality_there}
use Rattle.dcx_postsolve.proofs.Lists.{behind}
use Rattle.dcx_cert_sections.specs.declared.weights.NodeWeights.{NodeWeights}
use Rattle.dcx_cert_outline.specs.Drawn.{call_atoms, atoms_if, atoms_at, problem_outline}
use Rattle.dcx_graph.specs.declared.origin.Origin.{Origin}
use Rattle.dcx_graph.specs.declared.origin.Origin.TheVariants as origins
use Rattle.dcx_graph.specs.Program.{Program, entry_origin, constraint_entries}
use Rattle.dcx_graph.specs.Answers.{rows_of, IsAnswered}
use Rattle.dcx_graph.proofs.AsLinear.{entry_at, all_constraints}
use Rattle.dcx_cert_build.specs.Origins.{entry_count, node_rows}
use Rattle.dcx_cert_build.specs.Weights.{graph_multiplier, note_of, node_multipliers}
use Rattle.dcx_cert_build.specs.Built.{AreWeightsIn}
use Rattle.dcx_cert_build.proofs.Fixed.{unfixed_is_reduced}
use Rattle.dcx_cert_bound.specs.Fixed.{AreFixedValues}
use Rattle.dcx_cert_bound.specs.Weights.{weights_at}
use Rattle.dcx_cert_complete.specs.Programs.{HasForms}
use Rattle.dcx_cert_complete.specs.Rows.{rows_until, AreRowWeights}
use Rattle.dcx_cert_complete.proofs.Answered.{first, row_there, rows_signed}
use Rattle.dcx_cert_complete.proofs.Bounded.{unfixed}
use Rattle.dcx_cert_complete.proofs.Noted.{constraints_other, node_note, weights_found}
use Rattle.dcx_cert_complete.proofs.Rowwise.{rows_count}

-- ---- how many rows come from where
joined_length : {A B : Type 0} (n : ℕ) (f : ℕ → List A) (g : ℕ → List B) → ((j : ℕ) → length (f j) ≡ length (g j)) → length (joined_below n f) ≡ length (joined_below n g)
joined_length zero f g h = refl
joined_length (suc n) f g h = length-append (joined_below n f) (f n) ∙ ap₂ ◌+◌ (joined_length n f g h) (h n) ∙ sym (length-append (joined_below n g) (g n))

joined_none : {A : Type 0} (n : ℕ) (f : ℕ → List A) → ((j : ℕ) → length (f j) ≡ 0) → length (joined_below n f) ≡ 0
joined_none zero f h = refl
joined_none (suc n) f h = let a = length-append (joined_below n f) (f n) in let b = joined_none n f h in let c = h n in omega (arith, a, b, c)

joined_flat : {A B : Type 0} (f : ℕ → List A) (g : ℕ → List B) → ((j : ℕ) → length (f j) ≡ length (g j)) → (n : ℕ) → length (joined_below n f) ≡ length (flat_map g (range_with_len 0 n))
joined_flat f g h zero = refl
joined_flat f g h (suc n) =
    let one : n + 1 ≡ suc n = omega arith in
    let split : flat_map g (range_with_len 0 (suc n)) ≡ flat_map g (range_with_len 0 n) ++ g n =
    ap (λ k. flat_map g (range_with_len 0 k)) (sym one) ∙ ap (flat_map g) (range_more n) ∙ flat_map-append g (range_with_len 0 n) (n ∷ [])
    ∙ ap (λ t. flat_map g (range_with_len 0 n) ++ t) (append-nil (g n)) in
    length-append (joined_below n f) (f n) ∙ ap₂ ◌+◌ (joined_flat f g h n) (h n) ∙ sym (length-append (flat_map g (range_with_len 0 n)) (g n)) ∙ ap length (sym split)

-- a node has as many origins as rows
node_count : (nodes : List Node) (i : ℕ) (reduced : Bool) (o : Option Node) → length (node_rows nodes i reduced o) ≡ length (rows_if nodes reduced o)
node_count nodes i reduced None = refl
node_count nodes i false (Some n) = refl
node_count nodes i true (Some n) = by n.call
  where
    listed : (count : ℕ → ℕ) (j : ℕ) → length (list_below (count j) (λ k. origins.Graph (record { 0 = i }) j k)) ≡ count j
    listed count j = length-list_below (count j) (λ k. origins.Graph (record { 0 = i }) j k)

    by : (call : Call) → length (joined_below (entries_of n.sides) (λ j. list_below (entry_count nodes n call j) (λ k. origins.Graph (record { 0 = i }) j k))) ≡ length (call_rows nodes n call)
    by (calls.Variable v) = joined_none (entries_of n.sides) _ (listed (entry_count nodes n (calls.Variable v)))
    by (calls.Parameter q) = joined_none (entries_of n.sides) _ (listed (entry_count nodes n (calls.Parameter q)))
    by (calls.Constant x) = joined_none (entries_of n.sides) _ (listed (entry_count nodes n (calls.Constant x)))
    by (calls.Atom m) =
        joined_length (entries_of n.sides) _ _
        (λ j. listed (entry_count nodes n (calls.Atom m)) j ∙ sym (length-map ((atom_meaning m).rows (arg_sides nodes n) j) (λ row. record { entry = j; row = row })))
    by (calls.Linear l) = joined_none (entries_of n.sides) _ (listed (entry_count nodes n (calls.Linear l)))
    by (calls.Pairing q) = joined_none (entries_of n.sides) _ (listed (entry_count nodes n (calls.Pairing q)))

-- ---- the atoms that certificates show
listed_atom : (p : Problem) (i : ℕ) (n : Node) → IsNode p.tree i n → (c : AtomCall) → n.call ≡ calls.Atom c → is_fixed (convex_problem p).nodes i ≡ false →
    (k : ℕ) × (slice_get (problem_outline p).atoms k ≡ Some (i, rows_before (atom_meaning c) (arg_sides p.tree n) (entries_of n.sides)))
listed_atom p i n at c same loose =
    let a : ℕ × ℕ = (i, rows_before (atom_meaning c) (arg_sides p.tree n) (entries_of n.sides)) in
    let here : slice_get (atoms_at p i) 0 ≡ Some a =
    ap₂ (λ (b : Bool) (o : Option Node). slice_get (if b then [] else atoms_if p.tree i o) 0) loose at ∙ ap (λ call. slice_get (call_atoms p.tree i n call) 0) same in
    (length (flat_map (atoms_at p) (range_with_len 0 i)) + 0, flat_first (atoms_at p) (length p.tree) i 0 a (slice_get_within p.tree i n at) here)

-- ---- an answer of the rows
module _ (p : Problem) (setting : Pairs) (q : Program Frac) (a : LpAnswer) (known : HasKinds (rows_of q)) (own : HasForms p (setting_of p setting) q)
    (is : IsAnswered p (setting_of p setting) q a) where
  abbrev pub m : ℕ → ℚ
  m = multiplier_at is.integer.columns a

  -- the number of the first row of a graph
  abbrev pub first_row : ℕ
  first_row = first own.rules p (setting_of p setting) own.forms (linear_program (rows_of q)) own.program m

  abbrev before : List Origin
  before = map entry_origin (constraint_entries p)

  abbrev Rows : ℕ → List Origin
  Rows k = node_rows p.tree k (is_reduced own.rules p k) (slice_get p.tree k)

  before_count : length before ≡ first_row
  before_count =
      length-map (constraint_entries p) entry_origin ∙ sym (length-map (constraint_entries p) (entry_at own.forms)) ∙ ap length (all_constraints own.forms 0 p.constraints)

  until_count : (i : ℕ) → length (joined_below i Rows) ≡ rows_until own.rules p i
  until_count i = joined_flat Rows (rows_at own.rules p) (λ k. node_count p.tree k (is_reduced own.rules p k) (slice_get p.tree k)) i

  -- row r of a graph
  module _ (i r : ℕ) (b : i < length p.tree) (c : r < length (rows_at own.rules p i)) where
    abbrev place : ℕ
    place = first_row + (rows_until own.rules p i + r)

    there : (row : Unknowns → ℚ) × (slice_get (linear_program (rows_of q)).rows place ≡ Some (bound_row row))
    there = row_there own.rules p (setting_of p setting) own.forms (linear_program (rows_of q)) own.program m i r b c

    -- it is an inequality
    inequality : is_inequality is.integer.columns place ≡ true
    inequality =
        let (row, at, same) = mapped row_at (rows_of q).rows place (bound_row there.0) there.1 in
        let scaled = scaled_program (rows_of q) is.integer is.made in
        inequality_there (rows_of q) is.integer known scaled place (facts_of (rows_of q) is.integer known scaled place row at) (ap (λ x. x.kind) same)

    -- something is kept of it
    noted : (note : RowNote) × (slice_get a.rows place ≡ Some note)
    noted =
        let (row, at, same) = mapped row_at (rows_of q).rows place (bound_row there.0) there.1 in
        let within = slice_get_within (rows_of q).rows place row at in
        let count = (scaled_program (rows_of q) is.integer is.made).count in
        let notes = is.parts.notes in
        element_at a.rows place (omega (arith, within, count, notes))

    -- and that is what is kept of row r of node i
    chosen : slice_get (filter_map (note_of i) (zip q.origins a.rows)) r ≡ slice_get a.rows place
    chosen =
        let front = before ++ joined_below i Rows in
        let count : r < length (Rows i) = subst (λ k. r < k) (sym (node_count p.tree i (is_reduced own.rules p i) (slice_get p.tree i))) c in
        let ahead : length front ≡ first_row + rows_until own.rules p i = length-append before (joined_below i Rows) ∙ ap₂ ◌+◌ before_count (until_count i) in
        ap (λ os. slice_get (filter_map (note_of i) (zip os a.rows)) r) own.origins
        ∙ node_note before p.tree (is_reduced own.rules p) (length p.tree) i (constraints_other i p) b a.rows r count
        ∙ behind (length front) a.rows r ∙ ap (slice_get a.rows) (omega (arith, ahead))

    -- its multiplier, where it is formed, is the one by which the answer is right
    row_weight : (ws : List Frac) → ◌≡◌ {A = List (Result Frac Passes)} (map Ok ws) (node_multipliers a.status q.origins a.rows i) → number_at ws r ≡ m place
    row_weight ws found =
        let (note, at) = noted in
        let ok : Frac → Result Frac Passes = λ z. Ok z in
        let formed : slice_get (map ok ws) r ≡ Some (graph_multiplier a.status note) =
        ap (λ l. slice_get l r) found ∙ slice_get-map (graph_multiplier a.status) (filter_map (note_of i) (zip q.origins a.rows)) r ∙ ap (option_map (graph_multiplier a.status)) (chosen ∙ at) in
        let (x, stands, told) = mapped ok ws r (graph_multiplier a.status note) formed in
        number_there ws r x stands ∙ formed_is_right is.integer.columns a place note AtMost x at inequality (sym told)

  -- the weights that are built are the multipliers of the rows
  pub are_row_weights : (values : List (Option Array)) → AreFixedValues p setting values → HaveSigns (linear_program (rows_of q)) m → (weights : List NodeWeights) → AreWeightsIn p q.origins a weights
      → AreRowWeights own.rules p values (weights_at weights) m first_row
  are_row_weights values fixed signs weights are = record {
    signs = rows_signed own.rules p (setting_of p setting) own.forms (linear_program (rows_of q)) own.program m signs;
    weights_are = λ i n at none c same r b.
        let inside = slice_get_within p.tree i n at in
        let loose = unfixed p setting values fixed i inside none in
        let (k, listed) = listed_atom p i n at c same loose in
        let atom : ℕ × ℕ = (i, rows_before (atom_meaning c) (arg_sides p.tree n) (entries_of n.sides)) in
        row_weight i r inside (subst (λ z. r < z) (sym (rows_count own.rules p i n at c same (unfixed_is_reduced own.rules p i loose))) b)
        (weights_at weights i) (weights_found a.status q.origins a.rows weights (problem_outline p).atoms are k atom listed);
  }
