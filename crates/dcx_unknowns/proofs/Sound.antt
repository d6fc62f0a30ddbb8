-- Where unknowns are of their kinds and the rows of the graphs hold, forms that meet the equations stand for the nodes.
use Rattle.std.proofs.Common.{◌≡◌, ℕ, ◌+◌, ◌<◌, arith, Bool, true, false, List, length, map, slice_get, refl, ap, ap₂, subst, pos}
use Rattle.std.proofs.Math.Path.{fun_ext}
use Rattle.std.proofs.lemmas.Option.{slice_get_within}
use Rattle.dcx_math.specs.Rational.{ℚ, whole, ◌≤ℚ◌}
use Rattle.dcx_math.proofs.Lists.{mapped}
use Rattle.dcx_shape.specs.Sides.{entries_of}
use Rattle.dcx_atom.specs.declared.graph.AuxKind.{AuxKind}
use Rattle.dcx_atom.specs.Rows.{Filling, KindsHold}
use Rattle.dcx_arena.specs.Nodes.{IsNode}
use Rattle.dcx_convex.specs.Nodes as convex
use Rattle.dcx_convex.specs.Nodes.{Point, Setting}
use Rattle.dcx_convex.specs.Rules.{Rules, is_constant, judgement_at}
use Rattle.dcx_convex.specs.Reductions.{Unknowns, IsAssignment, RowsHold, StandsFor, StandForNodes}
use Rattle.dcx_tree.specs.declared.problem.Problem.{Problem}
use Rattle.dcx_tree.specs.Nodes.{Node, head_of, arg_sides, convex_node}
use Rattle.dcx_tree.specs.Meaning.{names_in}
use Rattle.dcx_tree.proofs.AllReached.{range_at, convex_at}
use Rattle.dcx_linear.specs.Rows.{AreOfKinds}
use Rattle.dcx_unknowns.specs.Unknowns.{variable_unknowns, variable_kinds, point_at}
use Rattle.dcx_unknowns.specs.Layout.{is_reduced, call_aux, aux_if, call_rows, rows_if, aux_kind, aux_at, aux_before, unknown_kinds}
use Rattle.dcx_unknowns.proofs.Owners.{are_numbered}
use Rattle.dcx_unknowns.specs.Equations.{Forms, args_of, filling_of, AllStand, row_number, numbers_if, reduced_with}
use Rattle.dcx_unknowns.proofs.Lists.{Each, each_part, each_unmap}
use Rattle.dcx_unknowns.proofs.Constants.{value_stands, number_is}
use Rattle.dcx_unknowns.proofs.CallEntries.{CallHolds, entries_stand}
use Rattle.dcx_unknowns.proofs.CallGraphs.{RowHolds, graph_holds}
use Rattle.dcx_unknowns.proofs.OfKinds.{kinds_from, kinds_right, part_holds}
use Rattle.dcx_unknowns.proofs.NodeForms.{nodes_of, nodes_ordered, nodes_counted, not_constant, constant_form, reduced_form, not_reduced}

-- a row of the program is at most 0
abbrev pub IsKept : Unknowns → (Unknowns → ℚ) → Type 0
IsKept u row = row u ≤ℚ whole (pos 0)

module _ (rules : Rules) (p : Problem) (s : Setting) (forms : Forms) (u : Unknowns) where
  pub assigned_kinds : IsAssignment (reduced_with rules p s forms) u → AreOfKinds (unknown_kinds rules p) u
  assigned_kinds a = kinds_from (unknown_kinds rules p) u a.nonneg a.nonpos

  module _ (i : ℕ) (n : Node) (at : IsNode p.tree i n) (reduced : is_reduced rules p i ≡ true) where
    pub within_tree : i < length p.tree
    within_tree = slice_get_within p.tree i n at

    pub aux_is : aux_at rules p i ≡ call_aux p.tree n n.call
    aux_is = ap₂ (aux_if p.tree) reduced at

    -- the auxiliary unknowns of node i are of their kinds
    node_kinds : AreOfKinds (unknown_kinds rules p) u → KindsHold (call_aux p.tree n n.call) (filling_of rules p i u)
    node_kinds of =
        let own = variable_kinds p.variables in
        let count = (are_numbered p.variables).kinds in
        let h = part_holds (aux_at rules p) (length p.tree) i (λ m. u (length own + m)) within_tree (kinds_right own (map aux_kind (aux_before rules p (length p.tree))) u of) in
        let there : (λ (k : ℕ). u (length own + (length (aux_before rules p i) + k))) ≡ filling_of rules p i u =
        fun_ext (λ k. let e : length own + (length (aux_before rules p i) + k) ≡ (variable_unknowns p.variables + length (aux_before rules p i)) + k = omega (arith, count) in ap u e) in
        subst (λ (t : Filling). KindsHold (call_aux p.tree n n.call) t) there
        (subst (λ (ks : List AuxKind). KindsHold ks (λ k. u (length own + (length (aux_before rules p i) + k)))) aux_is h)

    -- and its rows hold
    node_rows : RowsHold (reduced_with rules p s forms) u → Each (RowHolds (args_of rules p s forms n u) (filling_of rules p i u)) (call_rows p.tree n n.call)
    node_rows holds =
        let part = each_part (IsKept u) (λ i. numbers_if rules p s forms i (slice_get p.tree i) (rows_if p.tree (is_reduced rules p i) (slice_get p.tree i))) _ holds i i
        (range_at (length p.tree) i within_tree) in
        let here = subst (Each (IsKept u)) (ap₂ (λ b o. numbers_if rules p s forms i o (rows_if p.tree b o)) reduced at) part in
        each_unmap (IsKept u) (row_number rules p s forms i n) (call_rows p.tree n n.call) here

    node_holds : AreOfKinds (unknown_kinds rules p) u → RowsHold (reduced_with rules p s forms) u →
        CallHolds n.call (arg_sides p.tree n) (entries_of n.sides) (args_of rules p s forms n u) (filling_of rules p i u)
    node_holds of holds = graph_holds p.tree n n.call (args_of rules p s forms n u) (filling_of rules p i u) (node_kinds of) (node_rows holds)

  module _ (all : AllStand rules p s forms) (of : AreOfKinds (unknown_kinds rules p) u) (holds : RowsHold (reduced_with rules p s forms) u) where
    abbrev point : Point
    point = point_at p.variables u

    -- what stands for node i
    node_stands : (i : ℕ) (n : Node) → IsNode p.tree i n →
        StandsFor rules s point (head_of (names_in p) n.call (arg_sides p.tree n) n.sides) (map (judgement_at rules (nodes_of p)) n.args) (map (forms u) n.args) (forms u i)
    node_stands i n at = by (is_reduced rules p i) refl
      where
        by : (b : Bool) → is_reduced rules p i ≡ b → StandsFor rules s point (head_of (names_in p) n.call (arg_sides p.tree n) n.sides) (map (judgement_at rules (nodes_of p)) n.args)
            (map (forms u) n.args) (forms u i)
        by true e =
            entries_stand (names_in p) s point rules (map (judgement_at rules (nodes_of p)) n.args) (arg_sides p.tree n) n.sides (map (forms u) n.args) (filling_of rules p i u) (forms u i) n.call
            (p.nodes.shaped i n at) (not_constant p rules i n at e) (node_holds i n at e of holds) (reduced_form p rules s forms all i n at e u)
        by false e =
            let count = nodes_counted p in
            let within = slice_get_within p.tree i n at in
            value_stands rules s point (head_of (names_in p) n.call (arg_sides p.tree n) n.sides) (map (judgement_at rules (nodes_of p)) n.args) (map (forms u) n.args) (forms u i)
            (number_is rules (nodes_of p) (nodes_ordered p) s point (forms u) (λ k b. constant_form p rules s forms all u point k (omega (arith, b, count)))
            i (convex_node (names_in p) p.tree n) (omega (arith, count, within)) (convex_at p i n at) (not_reduced (is_constant rules (judgement_at rules (nodes_of p) i)) e))

    pub all_stand : StandForNodes rules (nodes_of p) s point (forms u)
    all_stand i m h =
        let (n, at, is) = mapped (convex_node (names_in p) p.tree) p.tree i m h in
        subst (λ (k : convex.Node). StandsFor rules s point k.head (map (judgement_at rules (nodes_of p)) k.args) (map (forms u) k.args) (forms u i)) is (node_stands i n at)
