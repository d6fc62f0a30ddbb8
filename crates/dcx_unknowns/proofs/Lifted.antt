-- The unknowns of a point of the domain are of their kinds, the forms are the values there, and the rows hold.
use Rattle.std.proofs.Common.{◌≡◌, ℕ, zero, suc, ◌+◌, ◌<◌, arith, Bool, true, false, List, length, map, Option, Some, None, slice_get, refl, sym, ap, ◌∙◌, subst}
use Rattle.std.specs.List.{range_with_len}
use Rattle.std.proofs.Math.Path.{fun_ext}
use Rattle.std.proofs.lemmas.Option.{slice_get_within}
use Rattle.dcx_shape.specs.declared.shape.Sides.{Sides}
use Rattle.dcx_shape.specs.Sides.{entries_of}
use Rattle.dcx_atom.specs.declared.graph.AuxKind.{AuxKind}
use Rattle.dcx_atom.specs.Rows.{Filling, KindsHold}
use Rattle.dcx_atom.specs.Bounding.{free_kinds}
use Rattle.dcx_arena.specs.Nodes.{IsNode}
use Rattle.dcx_convex.specs.Nodes as convex
use Rattle.dcx_convex.specs.Nodes.{Numbers, Point, Setting, first_of, arguments}
use Rattle.dcx_convex.specs.Rules.{Rules, is_constant, judgement_at}
use Rattle.dcx_convex.specs.Reductions.{Unknowns, RowsHold, IsLifted}
use Rattle.dcx_convex.proofs.Told.{map-same, value_tells}
use Rattle.dcx_tree.specs.declared.problem.Problem.{Problem}
use Rattle.dcx_tree.specs.Nodes.{Node, arg_sides, convex_node}
use Rattle.dcx_tree.specs.Meaning.{names_in, convex_problem, IsInDomain}
use Rattle.dcx_tree.proofs.AllReached.{convex_at}
use Rattle.dcx_linear.specs.Rows.{IsOfKind, AreOfKinds}
use Rattle.dcx_unknowns.specs.Unknowns.{variable_kinds, point_at, unknowns_of}
use Rattle.dcx_unknowns.specs.Laws.{AreAlike}
use Rattle.dcx_unknowns.specs.Layout.{is_reduced, call_aux, aux_if, call_rows, rows_if, aux_kind, aux_at, aux_before, unknown_kinds}
use Rattle.dcx_unknowns.proofs.Owners.{are_numbered}
use Rattle.dcx_unknowns.proofs.Domains.{stand_for_domain}
use Rattle.dcx_unknowns.specs.Equations.{Forms, call_entry, args_of, filling_of, AllStand, row_number, numbers_if, reduced_with}
use Rattle.dcx_unknowns.proofs.Lists.{Each, each_nil, each_map, each_flat, each_range, zip_flat}
use Rattle.dcx_atom.proofs.OwnTerms.{Agree}
use Rattle.dcx_unknowns.proofs.CallGraphs.{call_filling, filled_kinds, filled_rows, filled_value}
use Rattle.dcx_unknowns.proofs.OfKinds.{nonneg_from, nonpos_from, kinds_both, IsOfAuxKind, taken_kinds, zipped_kinds}
use Rattle.dcx_unknowns.proofs.Lift.{filling_if, filling_at, numbers_at, aux_numbers, lift, lift_variable, lift_aux, lift_filling}
use Rattle.dcx_unknowns.proofs.Variables.{point_local, node_same, same_value}
use Rattle.dcx_unknowns.proofs.NodeForms.{nodes_of, nodes_ordered, nodes_counted, node_at, reducible, constant_form, reduced_form, not_reduced}
use Rattle.dcx_unknowns.proofs.Sound.{IsKept, aux_is}

-- ---- unknowns with given fillings
module _ (rules : Rules) (p : Problem) (y : Point) (F : ℕ → Filling) (dom : IsInDomain p y) where
  pub lifted_kinds : ((i : ℕ) → KindsHold (aux_at rules p i) (F i)) → AreOfKinds (unknown_kinds rules p) (lift rules p y F)
  lifted_kinds filled =
      let own = variable_kinds p.variables in
      let others = aux_before rules p (length p.tree) in
      let count = (are_numbered p.variables).kinds in
      let first : AreOfKinds own (lift rules p y F) =
      λ n kind e. let b = slice_get_within own n kind e in
      subst (IsOfKind kind) (sym (lift_variable rules p y F n (omega (arith, count, b)))) ((stand_for_domain p).kinds y dom n kind e) in
      let zipped = zip_flat IsOfAuxKind (aux_at rules p) (numbers_at rules p y F) (range_with_len 0 (length p.tree)) (λ i. taken_kinds (aux_at rules p i) (F i) (filled i)) in
      kinds_both own (map aux_kind others) (lift rules p y F) first
      (zipped_kinds others (aux_numbers rules p y F) zipped (λ m. lift rules p y F (length own + m)) (λ m x e. ap (λ k. lift rules p y F (k + m)) count ∙ lift_aux rules p y F m x e))

  -- the point of these unknowns has the entries of y
  pub lifted_point : AreAlike p.variables (point_at p.variables (lift rules p y F)) y
  lifted_point k v at e lt =
      point_local p.variables p.squares (lift rules p y F) (unknowns_of p.variables y) (lift_variable rules p y F) k v at e lt ∙ (stand_for_domain p).same y dom k v at e lt

-- ---- the fillings at the values of the arguments
module _ (rules : Rules) (p : Problem) (s : Setting) (y : Point) where
  -- ---- kinds
  -- the filling of each node is of its kinds
  node_filled : (i : ℕ) → KindsHold (aux_at rules p i) (filling_at p s y i)
  node_filled i = by (is_reduced rules p i) (slice_get p.tree i) refl
    where
      by : (b : Bool) (o : Option Node) → slice_get p.tree i ≡ o → KindsHold (aux_if p.tree b o) (filling_if p.tree (convex.value_at (nodes_of p) s y) o)
      by b None e = λ k z. absurd (free_kinds 0 k z)
      by true (Some n) e = filled_kinds p.tree n (arguments (map (convex.value_at (nodes_of p) s y) n.args)) n.call (p.nodes.shaped i n e)
      by false (Some n) e = λ k z. absurd (free_kinds 0 k z)

  module _ (dom : IsInDomain p y) where
    -- ---- forms
    module _ (forms : Forms) (all : AllStand rules p s forms) where
      abbrev u : Unknowns
      u = lift rules p y (filling_at p s y)

      abbrev value : ℕ → Numbers
      value = convex.value_at (nodes_of p) s y

      module _ (i : ℕ) (n : Node) (at : IsNode p.tree i n) (reduced : is_reduced rules p i ≡ true) where
        abbrev sides : List Sides
        sides = arg_sides p.tree n

        abbrev t : Filling
        t = filling_of rules p i u

        -- the auxiliary unknowns of node i are its filling
        filled_at : Agree (length (call_aux p.tree n n.call)) (call_filling n.call sides (arguments (map value n.args))) t
        filled_at k b =
            let within : k < length (aux_at rules p i) = let l = ap (λ (ks : List AuxKind). length ks) (aux_is rules p s forms u i n at reduced) in omega (arith, l, b) in
            sym (lift_filling rules p y (filling_at p s y) i k (slice_get_within p.tree i n at) within ∙ ap (λ o. filling_if p.tree value o k) at)

        -- the form of node i is its value, where those of its arguments are
        node_same_value : map (forms u) n.args ≡ map value n.args → (j : ℕ) → forms u i j ≡ value i j
        node_same_value args j =
            let names = names_in p in
            let x = point_at p.variables u in
            let shaped = p.nodes.shaped i n at in
            reduced_form p rules s forms all i n at reduced u j
            ∙ ap (λ (fs : List Numbers). first_of (entries_of n.sides) (call_entry names s x n.call sides (arguments fs) t) j) args
            ∙ filled_value p.tree n names s x n.call (reducible p rules i n at reduced) (map value n.args) t shaped filled_at j
            ∙ same_value p x y s n.call (node_same p x y (lifted_point rules p y (filling_at p s y) dom) i n at) sides n.sides (map value n.args) j
            ∙ sym (ap (λ (f : Numbers). f j) (value_tells (nodes_of p) (nodes_ordered p) s y i (convex_node names p.tree n) (convex_at p i n at)))

      same_below : (m i : ℕ) → i < m → i < length p.tree → forms u i ≡ value i
      same_below zero i b c = absurd (omega arith)
      same_below (suc m) i b c = by (is_reduced rules p i) refl (λ a l k. same_below m a l k)
        where
          by : (r : Bool) → is_reduced rules p i ≡ r → ((a : ℕ) → a < m → a < length p.tree → forms u a ≡ value a) → forms u i ≡ value i
          by true e earlier =
              let (n, at) = node_at p i c in
              fun_ext (node_same_value i n at e (map-same (λ a. a < i) (forms u) value (λ a l. earlier a (omega (arith, l, b)) (omega (arith, l, c))) n.args (p.nodes.earlier i n at)))
          by false e earlier = constant_form p rules s forms all u y i c (not_reduced (is_constant rules (judgement_at rules (nodes_of p) i)) e)

      forms_same : (i : ℕ) → i < length p.tree → forms u i ≡ value i
      forms_same i b = same_below (suc i) i (omega arith) b

      of_kinds : AreOfKinds (unknown_kinds rules p) u
      of_kinds = lifted_kinds rules p y (filling_at p s y) dom node_filled

      -- ---- rows
      node_rows : (i : ℕ) (n : Node) → IsNode p.tree i n → (b : Bool) → is_reduced rules p i ≡ b → Each (IsKept u) (numbers_if rules p s forms i (Some n) (rows_if p.tree b (Some n)))
      node_rows i n at true e =
          let args = map-same (λ a. a < i) (forms u) value (λ a l. let w = slice_get_within p.tree i n at in forms_same a (omega (arith, l, w))) n.args (p.nodes.earlier i n at) in
          let filled = subst (λ (fs : List Numbers). Agree (length (call_aux p.tree n n.call)) (call_filling n.call (arg_sides p.tree n) (arguments fs)) (filling_of rules p i u)) (sym args)
          (filled_at i n at e) in
          each_map (IsKept u) (row_number rules p s forms i n) (call_rows p.tree n n.call)
          (filled_rows p.tree n (args_of rules p s forms n u) (filling_of rules p i u) n.call (p.nodes.shaped i n at) filled)
      node_rows i n at false e = each_nil (IsKept u)

      rows_at_node : (i : ℕ) → i < length p.tree → Each (IsKept u) (numbers_if rules p s forms i (slice_get p.tree i) (rows_if p.tree (is_reduced rules p i) (slice_get p.tree i)))
      rows_at_node i b =
          let (n, at) = node_at p i b in
          subst (λ o. Each (IsKept u) (numbers_if rules p s forms i o (rows_if p.tree (is_reduced rules p i) o))) (sym at) (node_rows i n at (is_reduced rules p i) refl)

      lifted_rows : RowsHold (reduced_with rules p s forms) u
      lifted_rows =
          each_flat (IsKept u) (λ i. numbers_if rules p s forms i (slice_get p.tree i) (rows_if p.tree (is_reduced rules p i) (slice_get p.tree i))) (range_with_len 0 (length p.tree))
          (each_range (λ i. Each (IsKept u) (numbers_if rules p s forms i (slice_get p.tree i) (rows_if p.tree (is_reduced rules p i) (slice_get p.tree i)))) 0 (length p.tree)
          (λ i b. rows_at_node i (omega (arith, b))))

      pub lifted : IsLifted (reduced_with rules p s forms) (convex_problem p) s y u
      lifted = record {
        assignment = record { nonneg = nonneg_from (unknown_kinds rules p) u of_kinds; nonpos = nonpos_from (unknown_kinds rules p) u of_kinds };
        rows = lifted_rows;
        same = λ i b. let count = nodes_counted p in forms_same i (omega (arith, b, count));
      }
