-- What the problem of roots keeps.
use Rattle.std.proofs.Common.{◌≡◌, ℕ, zero, suc, ◌<◌, true, List, [], ◌∷◌, length, map, get_or, Some, option_map, refl, sym, ap, ◌∙◌, subst, arith, true≢false}
use Rattle.std.specs.Prelude.{filter}
use Rattle.std.specs.Option.{unwrap_or}
use Rattle.std.specs.List.{slice_get, Contains, IsDistinct}
use Rattle.std.proofs.lemmas.List.{length-map}
use Rattle.std.proofs.lemmas.Option.{none-some, same_Some, slice_get_within, slice_get-get_or}
use Rattle.dcx_shape.specs.declared.shape.Sides.{Sides}
use Rattle.dcx_shape.specs.declared.shape.Sides.TheVariants.{Scalar}
use Rattle.dcx_shape.specs.Shape.{sides_of}
use Rattle.dcx_shape.specs.Sides.{entries_of}
use Rattle.dcx_point.specs.Pairs.{same_name}
use Rattle.dcx_point.proofs.Puts.{same_name-refl, same_name-true}
use Rattle.dcx_arena.specs.declared.node.NodeId.{NodeId}
use Rattle.dcx_arena.specs.Nodes.{IsNode, sides_at}
use Rattle.dcx_arena.specs.Gather.{has, order_of, StandFor, IsRenamed, IsGathered}
use Rattle.dcx_arena.proofs.Orders.{has_from}
use Rattle.dcx_call.specs.declared.attribute.Variable.{Variable}
use Rattle.dcx_call.specs.declared.attribute.Parameter.{Parameter}
use Rattle.dcx_call.specs.declared.call.Call.{Call}
use Rattle.dcx_call.specs.declared.call.Call.TheVariants as calls
use Rattle.dcx_tree.specs.declared.constraint.Constraint.{Constraint}
use Rattle.dcx_tree.specs.Nodes.{Node}
use Rattle.dcx_tree.specs.Problems.{IsObjective, HasSides, AreConstraints, IsListed, HasCall, declared_names, sides_in, roots_of}
use Rattle.dcx_tree.specs.Problems as problems
use Rattle.dcx_tree.specs.Gather.{Demand, is_variable, is_parameter, has_variable, has_parameter, demand_of}
use Rattle.dcx_tree.proofs.Sublists.{contains_at, at_contains, filter_at, at_filter, any_at, at_any, one_name, distinct_front, distinct_back, distinct_both}
use Rattle.dcx_math.proofs.Lists.{element_at}

-- a constraint of the part, and that of the whole
record IsRenamedConstraint (order : List ℕ) (c c' : Constraint) : Type 0 where
  demand : demand_of c' ≡ demand_of c
  left : slice_get order c'.left.0 ≡ Some c.left.0
  right : slice_get order c'.right.0 ≡ Some c.right.0

renamed_at : (order : List ℕ) (cs' cs : List Constraint) → StandFor order (sides_in cs') (sides_in cs) → map demand_of cs' ≡ map demand_of cs →
    (t : ℕ) (c' : Constraint) → slice_get cs' t ≡ Some c' → (c : Constraint) × (slice_get cs t ≡ Some c) × IsRenamedConstraint order c c'
renamed_at order [] cs e d t c' at = absurd (none-some c' at)
renamed_at order (x' ∷ cs') [] e d t c' at = absurd (cc)
renamed_at order (x' ∷ cs') (x ∷ cs) e d zero c' at =
    let same = same_Some x' c' at in
    let is : IsRenamedConstraint order x x' = record { demand = cc; left = cc; right = cc } in
    (x, refl, subst (IsRenamedConstraint order x) same is)
renamed_at order (x' ∷ cs') (x ∷ cs) e d (suc t) c' at =
    let e' : StandFor order (sides_in cs') (sides_in cs) = cc in
    let d' : map demand_of cs' ≡ map demand_of cs = cc in
    let r = renamed_at order cs' cs e' d' t c' at in
    (r.0, r.1, r.2)

-- ---- a part and its whole
module _ (nodes : List Node) (roots : List ℕ) (part : List Node) (ends : List ℕ) (g : IsGathered nodes roots part ends) where
  -- a node of the part, and that for which it stands
  pub part_node : (k i : ℕ) → slice_get (order_of nodes roots) k ≡ Some i →
      (n m : Node) × IsNode part k n × IsNode nodes i m × IsRenamed (order_of nodes roots) m n
  part_node k i e =
      let lt : k < length part = let w = slice_get_within (order_of nodes roots) k i e in let c = g.count in omega (arith, w, c) in
      let (n, at) = element_at part k lt in
      let r = g.renamed k n at in
      let s : r.0 ≡ i = same_Some r.0 i (sym r.2 ∙ e) in
      (n, r.1, at, subst (λ z. IsNode nodes z r.1) s r.3, r.4)

  -- it has the same sides
  part_sides : (id' id : NodeId) (sides : Sides) → slice_get (order_of nodes roots) id'.0 ≡ Some id.0 → HasSides nodes id sides → HasSides part id' sides
  part_sides id' id sides e h =
      let (n, m, at, at', ren) = part_node id'.0 id.0 e in
      let here : sides_at part id'.0 ≡ n.sides = ap (λ o. unwrap_or (option_map (λ (x : Node). x.sides) o) Scalar) at in
      let whole : sides_at nodes id.0 ≡ m.sides = ap (λ o. unwrap_or (option_map (λ (x : Node). x.sides) o) Scalar) at' in
      record { there = slice_get_within part id'.0 n at; same = here ∙ ren.same_sides ∙ sym whole ∙ h.same }

  -- ---- of a problem's roots
  module _ (o o' : NodeId) (cs cs' : List Constraint) (is : roots ≡ roots_of o cs) (is' : ends ≡ roots_of o' cs') where
    stand : StandFor (order_of nodes roots) (o'.0 ∷ sides_in cs') (o.0 ∷ sides_in cs)
    stand = subst (λ z. StandFor (order_of nodes roots) z (roots_of o cs)) is' (subst (λ z. StandFor (order_of nodes roots) ends z) is g.roots_stand)

    pub objective_kept : IsObjective nodes o → IsObjective part o'
    objective_kept h =
        let s = stand in
        let e : slice_get (order_of nodes roots) o'.0 ≡ Some o.0 = cc in
        let k = part_sides o' o (sides_at nodes o.0) e (record { there = h.there; same = refl }) in
        record { there = k.there; one_entry = ap entries_of k.same ∙ h.one_entry }

    pub constraints_kept : map demand_of cs' ≡ map demand_of cs → AreConstraints nodes cs → AreConstraints part cs'
    constraints_kept d h =
        let s = stand in
        let rest : StandFor (order_of nodes roots) (sides_in cs') (sides_in cs) = cc in
        let find = renamed_at (order_of nodes roots) cs' cs rest d in
        record {
          left = λ t c' at. let (c, at', r) = find t c' at in
              part_sides c'.left c.left (sides_of c'.shape) r.left (subst (HasSides nodes c.left) (ap (λ (x : Demand). sides_of x.shape) (sym r.demand)) (h.left t c at'));
          right = λ t c' at. let (c, at', r) = find t c' at in
              part_sides c'.right c.right (sides_of c'.shape) r.right (subst (HasSides nodes c.right) (ap (λ (x : Demand). sides_of x.shape) (sym r.demand)) (h.right t c at'));
          few = let l : length cs' ≡ length cs = sym (length-map cs' demand_of) ∙ ap length d ∙ length-map cs demand_of in let f = h.few in omega (arith, l, f);
        }

  -- ---- what is declared
  module _ (vs : List Variable) (ps : List Parameter)
      (listed : (i : ℕ) (n : Node) → has (order_of nodes roots) i ≡ true → IsNode nodes i n → IsListed vs ps n.call)
      (distinct : IsDistinct same_name (declared_names vs ps)) where
    vs' : List Variable
    vs' = filter (λ v. has_variable part v.name) vs

    ps' : List Parameter
    ps' = filter (λ q. has_parameter part q.name) ps

    pub listed_whole : (k : ℕ) (n : Node) → IsNode part k n → IsListed vs ps n.call
    listed_whole k n at =
        let r = g.renamed k n at in
        subst (IsListed vs ps) (sym r.4.same_call) (listed r.0 r.1 (has_from (order_of nodes roots) k r.0 r.2) r.3)

    left : (call : Call) (k : ℕ) (n : Node) → IsNode part k n → n.call ≡ call → IsListed vs ps call → IsListed vs' ps' call
    unfolding vs' ps'
    left (calls.Variable v) k n at e h =
        let (j, in_vs) = contains_at vs v h in
        let t = at_any (λ (x : Node). is_variable v.name x.call) part k n at (ap (is_variable v.name) e ∙ same_name-refl v.name) in
        let (i, in_left) = filter_at (λ (x : Variable). has_variable part x.name) vs j v in_vs t in
        at_contains (filter (λ (x : Variable). has_variable part x.name) vs) i v in_left
    left (calls.Parameter q) k n at e h =
        let (j, in_ps) = contains_at ps q h in
        let t = at_any (λ (x : Node). is_parameter q.name x.call) part k n at (ap (is_parameter q.name) e ∙ same_name-refl q.name) in
        let (i, in_left) = filter_at (λ (x : Parameter). has_parameter part x.name) ps j q in_ps t in
        at_contains (filter (λ (x : Parameter). has_parameter part x.name) ps) i q in_left
    left (calls.Constant x) k n at e h = tt
    left (calls.Atom m) k n at e h = tt
    left (calls.Linear l) k n at e h = tt
    left (calls.Pairing p) k n at e h = tt

    variable_of : (name : List ℕ) (call : Call) → is_variable name call ≡ true → (w : Variable) × (call ≡ calls.Variable w) × (name ≡ w.name)
    variable_of name (calls.Variable v) t = (v, refl, same_name-true name v.name t)
    variable_of name (calls.Parameter p) t = absurd (true≢false (sym t))
    variable_of name (calls.Constant x) t = absurd (true≢false (sym t))
    variable_of name (calls.Atom m) t = absurd (true≢false (sym t))
    variable_of name (calls.Linear l) t = absurd (true≢false (sym t))
    variable_of name (calls.Pairing p) t = absurd (true≢false (sym t))

    parameter_of : (name : List ℕ) (call : Call) → is_parameter name call ≡ true → (w : Parameter) × (call ≡ calls.Parameter w) × (name ≡ w.name)
    parameter_of name (calls.Variable v) t = absurd (true≢false (sym t))
    parameter_of name (calls.Parameter p) t = (p, refl, same_name-true name p.name t)
    parameter_of name (calls.Constant x) t = absurd (true≢false (sym t))
    parameter_of name (calls.Atom m) t = absurd (true≢false (sym t))
    parameter_of name (calls.Linear l) t = absurd (true≢false (sym t))
    parameter_of name (calls.Pairing p) t = absurd (true≢false (sym t))

    variable_stands : (j : ℕ) (v : Variable) → slice_get vs j ≡ Some v → has_variable part v.name ≡ true → HasCall part (calls.Variable v)
    variable_stands j v in_vs t =
        let (k, n, at, u) = any_at (λ (x : Node). is_variable v.name x.call) part t in
        let (w, e, s) = variable_of v.name n.call u in
        let l : Contains vs w = subst (IsListed vs ps) e (listed_whole k n at) in
        let (i, in_vs') = contains_at vs w l in
        let same : w ≡ v = one_name (λ (x : Variable). x.name) vs (distinct_front (map (λ (x : Variable). x.name) vs) (map (λ (x : Parameter). x.name) ps) distinct) i j w v in_vs' in_vs (sym s) in
        (k, ap (option_map (λ (x : Node). x.call)) at ∙ ap Some (e ∙ ap calls.Variable same))

    parameter_stands : (j : ℕ) (q : Parameter) → slice_get ps j ≡ Some q → has_parameter part q.name ≡ true → HasCall part (calls.Parameter q)
    parameter_stands j q in_ps t =
        let (k, n, at, u) = any_at (λ (x : Node). is_parameter q.name x.call) part t in
        let (w, e, s) = parameter_of q.name n.call u in
        let l : Contains ps w = subst (IsListed vs ps) e (listed_whole k n at) in
        let (i, in_ps') = contains_at ps w l in
        let same : w ≡ q = one_name (λ (x : Parameter). x.name) ps (distinct_back (map (λ (x : Variable). x.name) vs) (map (λ (x : Parameter). x.name) ps) distinct) i j w q in_ps' in_ps (sym s) in
        (k, ap (option_map (λ (x : Node). x.call)) at ∙ ap Some (e ∙ ap calls.Parameter same))

    pub declared_kept : problems.AreDeclared part (filter (λ v. has_variable part v.name) vs) (filter (λ q. has_parameter part q.name) ps)
    unfolding vs' ps'
    declared_kept = record {
      listed = λ k n at. left n.call k n at refl (listed_whole k n at);
      variables_stand = λ j d lt.
          let v = get_or (filter (λ (x : Variable). has_variable part x.name) vs) j d in
          let (i, at, t) = at_filter (λ (x : Variable). has_variable part x.name) vs j v (slice_get-get_or (filter (λ (x : Variable). has_variable part x.name) vs) j d lt) in
          variable_stands i v at t;
      parameters_stand = λ j d lt.
          let q = get_or (filter (λ (x : Parameter). has_parameter part x.name) ps) j d in
          let (i, at, t) = at_filter (λ (x : Parameter). has_parameter part x.name) ps j q (slice_get-get_or (filter (λ (x : Parameter). has_parameter part x.name) ps) j d lt) in
          parameter_stands i q at t;
      distinct = distinct_both (λ (x : Variable). x.name) (λ (x : Parameter). x.name) (λ (x : Variable). has_variable part x.name) (λ (x : Parameter). has_parameter part x.name) vs ps distinct;
    }
