-- Where all that reaches the variables may, the total bounds the Lagrangian.
use Rattle.std.proofs.Common.{◌≡◌, ℕ, zero, suc, ◌+◌, ◌≤◌, arith, true, false, List, [], ◌∷◌, ◌++◌, map, length, take, drop, All}
use Rattle.std.proofs.Common.{refl, sym, ap, ◌∙◌, subst, Option, Some, None, Result, Ok, Err, slice_get, pos}
use Rattle.std.specs.Prelude.{option_map}
use Rattle.std.proofs.lemmas.List.Elements.{All-head, All-tail, All-cons, All-nil, All-append}
use Rattle.std.proofs.lemmas.Option.{same_Some, slice_get-map}
use Rattle.dcx_math.specs.Rational.{ℚ, whole, ◌+ℚ◌, ◌*ℚ◌, ◌≤ℚ◌}
use Rattle.dcx_math.proofs.Ring.{reads}
use Rattle.dcx_math.proofs.Orders.{≤ℚ_refl, ≤ℚ_trans, ≤ℚ-from_≡, linear, +ℚ-≤ℚ, +ℚ-nonnegative}
use Rattle.dcx_math.proofs.Sums.{rat_sum_below-same}
use Rattle.dcx_frac.specs.declared.fraction.Frac.{Frac}
use Rattle.dcx_frac.specs.Frac.{value}
use Rattle.dcx_shape.specs.Shape.{sides_of}
use Rattle.dcx_shape.specs.Sides.{entries_of}
use Rattle.dcx_atom.specs.declared.array.Array.{Array}
use Rattle.dcx_atom.specs.Arrays.{number_at}
use Rattle.dcx_atom.specs.Entrywise.{products_from}
use Rattle.dcx_arena.specs.Nodes.{AreNodes, IsNode, call_at, args_at, sides_at, entries_in}
use Rattle.dcx_arena.proofs.Results.{same_Ok}
use Rattle.dcx_convex.specs.Nodes.{Numbers, Setting, Point}
use Rattle.dcx_convex.specs.Nodes as convex
use Rattle.dcx_convex.specs.Certificates.{times}
use Rattle.dcx_convex.proofs.DualCones.{dual}
use Rattle.dcx_convex.proofs.Signs.{first_in}
use Rattle.dcx_call.specs.declared.attribute.Variable.{Variable}
use Rattle.dcx_call.specs.declared.call.Call.{Call}
use Rattle.dcx_call.specs.declared.call.Call.TheVariants as calls
use Rattle.dcx_call.specs.Calls.{shape_of}
use Rattle.dcx_call.proofs.CallLaws.{own_is}
use Rattle.dcx_tree.specs.declared.problem.Problem.{Problem}
use Rattle.dcx_tree.specs.Nodes.{Names, Node, number_in, variable_attribute, head_of, arg_sides, convex_node, convex_nodes}
use Rattle.dcx_tree.specs.Meaning.{names_in}
use Rattle.dcx_tree.specs.Values.{array_at}
use Rattle.dcx_cert_collect.specs.declared.collected.Reached.{Reached}
use Rattle.dcx_cert_collect.specs.declared.stop.CollectStop.{CollectStop}
use Rattle.dcx_cert_collect.specs.Starts.{start_of}
use Rattle.dcx_cert_collect.specs.Multipliers.{AreDuals}
use Rattle.dcx_cert_collect.specs.Pass.{Kept, begin, or_passes, handed, with_below, with_total, counted, reached_if, node_reached, node_shares, HaveFractions, passed, step, then_on, pass_down}
use Rattle.dcx_cert_collect.specs.Laws.{table_times, reached_times, AreKnown, MayReachIn, AreSquareIn, TotalIsABound, TotalShowsAnswers}
use Rattle.dcx_cert_collect.proofs.Starting.{start_all}
use Rattle.dcx_cert_collect.proofs.Passing.{node_shape}
use Rattle.dcx_cert_collect.proofs.Points.{at_point, node_value}
use Rattle.dcx_cert_collect.proofs.Bounded.{parts, step_count, total_bounds}
use Rattle.dcx_cert_collect.proofs.Multiplied.{start_count, start_lagrangian, start_penalty}

drop_nonneg : (v r t : ℚ) → whole (pos 0) ≤ℚ r → v +ℚ r ≤ℚ t → v ≤ℚ t
drop_nonneg v r t h k = linear (v ∷ r ∷ t ∷ []) (+ℚ-≤ℚ h k) (search reads depth 30) tt

-- ---- all that is kept belongs to variables
pub record IsOfVariable (nodes : List Node) (r : Reached) : Type 0 where
  pub variable : Variable
  pub at : call_at nodes r.node.0 ≡ Some (calls.Variable variable)
  pub size : length r.coefficients ≡ entries_of (sides_of variable.shape)

pub after_below : (kept after : Kept) (more : List Reached) (r : Result (List Frac) CollectStop) → with_below kept more r ≡ Ok after → after.reached ≡ kept.reached ++ more
after_below kept after more (Ok u) e = ap (λ (k : Kept). k.reached) (sym (same_Ok {E = CollectStop} (record { below = u; reached = kept.reached ++ more; total = kept.total }) after e))
after_below kept after more (Err stop) e = cc

pub after_total : (kept after : Kept) (r : Result Frac CollectStop) → with_total kept r ≡ Ok after → after.reached ≡ kept.reached
after_total kept after (Ok z) e = ap (λ (k : Kept). k.reached) (sym (same_Ok {E = CollectStop} (record { below = kept.below; reached = kept.reached; total = z }) after e))
after_total kept after (Err stop) e = cc

module _ (nodes : List Node) (are : AreNodes shape_of nodes) where
  own_variable : (i : ℕ) (cs : List Frac) → length cs ≡ entries_of (sides_at nodes i) → All (IsOfVariable nodes) (node_reached nodes i cs)
  own_variable i cs size = by (call_at nodes i) refl
    where
      by : (o : Option Call) → call_at nodes i ≡ o → All (IsOfVariable nodes) (reached_if i o cs)
      by None at = All-nil (IsOfVariable nodes)
      by (Some (calls.Variable v)) at =
          All-cons (IsOfVariable nodes) (record { node = record { 0 = i }; coefficients = cs }) []
          (record {
            variable = v;
            at = at;
            size = size ∙ ap entries_of (sym (own_is (sides_of v.shape) (map (sides_at nodes) (args_at nodes i)) (sides_at nodes i) (node_shape nodes are i (calls.Variable v) at)));
          })
          (All-nil (IsOfVariable nodes))
      by (Some (calls.Parameter q)) at = All-nil (IsOfVariable nodes)
      by (Some (calls.Constant x)) at = All-nil (IsOfVariable nodes)
      by (Some (calls.Atom m)) at = All-nil (IsOfVariable nodes)
      by (Some (calls.Linear l)) at = All-nil (IsOfVariable nodes)
      by (Some (calls.Pairing q)) at = All-nil (IsOfVariable nodes)

  passed_variables : (values : List (Option Array)) (weights : ℕ → List Frac) (i : ℕ) (o : Option Array) (cs : List Frac) (kept after : Kept) → length cs ≡ entries_of (sides_at nodes i)
      → All (IsOfVariable nodes) kept.reached
      → passed nodes values weights i o cs kept ≡ Ok after → All (IsOfVariable nodes) after.reached
  passed_variables values weights i (Some x) cs kept after size all e =
      subst (All (IsOfVariable nodes)) (sym (after_total kept after (or_passes (products_from kept.total (counted cs x.entries))) e)) all
  passed_variables values weights i None cs kept after size all e =
      subst (All (IsOfVariable nodes)) (sym (after_below kept after (node_reached nodes i cs) (handed kept.below (node_shares nodes values i cs (weights i))) e))
      (All-append (IsOfVariable nodes) kept.reached (node_reached nodes i cs) all (own_variable i cs size))

module _ (names : Names) (nodes : List Node) (are : AreNodes shape_of nodes) (s : Setting) (values : List (Option Array)) (known : AreKnown names nodes s values) (weights : ℕ → List Frac)
    (y : Point) where
  pass_variables : (m : ℕ) → m ≤ length nodes → (kept after : Kept) → length kept.below ≡ start_of nodes m → All (IsOfVariable nodes) kept.reached → pass_down nodes values weights m kept ≡ Ok after
      → All (IsOfVariable nodes) after.reached
  pass_variables zero b kept after count all e = subst (λ (k : Kept). All (IsOfVariable nodes) k.reached) (same_Ok {E = CollectStop} kept after e) all
  pass_variables (suc m) b kept after count all e =
      by (step nodes values weights m kept) refl (λ mid k every h. pass_variables m (omega (arith, b)) mid after k every h) e
    where
      more : suc m ≡ m + 1
      more = omega arith

      counted_more : length kept.below ≡ start_of nodes (m + 1)
      counted_more = count ∙ ap (start_of nodes) more

      by : (r : Result Kept CollectStop) → step nodes values weights m kept ≡ r →
          ((mid : Kept) → length mid.below ≡ start_of nodes m → All (IsOfVariable nodes) mid.reached → pass_down nodes values weights m mid ≡ Ok after → All (IsOfVariable nodes) after.reached) →
          then_on nodes values weights r (pass_down nodes values weights m) ≡ Ok after → All (IsOfVariable nodes) after.reached
      by (Ok mid) is rest h =
          rest mid (step_count names nodes are s values known y weights m (omega (arith, b)) kept mid counted_more is)
          (passed_variables nodes are values weights m (array_at values m) (drop (start_of nodes m) kept.below)
          (record { below = take (start_of nodes m) kept.below; reached = kept.reached; total = kept.total }) mid
          (parts names nodes are s values known y m (omega (arith, b)) kept.below counted_more).1 all is) h
      by (Err stop) is rest h = cc

  -- ---- what reaches a variable times its value is at least 0, at a point of the domain
  module _ (squares : AreSquareIn nodes) (domain : convex.IsInDomain (convex_nodes names nodes) y) where
    node_of : (i : ℕ) (call : Call) → call_at nodes i ≡ Some call → (n : Node) × IsNode nodes i n × (n.call ≡ call)
    node_of i call at = by (slice_get nodes i) refl at
      where
        by : (o : Option Node) → slice_get nodes i ≡ o → option_map (λ (n : Node). n.call) o ≡ Some call → (n : Node) × IsNode nodes i n × (n.call ≡ call)
        by None h e = cc
        by (Some n) h e = (n, h, same_Some n.call call e)

    one_nonneg : (r : Reached) → IsOfVariable nodes r → MayReachIn nodes r → whole (pos 0) ≤ℚ times (length r.coefficients) (number_at r.coefficients) (at_point names nodes are s y r.node.0)
    one_nonneg r of may =
        let v = of.variable in
        let i = r.node.0 in
        let (n, at, same) = node_of i (calls.Variable v) of.at in
        let sides = sides_of v.shape in
        let x = y (number_in names.variables v.name) in
        let in_domain = domain i (convex_node names nodes n) (slice_get-map (convex_node names nodes) nodes i ∙ ap (option_map (convex_node names nodes)) at) in
        let keeps = subst (λ c. convex.VariableKeeps y (head_of names c (arg_sides nodes n) n.sides)) same in_domain in
        let told = node_value names nodes are s y i n at ∙ ap (λ c. convex.value_by s y (head_of names c (arg_sides nodes n) n.sides) (map (at_point names nodes are s y) n.args)) same in
        ≤ℚ_trans (dual (variable_attribute v.whole v.attribute) sides (number_at r.coefficients) (squares i v of.at) (may v of.at) x keeps)
        (≤ℚ-from_≡ (rat_sum_below-same (entries_of sides) _ _ (λ j b. ap (λ z. number_at r.coefficients j *ℚ z) (sym (ap (λ (w : Numbers). w j) told ∙ first_in (entries_of sides) x j b)))
        ∙ ap (λ k. times k (number_at r.coefficients) (at_point names nodes are s y i)) (sym of.size)))

    all_nonneg : (rs : List Reached) → All (IsOfVariable nodes) rs → All (MayReachIn nodes) rs → whole (pos 0) ≤ℚ reached_times rs (at_point names nodes are s y)
    all_nonneg [] of may = ≤ℚ_refl _
    all_nonneg (r ∷ rs) of may =
        +ℚ-nonnegative (one_nonneg r (All-head (IsOfVariable nodes) r rs of) (All-head (MayReachIn nodes) r rs may))
        (all_nonneg rs (All-tail (IsOfVariable nodes) r rs of) (All-tail (MayReachIn nodes) r rs may))

    pub below_total : HaveFractions nodes values weights → (table : List Frac) → length table ≡ entries_in nodes → (reached : List Reached) (total : Frac) →
        pass_down nodes values weights (length nodes) (begin table) ≡ Ok (record { below = []; reached = reached; total = total }) → All (MayReachIn nodes) reached
        → value total ≤ℚ table_times nodes table (at_point names nodes are s y)
    below_total fractions table count reached total e may =
        drop_nonneg _ _ _
        (all_nonneg reached (pass_variables (length nodes) (omega arith) (begin table) (record { below = []; reached = reached; total = total }) (count ∙ sym (start_all nodes))
        (All-nil (IsOfVariable nodes)) e) may)
        (total_bounds names nodes are s values known y weights fractions table count reached total e)

pub totals_are_bounds : (p : Problem) (s : Setting) (values : List (Option Array)) (weights : ℕ → List Frac) (duals : List Array) → AreKnown (names_in p) p.tree s values
    → HaveFractions p.tree values weights → AreSquareIn p.tree
    → AreDuals p duals → TotalIsABound p s values weights duals
totals_are_bounds p s values weights duals known fractions squares are = record {
  lagrangian = λ table first reached total e may y domain. (
      ≤ℚ_trans (below_total (names_in p) p.tree p.nodes s values known weights y squares domain fractions table (start_count p duals true table first) reached total e may)
      (≤ℚ-from_≡ (start_lagrangian p duals are (at_point (names_in p) p.tree p.nodes s y) table first)));
  penalty = λ table first reached total e may y domain. (
      ≤ℚ_trans (below_total (names_in p) p.tree p.nodes s values known weights y squares domain fractions table (start_count p duals false table first) reached total e may)
      (≤ℚ-from_≡ (start_penalty p duals are (at_point (names_in p) p.tree p.nodes s y) table first)));
}

pub totals_show_answers : (p : Problem) (s : Setting) (values : List (Option Array)) (weights : ℕ → List Frac) (duals : List Array) → AreKnown (names_in p) p.tree s values
    → HaveFractions p.tree values weights → AreSquareIn p.tree
    → AreDuals p duals → TotalShowsAnswers p s values weights duals
totals_show_answers p s values weights duals known fractions squares are =
    let bounds = totals_are_bounds p s values weights duals known fractions squares are in
    record {
      optimal = λ table first reached total e may v x feasible at signs below. record {
        feasible = feasible;
        value = at;
        multipliers = signs;
        bound = λ y domain. ≤ℚ_trans below (bounds.lagrangian table first reached total e may y domain);
      };
      infeasible = λ table first reached total e may gap positive signs below. record {
        positive = positive;
        multipliers = signs;
        bound = λ y domain. ≤ℚ_trans below (bounds.penalty table first reached total e may y domain);
      };
    }
