-- Where multipliers and weights bound the program, the bound checks fail only with an operation that passes.
use Rattle.std.proofs.Common.{◌≡◌, ◌≢◌, inl, inr, ℕ, ◌<◌, Bool, true, false, List, [], map, length, Option, Some, None, Result, Ok, Err, slice_get, refl, sym, ap, ◌∙◌, subst, pos}
use Rattle.std.specs.Prelude.{option_map, if◌then◌else◌}
use Rattle.std.proofs.Math.Logic.{∥∥₁_elim}
use Rattle.std.proofs.lemmas.Option.{slice_get-map, slice_get_within, get_or_from_slice_get}
use Rattle.dcx_math.specs.Rational.{ℚ, whole, rat_eq, ◌+ℚ◌, ◌≤ℚ◌}
use Rattle.dcx_math.proofs.Ratios.{IsTrue-rat_eq}
use Rattle.dcx_math.proofs.Orders.{≤ℚ_trans, ≤ℚ-from_≡, <ℚ-not, +ℚ_idr}
use Rattle.dcx_frac.specs.declared.fraction.Frac.{Frac}
use Rattle.dcx_frac.specs.declared.fraction.Passes.{Passes}
use Rattle.dcx_frac.specs.Frac.{value}
use Rattle.dcx_frac.specs.Results.{quotient_of}
use Rattle.dcx_shape.specs.declared.shape.Sides.{Sides}
use Rattle.dcx_shape.specs.Sides.{entries_of}
use Rattle.dcx_atom.specs.declared.array.Array.{Array}
use Rattle.dcx_atom.specs.declared.stops.ValueStop.{ValueStop}
use Rattle.dcx_atom.specs.declared.stops.ValueStop.TheVariants as value_stops
use Rattle.dcx_atom.specs.Formed.{frac_at}
use Rattle.dcx_affine.specs.declared.pairing.Pairing.TheVariants.{Times, MatTimes, Over}
use Rattle.dcx_point.specs.Pairs.{Pairs}
use Rattle.dcx_arena.specs.Nodes.{IsNode}
use Rattle.dcx_convex.specs.Nodes as convex
use Rattle.dcx_convex.specs.Nodes.{Numbers, Point, arguments, zeros}
use Rattle.dcx_call.specs.declared.call.Call.{Call}
use Rattle.dcx_call.specs.declared.call.Call.TheVariants as calls
use Rattle.dcx_call.specs.declared.attribute.Variable.{Variable}
use Rattle.dcx_call.specs.Attributes.{IsSquare}
use Rattle.dcx_convex.specs.Certificates.{IsInDualCone}
use Rattle.dcx_atom.specs.Arrays.{number_at}
use Rattle.dcx_call.specs.Forming.{or_passes, divided}
use Rattle.dcx_call.specs.Values.{given_by, entry_formed}
use Rattle.dcx_tree.specs.declared.problem.Problem.{Problem}
use Rattle.dcx_tree.specs.Nodes.{Node, arg_sides, convex_node, convex_nodes, head_of, source_value}
use Rattle.dcx_tree.specs.Meaning.{names_in, setting_of, point_of, IsAccepted, IsInDomain, Fits}
use Rattle.dcx_unknowns.specs.Own.{is_own}
use Rattle.dcx_unknowns.specs.Unknowns.{demanded, sides_in}
use Rattle.dcx_cert_collect.specs.declared.collected.Reached.{Reached}
use Rattle.dcx_cert_collect.specs.declared.stop.CollectStop.{CollectStop}
use Rattle.dcx_cert_collect.specs.declared.stop.CollectStop.TheVariants as collect_stops
use Rattle.dcx_cert_collect.specs.Multipliers.{start_table, AreDuals}
use Rattle.dcx_cert_collect.specs.Pass.{Kept, then_on, pass_down}
use Rattle.dcx_cert_collect.specs.Laws.{table_times, reached_times}
use Rattle.dcx_cert_collect.proofs.Multiplied.{start_count, starts_are_lagrangians}
use Rattle.dcx_cert_sections.specs.declared.weights.NodeWeights.{NodeWeights}
use Rattle.dcx_answer.specs.declared.cert_fault.CertFault.{CertFault}
use Rattle.dcx_cert_sections.specs.Checks.{Check}
use Rattle.dcx_cert_values.specs.Forming as forming
use Rattle.dcx_cert_bound.specs.Fixed.{AreFixedValues}
use Rattle.dcx_cert_bound.specs.Weights.{weights_at}
use Rattle.dcx_cert_bound.specs.Collecting.{begun, collected, fault_of}
use Rattle.dcx_cert_bound.specs.Variables.{reaching, reaching_entry, number_check, asked, entry_check, variable_check, variables_check}
use Rattle.dcx_cert_bound.specs.Checks.{shown_by}
use Rattle.dcx_cert_bound.proofs.Falling.{AreFalling, is_collected}
use Rattle.dcx_cert_bound.proofs.Settled.{clash}
use Rattle.dcx_cert_bound.proofs.Shown.{counted_is}
use Rattle.dcx_cert_bound.proofs.Sides.{are_known}
use Rattle.dcx_cert_complete.specs.Families.{variable_numbers, rows_below}
use Rattle.dcx_cert_complete.specs.Bounded.{IsWide, started, BoundsPrograms}
use Rattle.dcx_cert_complete.specs.Laws.{BoundsFailWide}
use Rattle.dcx_cert_complete.proofs.Handed.{IsPassing}
use Rattle.dcx_cert_complete.proofs.Passed.{IsEnd, passes_down}
use Rattle.dcx_call.specs.Atoms.{atom_lawful}
use Rattle.dcx_cert_complete.proofs.Cones.{entry_may}
use Rattle.dcx_cert_complete.proofs.Alone.{reached_cone, zeros_in, all_zero}

-- ---- values are formed, or an operation passes
formed_stop : (j : ℕ) (r : Result Frac Passes) (stop : ValueStop) → or_passes j r ≡ Err stop → (passes : Passes) × (stop ≡ value_stops.Passes j passes)
formed_stop j (Ok x) stop e = cc
formed_stop j (Err passes) stop e = let same : value_stops.Passes j passes ≡ stop = cc in (passes, sym same)

divided_stop : (j : ℕ) (x y : ℚ) (stop : ValueStop) → y ≢ whole (pos 0) → divided j x y ≡ Err stop → (passes : Passes) × (stop ≡ value_stops.Passes j passes)
divided_stop j x y stop n e = by (rat_eq y (whole (pos 0))) refl e
  where
    by : (t : Bool) → rat_eq y (whole (pos 0)) ≡ t → (if t then Err (value_stops.ZeroDivisor j) else or_passes j (quotient_of (frac_at x) (frac_at y))) ≡ Err stop
        → (passes : Passes) × (stop ≡ value_stops.Passes j passes)
    by true is h = absurd (n ((IsTrue-rat_eq y (whole (pos 0))).0 is))
    by false is h = formed_stop j (quotient_of (frac_at x) (frac_at y)) stop h

module _ (p : Problem) (setting point : Pairs) (fits : Fits p (setting_of p setting)) where
  entry_stop : (call : Call) (ss : List Sides) (a : ℕ → Numbers) (j : ℕ) (stop : ValueStop) → (call ≡ calls.Pairing Over → a 1 j ≢ whole (pos 0)) →
      entry_formed call (given_by setting) (given_by point) ss a j ≡ Err stop → (passes : Passes) × (stop ≡ value_stops.Passes j passes)
  entry_stop (calls.Variable v) ss a j stop n e = cc
  entry_stop (calls.Parameter q) ss a j stop n e = cc
  entry_stop (calls.Constant x) ss a j stop n e = cc
  entry_stop (calls.Atom m) ss a j stop n e = formed_stop j _ stop e
  entry_stop (calls.Linear l) ss a j stop n e = formed_stop j _ stop e
  entry_stop (calls.Pairing Times) ss a j stop n e = formed_stop j _ stop e
  entry_stop (calls.Pairing MatTimes) ss a j stop n e = formed_stop j _ stop e
  entry_stop (calls.Pairing Over) ss a j stop n e = divided_stop j (a 0 j) (a 1 j) stop (n refl) e

  pub divisor_nonzero : (i : ℕ) (n : Node) → IsNode p.tree i n → n.call ≡ calls.Pairing Over → (j : ℕ) → j < entries_of n.sides
      → arguments (map (source_value p.tree (names_in p) setting point) n.args) 1 j ≢ whole (pos 0)
  divisor_nonzero i n at is j b =
      let names = names_in p in
      let node = convex_node names p.tree n in
      let there : convex.IsNode (convex_nodes names p.tree) i node = slice_get-map (convex_node names p.tree) p.tree i ∙ ap (option_map (convex_node names p.tree)) at in
      subst (λ call. convex.HasNoZeroDivisor (head_of names call (arg_sides p.tree n) n.sides) (map (convex.value_at (convex_nodes names p.tree) (setting_of p setting) (point_of p point)) n.args)) is
      (fits.divisors (point_of p point) i node there) j b

  -- a node that isn't formed, and the first of some nodes that isn't
  pub unformed_wide : (i : ℕ) (f : CertFault) → forming.IsUnformedAt p setting point i f → IsWide f
  unformed_wide i f here =
      let first = here.here in
      let (passes, is) = entry_stop here.node.call (arg_sides p.tree here.node) (arguments (map (source_value p.tree (names_in p) setting point) here.node.args)) first.entry here.stop
      (λ same. divisor_nonzero i here.node here.there same first.entry first.within) first.here in
      (passes, here.told ∙ ap (forming.fault_of i) is)

  pub forming_wide : (Q : ℕ → Type 0) (f : CertFault) → (forming.forming_where p setting point Q).fails f → IsWide f
  forming_wide Q f h = unformed_wide h.position f h.here.1

-- ---- attributes
square_at : (p : Problem) (k : ℕ) (v : Variable) → slice_get p.variables k ≡ Some v → IsSquare v
square_at p k v at = subst IsSquare (get_or_from_slice_get p.variables k v v at) (p.squares k v (slice_get_within p.variables k v at))

-- ---- what reaches the variables may, or a sum passes
asked_wide : (b : Bool) (check : Check) (f : CertFault) → (asked b check).fails f → (b ≡ true) × check.fails f
asked_wide true check f h = (refl, h)
asked_wide false check f h = absurd h

module _ (p : Problem) (reached : List Reached) (falling : AreFalling reached) (u total : ℚ)
    (bound : (x : Point) → IsInDomain p x → u ≤ℚ total +ℚ reached_times reached (variable_numbers (names_in p) p.tree x)) where
  module _ (k : ℕ) (v : Variable) (at : slice_get p.variables k ≡ Some v) where
    abbrev cs : List Frac
    cs = reaching p.tree reached v.name

    number_wide : (e : ℕ) → e < entries_of (sides_in v) → is_own (demanded v) (sides_in v) e ≡ true → (f : CertFault) (r : Result Frac Passes) →
        reaching_entry (demanded v) (sides_in v) cs e ≡ r → (number_check (demanded v) k e r).fails f → IsWide f
    number_wide e b own f (Err passes) is h = (passes, h)
    number_wide e b own f (Ok x) is h =
        let none : IsProp ⊥ = hlevel in
        absurd (∥∥₁_elim p.declared none (λ d. clash (demanded v) (value x)
        (entry_may (sides_in v) cs (demanded v) (square_at p k v at)
        (subst (λ a. IsInDualCone a (sides_in v) (number_at cs)) (sym (counted_is v.whole v.attribute)) (reached_cone p d k v at reached falling u total bound)) e b own x is) h.0))

    entry_wide : (e : ℕ) → e < entries_of (sides_in v) → (f : CertFault) → (entry_check (demanded v) (sides_in v) cs k e).fails f → IsWide f
    entry_wide e b f h =
        let both = asked_wide (is_own (demanded v) (sides_in v) e) (number_check (demanded v) k e (reaching_entry (demanded v) (sides_in v) cs e)) f h in
        number_wide e b both.0 f (reaching_entry (demanded v) (sides_in v) cs e) refl both.1

  variables_wide : (f : CertFault) → (variables_check p reached).fails f → IsWide f
  variables_wide f h = by (slice_get p.variables h.position) refl h.here
    where
      by : (o : Option Variable) → slice_get p.variables h.position ≡ o → (variable_check p.tree reached h.position o).fails f → IsWide f
      by None e k = absurd k
      by (Some v) e k = entry_wide h.position v e k.position k.there f k.here

-- ---- all checks
module _ (p : Problem) (setting : Pairs) (duals : List Array) (weights : List NodeWeights) (with_objective : Bool) (stated : Frac) (ok : IsAccepted p)
    (fits : Fits p (setting_of p setting)) (are : AreDuals p duals)
    (bounded : (values : List (Option Array)) → AreFixedValues p setting values → BoundsPrograms p (setting_of p setting) duals (weights_at weights) with_objective (value stated) values)
    (values : List (Option Array)) (fixed : AreFixedValues p setting values) where
  abbrev s : convex.Setting
  s = setting_of p setting

  abbrev End : Result Kept CollectStop → Type 0
  End r = IsEnd (names_in p) p.tree p.nodes s values (are_known p setting values fixed ok) (weights_at weights) (IsInDomain p) (value stated) (bounded values fixed).families
      (λ k. zeros) (zeros_in p) (bounded values fixed).weighed (λ m. (atom_lawful m).fraction_slopes) r

  table_is : (b : Bool) (table : List Frac) → start_table b p duals ≡ Ok table → (g : ℕ → Numbers) → table_times p.tree table g ≡ started b p duals g
  table_is true table e g = (starts_are_lagrangians p duals are).lagrangian table e g
  table_is false table e g = (starts_are_lagrangians p duals are).penalty table e g

  ended : End (collected p values duals (weights_at weights) with_objective)
  ended = by (start_table with_objective p duals) refl
    where
      by : (r : Result (List Frac) Passes) → start_table with_objective p duals ≡ r
          → End (then_on p.tree values (weights_at weights) (begun r) (pass_down p.tree values (weights_at weights) (length p.tree)))
      by (Err passes) e = tt
      by (Ok table) e =
          passes_down (names_in p) p.tree p.nodes s values (are_known p setting values fixed ok) (weights_at weights) (IsInDomain p) (value stated) (bounded values fixed).families
          (λ k. zeros) (zeros_in p) (bounded values fixed).weighed (λ m. (atom_lawful m).fraction_slopes)
          table (start_count p duals with_objective table e)
          (λ x d t filled g family.
          subst (λ q. value stated ≤ℚ q +ℚ rows_below p.tree values (weights_at weights) (length p.tree) g t) (sym (table_is with_objective table e g))
          ((bounded values fixed).bound x d t filled g family))

  stop_wide : (stop : CollectStop) → IsPassing stop → IsWide (fault_of stop)
  stop_wide (collect_stops.Slope node entry told found) h = absurd h
  stop_wide (collect_stops.Passes passes) h = (passes, refl)
  stop_wide collect_stops.Memory h = absurd h

  -- the total is at least what is stated
  total_bound : (kept : Kept) → End (Ok kept) → value stated ≤ℚ value kept.total
  total_bound kept h = ≤ℚ_trans (h (λ k. zeros) (zeros_in p)) (≤ℚ-from_≡ (ap (λ z. value kept.total +ℚ z) (all_zero p kept.reached) ∙ +ℚ_idr _))

  shown_wide : (r : Result Kept CollectStop) → collected p values duals (weights_at weights) with_objective ≡ r → End r → (f : CertFault)
      → (shown_by p values (weights_at weights) stated r).fails f → IsWide f
  shown_wide (Err stop) e end f h = let (passes, is) = stop_wide stop end in (passes, h ∙ is)
  shown_wide (Ok kept) e end f (inl h) = absurd h
  shown_wide (Ok kept) e end f (inr (fractions, inl h)) =
      variables_wide p kept.reached (is_collected p values duals (weights_at weights) with_objective kept e).to.falling (value stated) (value kept.total) end f h
  shown_wide (Ok kept) e end f (inr (fractions, inr (may, h))) = absurd (<ℚ-not h.0 (total_bound kept end))

pub bounds_fail_wide : BoundsFailWide
bounds_fail_wide p setting duals weights with_objective stated ok fits are bounded f (inl h) = forming_wide p setting [] fits (forming.IsFixedNode p) f h
bounds_fail_wide p setting duals weights with_objective stated ok fits are bounded f (inr (formed, (values, fixed, h))) =
    shown_wide p setting duals weights with_objective stated ok fits are bounded values fixed (collected p values duals (weights_at weights) with_objective) refl
    (ended p setting duals weights with_objective stated ok fits are bounded values fixed) f h
