-- What the bound checks show.
use Rattle.std.proofs.Common.{◌≡◌, ℕ, Bool, true, false, List, [], length, get_or, Option, Some, option_map, Result, Ok, Err, refl, sym, ap, ◌∙◌, subst, pos}
use Rattle.std.specs.List.{slice_get, All}
use Rattle.std.proofs.Math.Logic.{∥∥₁_elim}
use Rattle.std.proofs.lemmas.List.{length-map}
use Rattle.std.proofs.lemmas.Option.{same_Some, slice_get-map, slice_get-get_or, slice_get_within, get_or_from_slice_get}
use Rattle.dcx_math.specs.Rational.{whole, ◌<ℚ◌, ◌≤ℚ◌}
use Rattle.dcx_math.proofs.Orders.{≡ℚ_prop, ≤ℚ_prop}
use Rattle.dcx_frac.specs.declared.fraction.Frac.{Frac}
use Rattle.dcx_frac.specs.Frac.{value}
use Rattle.dcx_shape.specs.declared.shape.Sides.{Sides}
use Rattle.dcx_shape.specs.declared.shape.Shape.{Shape}
use Rattle.dcx_shape.specs.Shape.{sides_of}
use Rattle.dcx_atom.specs.declared.array.Array.{Array}
use Rattle.dcx_atom.specs.Arrays.{number_at, numbers_of}
use Rattle.dcx_point.specs.Pairs.{Pairs}
use Rattle.dcx_lines.specs.Shown.{constraints_of}
use Rattle.dcx_call.specs.declared.attribute.Attribute.{Attribute}
use Rattle.dcx_call.specs.declared.attribute.Attribute.TheVariants as attributes
use Rattle.dcx_call.specs.declared.attribute.Whole.{Whole}
use Rattle.dcx_call.specs.declared.attribute.Whole.TheVariants.{Not, Integer, Boolean}
use Rattle.dcx_call.specs.declared.attribute.Variable.{Variable}
use Rattle.dcx_call.specs.Attributes.{counted, IsSquareFor, IsSquare}
use Rattle.dcx_convex.specs.Nodes as convex
use Rattle.dcx_convex.specs.Nodes.{Numbers, Point}
use Rattle.dcx_convex.specs.Answers.{AreMultipliers}
use Rattle.dcx_convex.specs.Certificates.{HasSides, MayReach}
use Rattle.dcx_tree.specs.declared.constraint.Constraint.{Constraint}
use Rattle.dcx_tree.specs.declared.problem.Problem.{Problem}
use Rattle.dcx_tree.specs.Kept.{IsSquareFor-prop}
use Rattle.dcx_tree.specs.Nodes.{attribute_of, variable_attribute}
use Rattle.dcx_tree.specs.Meaning.{convex_problem, setting_of, objective_at, IsAccepted, IsFeasible, IsOptimal, IsInfeasible}
use Rattle.dcx_unknowns.specs.Unknowns.{demanded, sides_in}
use Rattle.dcx_cert_outline.specs.Drawn.{problem_outline}
use Rattle.dcx_cert_collect.specs.declared.collected.Reached.{Reached}
use Rattle.dcx_cert_collect.specs.declared.stop.CollectStop.{CollectStop}
use Rattle.dcx_cert_collect.specs.Laws.{MayReachIn, AreSquareIn, TotalShowsAnswers}
use Rattle.dcx_cert_collect.specs.Multipliers.{AreDuals}
use Rattle.dcx_cert_collect.specs.Pass.{Kept, begin, pass_down, HaveFractions}
use Rattle.dcx_cert_collect.proofs.Final.{totals_show_answers}
use Rattle.dcx_cert_sections.specs.declared.weights.NodeWeights.{NodeWeights}
use Rattle.dcx_cert_bound.specs.Fixed.{AreFixedValues}
use Rattle.dcx_cert_bound.specs.Weights.{weights_at}
use Rattle.dcx_cert_bound.specs.Collecting.{collected}
use Rattle.dcx_cert_bound.specs.Variables.{reaching, variable_check, variables_check}
use Rattle.dcx_cert_bound.specs.Checks.{shown_by, shown_with, bound_checks}
use Rattle.dcx_cert_bound.specs.Laws.{BoundsShowAnswers}
use Rattle.dcx_cert_bound.proofs.EachEntry.{AllPass, may_reach}
use Rattle.dcx_cert_bound.proofs.Falling.{AreFalling, IsCollected, is_collected, none_left}
use Rattle.dcx_cert_bound.proofs.Reaching.{listed, reaching_is}
use Rattle.dcx_cert_bound.proofs.Sides.{are_known}

-- ---- multipliers are as many and of the shapes of the constraints
pub duals_are : (p : Problem) (duals : List Array) → constraints_of duals ≡ (problem_outline p).constraints → AreDuals p duals
duals_are p duals e = record {
  count = sym (length-map duals (λ a. a.shape)) ∙ ap length e ∙ length-map p.constraints (λ c. c.shape);
  shaped = λ k c x at there. ap sides_of (same_Some x.shape c.shape (
      sym (slice_get-map (λ (a : Array). a.shape) duals k ∙ ap (option_map (λ (a : Array). a.shape)) there) ∙ ap (λ (xs : List Shape). slice_get xs k) e
      ∙ slice_get-map (λ (d : Constraint). d.shape) p.constraints k ∙ ap (option_map (λ (d : Constraint). d.shape)) at));
}

-- ---- attributes
pub counted_is : (w : Whole) (a : Attribute) → attribute_of (counted w a) ≡ variable_attribute w a
counted_is Not a = refl
counted_is Integer a = refl
counted_is Boolean a = refl

square_has : (a : Attribute) (s : Sides) → IsSquareFor a s → HasSides (attribute_of a) s
square_has attributes.Free s h = tt
square_has attributes.Nonneg s h = tt
square_has attributes.Nonpos s h = tt
square_has attributes.Symmetric s h = h
square_has attributes.Diag s h = tt

may_reach_prop : (a : convex.Attribute) (s : Sides) (c : Numbers) → IsProp (MayReach a s c)
may_reach_prop convex.Free s c = hlevel ≡ℚ_prop
may_reach_prop convex.Nonneg s c = hlevel ≤ℚ_prop
may_reach_prop convex.Nonpos s c = hlevel ≤ℚ_prop
may_reach_prop convex.Symmetric s c = hlevel ≡ℚ_prop
may_reach_prop convex.Diag s c = hlevel ≡ℚ_prop

module _ (p : Problem) where
  square_at : (k : ℕ) (v : Variable) → slice_get p.variables k ≡ Some v → IsSquare v
  square_at k v at = subst IsSquare (get_or_from_slice_get p.variables k v v at) (p.squares k v (slice_get_within p.variables k v at))

  squares_in : AreSquareIn p.tree
  squares_in i v c =
      subst (λ a. HasSides a (sides_of v.shape)) (counted_is v.whole v.attribute)
      (square_has (demanded v) (sides_in v) (∥∥₁_elim p.declared (IsSquareFor-prop (demanded v) (sides_in v)) (λ d. let (k, at) = listed p d i v c in square_at k v at)))

  -- ---- what reaches the variables may
  module _ (reached : List Reached) (falling : AreFalling reached) (passes : (variables_check p reached).passes) where
    may_at : (k : ℕ) (r : Reached) → slice_get reached k ≡ Some r → MayReachIn p.tree r
    may_at k r at v c = ∥∥₁_elim p.declared (may_reach_prop (variable_attribute v.whole v.attribute) (sides_of v.shape) (number_at r.coefficients)) (λ d.
        let (m, there) = listed p d r.node.0 v c in
        let all : AllPass (demanded v) (sides_in v) (reaching p.tree reached v.name) m =
        subst (λ o. (variable_check p.tree reached m o).passes) there (passes m (slice_get_within p.variables m v there)) in
        subst (λ a. MayReach a (sides_of v.shape) (number_at r.coefficients)) (counted_is v.whole v.attribute)
        (subst (λ cs. MayReach (attribute_of (demanded v)) (sides_in v) (number_at cs)) (reaching_is p d reached falling k r at v c)
        (may_reach (sides_in v) (reaching p.tree reached v.name) m (demanded v) (square_at m v there) all)))

    pub all_may : All (MayReachIn p.tree) reached
    all_may k d b = may_at k (get_or reached k d) (slice_get-get_or reached k d b)

-- ---- what is collected shows an answer
module _ (p : Problem) (setting : Pairs) (duals : List Array) (weights : List NodeWeights) (ok : IsAccepted p) (shapes : constraints_of duals ≡ (problem_outline p).constraints) where
  -- the table at the start, what is kept, and that all of it may reach the variables
  record IsShown (with_objective : Bool) (stated : Frac) (values : List (Option Array)) : Type 0 where
    kept : Kept
    all : IsCollected p values duals (weights_at weights) with_objective kept
    pass : pass_down p.tree values (weights_at weights) (length p.tree) (begin all.table) ≡ Ok (record { below = []; reached = kept.reached; total = kept.total })
    may : All (MayReachIn p.tree) kept.reached
    fractions : HaveFractions p.tree values (weights_at weights)
    bound : value stated ≤ℚ value kept.total

  shown : (with_objective : Bool) (stated : Frac) (values : List (Option Array)) → (shown_with p duals weights with_objective stated values).passes → IsShown with_objective stated values
  shown with_objective stated values h = by (collected p values duals (weights_at weights) with_objective) refl h
    where
      emptied : (kept : Kept) → kept.below ≡ [] → ◌≡◌ {A = Kept} kept (record { below = []; reached = kept.reached; total = kept.total })
      emptied kept e = λ j. record { below = e j; reached = kept.reached; total = kept.total }

      by : (r : Result Kept CollectStop) → collected p values duals (weights_at weights) with_objective ≡ r → (shown_by p values (weights_at weights) stated r).passes
          → IsShown with_objective stated values
      by (Err stop) is k = absurd k
      by (Ok kept) is k =
          let all = is_collected p values duals (weights_at weights) with_objective kept is in
          record {
            kept = kept;
            all = all;
            pass = all.pass ∙ ap Ok (emptied kept (none_left p.tree values (weights_at weights) kept all.to));
            may = all_may p kept.reached all.to.falling k.1.0;
            fractions = k.0;
            bound = k.1.1;
          }

  laws : (values : List (Option Array)) → AreFixedValues p setting values → HaveFractions p.tree values (weights_at weights)
      → TotalShowsAnswers p (setting_of p setting) values (weights_at weights) duals
  laws values are fractions = totals_show_answers p (setting_of p setting) values (weights_at weights) duals (are_known p setting values are ok) fractions (squares_in p) (duals_are p duals shapes)

  pub optimal : (stated : Frac) → (bound_checks p setting duals weights true stated).passes → (x : Point) → IsFeasible p (setting_of p setting) x
      → objective_at p (setting_of p setting) x ≡ value stated
      → AreMultipliers (convex_problem p) (numbers_of duals) → IsOptimal p (setting_of p setting) (value stated) x (numbers_of duals)
  optimal stated h x feasible at signs =
      let (values, are, k) = h.1 in
      let s = shown true stated values k in
      (laws values are s.fractions).optimal s.all.table s.all.start s.kept.reached s.kept.total s.pass s.may (value stated) x feasible at signs s.bound

  pub infeasible : (gap : Frac) → (bound_checks p setting duals weights false gap).passes → whole (pos 0) <ℚ value gap → AreMultipliers (convex_problem p) (numbers_of duals) →
      IsInfeasible p (setting_of p setting) (numbers_of duals) (value gap)
  infeasible gap h above signs =
      let (values, are, k) = h.1 in
      let s = shown false gap values k in
      (laws values are s.fractions).infeasible s.all.table s.all.start s.kept.reached s.kept.total s.pass s.may (value gap) above signs s.bound

pub bounds_show : BoundsShowAnswers
bounds_show p setting duals weights ok shapes = record { optimal = optimal p setting duals weights ok shapes; infeasible = infeasible p setting duals weights ok shapes }
