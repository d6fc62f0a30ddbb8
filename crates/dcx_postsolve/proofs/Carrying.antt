-- Answers at points that are alike and at multipliers that are the same.
use Rattle.std.proofs.Common.{◌≡◌, ℕ, zero, suc, ◌<◌, false, List, [], ◌∷◌, map, Option, Some, None, refl, sym, ap, ap₂, ◌∙◌, subst, pos}
use Rattle.std.specs.Prelude.{slice_get}
use Rattle.std.proofs.Math.Path.{fun_ext}
use Rattle.std.proofs.lemmas.Option.{get_or_from_slice_get, slice_get_within}
use Rattle.dcx_math.specs.Rational.{ℚ, whole, ◌+ℚ◌, ◌-ℚ◌, ◌*ℚ◌, ◌≤ℚ◌}
use Rattle.dcx_math.specs.Sums.{IsNonnegative}
use Rattle.dcx_math.proofs.Sums.{rat_sum_below-same}
use Rattle.dcx_math.proofs.Lists.{mapped}
use Rattle.dcx_shape.specs.declared.shape.Sides.{Sides}
use Rattle.dcx_shape.specs.Sides.{rows_of, cols_of, entries_of}
use Rattle.dcx_shape.specs.Places.{HasEntry, row_place}
use Rattle.dcx_shape.proofs.Entries.{place_below}
use Rattle.dcx_atom.specs.Signs.{shifted}
use Rattle.dcx_convex.specs.Nodes as convex
use Rattle.dcx_convex.specs.Nodes.{Numbers, Point, Setting, zeros, Keeps, value_by, told, told_within}
use Rattle.dcx_convex.specs.Problems as problems
use Rattle.dcx_convex.specs.Answers as answers
use Rattle.dcx_convex.specs.Answers.{Multipliers, MayMultiply, weighed}
use Rattle.dcx_call.specs.declared.attribute.Attribute.{Attribute}
use Rattle.dcx_call.specs.declared.attribute.Attribute.TheVariants as attributes
use Rattle.dcx_call.specs.declared.attribute.Whole.{Whole}
use Rattle.dcx_call.specs.declared.attribute.Whole.TheVariants.{Not, Integer, Boolean}
use Rattle.dcx_call.specs.declared.attribute.Variable.{Variable}
use Rattle.dcx_call.specs.Attributes.{counted, IsSquareFor}
use Rattle.dcx_tree.specs.declared.problem.Problem.{Problem}
use Rattle.dcx_tree.specs.Nodes.{attribute_of, arg_sides, convex_node, variable_attribute}
use Rattle.dcx_tree.specs.Meaning.{names_in, convex_problem, convex_constraint, value_at, objective_at, sense_of, IsInDomain, IsFeasible, IsOptimal, IsInfeasible, IsUnbounded}
use Rattle.dcx_unknowns.specs.Unknowns.{demanded, sides_in}
use Rattle.dcx_unknowns.specs.Laws.{AreAlike}
use Rattle.dcx_unknowns.proofs.Domains.{to_domain, to_variables}
use Rattle.dcx_unknowns.proofs.Variables.{node_same, same_value}
use Rattle.dcx_postsolve.specs.Laws.{AreSameMultipliers, StayAnswers}

-- ---- values
module _ (p : Problem) (s : Setting) (x y : Point) (alike : AreAlike p.variables x y) where
  nodes : List convex.Node
  nodes = (convex_problem p).nodes

  args_same : (f g : ℕ → Numbers) → ((i : ℕ) → f i ≡ g i) → (args : List ℕ) → map f args ≡ map g args
  args_same f g h args = ap (λ k. map k args) (fun_ext h)

  node_value : (i : ℕ) (n : convex.Node) → convex.IsNode nodes i n → (fs : List Numbers) → value_by s x n.head fs ≡ value_by s y n.head fs
  unfolding nodes
  node_value i n at fs =
      let (m, in_tree, is) = mapped (convex_node (names_in p) p.tree) p.tree i n at in
      let same = node_same p x y alike i m in_tree in
      subst (λ (k : convex.Node). value_by s x k.head fs ≡ value_by s y k.head fs) is (fun_ext (λ j. same_value p x y s m.call same (arg_sides p.tree m) m.sides fs j))

  told_same : (depth i : ℕ) → told_within zeros (value_by s x) nodes depth i ≡ told_within zeros (value_by s y) nodes depth i
  told_same zero i = refl
  told_same (suc depth) i = by (told_same depth) (slice_get nodes i) refl
    where
      by : ((a : ℕ) → told_within zeros (value_by s x) nodes depth a ≡ told_within zeros (value_by s y) nodes depth a) → (o : Option convex.Node) → slice_get nodes i ≡ o →
          told zeros (value_by s x) (told_within zeros (value_by s x) nodes depth) o ≡ told zeros (value_by s y) (told_within zeros (value_by s y) nodes depth) o
      by ih None e = refl
      by ih (Some n) e =
          node_value i n e (map (told_within zeros (value_by s x) nodes depth) n.args)
          ∙ ap (value_by s y n.head) (args_same (told_within zeros (value_by s x) nodes depth) (told_within zeros (value_by s y) nodes depth) ih n.args)

  pub alike_value : (i j : ℕ) → value_at p s x i j ≡ value_at p s y i j
  unfolding nodes convex.value_at
  alike_value i j = ap (λ f. f j) (told_same (suc i) i)

-- ---- the domain
-- what must be square is
IsSquareAs : convex.Attribute → Sides → Type 0
IsSquareAs convex.Free sides = Unit {0}
IsSquareAs convex.Nonneg sides = Unit {0}
IsSquareAs convex.Nonpos sides = Unit {0}
IsSquareAs convex.Symmetric sides = rows_of sides ≡ cols_of sides
IsSquareAs convex.Diag sides = Unit {0}

square_plain : (a : Attribute) (sides : Sides) → IsSquareFor a sides → IsSquareAs (attribute_of a) sides
unfolding IsSquareAs
square_plain attributes.Free sides h = tt
square_plain attributes.Nonneg sides h = tt
square_plain attributes.Nonpos sides h = tt
square_plain attributes.Symmetric sides h = h
square_plain attributes.Diag sides h = tt

square_as : (w : Whole) (a : Attribute) (sides : Sides) → IsSquareFor (counted w a) sides → IsSquareAs (variable_attribute w a) sides
unfolding IsSquareAs
square_as Not a sides h = square_plain a sides h
square_as Integer a sides h = square_plain a sides h
square_as Boolean a sides h = tt

keeps_alike : (a : convex.Attribute) (sides : Sides) (x y : Numbers) → IsSquareAs a sides → ((e : ℕ) → e < entries_of sides → x e ≡ y e) → Keeps a sides x → Keeps a sides y
unfolding IsSquareAs
keeps_alike convex.Free sides x y square same h = tt
keeps_alike convex.Nonneg sides x y square same h = λ j l. subst IsNonnegative (same j l) (h j l)
keeps_alike convex.Nonpos sides x y square same h = λ j l. subst (λ z. z ≤ℚ whole (pos 0)) (same j l) (h j l)
keeps_alike convex.Symmetric sides x y square same h = λ i j e.
    let mirror : HasEntry sides j i = record { row = subst (λ n. j < n) (sym square) e.column; column = subst (λ n. i < n) square e.row } in
    sym (same (row_place sides i j) (place_below false sides i j e)) ∙ h i j e ∙ same (row_place sides j i) (place_below false sides j i mirror)
keeps_alike convex.Diag sides x y square same h = λ i j e ne. sym (same (row_place sides i j) (place_below false sides i j e)) ∙ h i j e ne

-- ---- multipliers
weighed_same : (gap : problems.Constraint → ℕ → ℚ) (cs : List problems.Constraint) (m n : Multipliers)
    → ((k : ℕ) (c : problems.Constraint) → slice_get cs k ≡ Some c → (j : ℕ) → j < c.size → m k j ≡ n k j)
    → weighed gap cs m ≡ weighed gap cs n
weighed_same gap [] m n same = refl
weighed_same gap (c ∷ cs) m n same =
    ap₂ (λ a b. a +ℚ b) (rat_sum_below-same c.size (λ j. m 0 j *ℚ gap c j) (λ j. n 0 j *ℚ gap c j) (λ j l. ap (λ z. z *ℚ gap c j) (same 0 c refl j l)))
    (weighed_same gap cs (λ k. m (suc k)) (λ k. n (suc k)) (λ k. same (suc k)))

-- ---- answers
module _ (p : Problem) (s : Setting) where
  pub domain_alike : (x y : Point) → AreAlike p.variables x y → IsInDomain p x → IsInDomain p y
  domain_alike x y alike dom =
      to_domain p y (λ k v at.
      let here : IsSquareFor (demanded v) (sides_in v) =
      subst (λ (w : Variable). IsSquareFor (demanded w) (sides_in w)) (get_or_from_slice_get p.variables k v v at) (p.squares k v (slice_get_within p.variables k v at)) in
      keeps_alike (variable_attribute v.whole v.attribute) (sides_in v) (x k) (y k) (square_as v.whole v.attribute (sides_in v) here) (alike k v at) (to_variables p x dom k v at))

  pub objective_alike : (x y : Point) → AreAlike p.variables x y → objective_at p s x ≡ objective_at p s y
  objective_alike x y alike = ap (problems.minimized (sense_of p.sense)) (alike_value p s x y alike p.objective.0 0)

  pub feasible_alike : (x y : Point) → AreAlike p.variables x y → IsFeasible p s x → IsFeasible p s y
  feasible_alike x y alike feasible = record {
    domain = domain_alike x y alike feasible.domain;
    holds = λ k c at j l. subst (problems.Holds c.relation) (ap₂ (λ a b. a -ℚ b) (alike_value p s x y alike c.left j) (alike_value p s x y alike c.right j)) (feasible.holds k c at j l);
  }

  module _ (m n : Multipliers) (same : AreSameMultipliers p.constraints m n) where
    row_same : (k : ℕ) (c : problems.Constraint) → problems.IsConstraint (convex_problem p) k c → (j : ℕ) → j < c.size → m k j ≡ n k j
    row_same k c at j l =
        let (d, there, is) = mapped convex_constraint p.constraints k c at in
        same k d there j (subst (λ (b : problems.Constraint). j < b.size) (sym is) l)

    pub multipliers_same : answers.AreMultipliers (convex_problem p) m → answers.AreMultipliers (convex_problem p) n
    multipliers_same h = λ k c at j l. subst (MayMultiply c.relation) (row_same k c at j l) (h k c at j l)

    pub penalty_same : (x : Point) → answers.penalty (convex_problem p) s x m ≡ answers.penalty (convex_problem p) s x n
    penalty_same x = weighed_same (problems.gap_of (convex.value_at (convex_problem p).nodes s x)) (convex_problem p).constraints m n row_same

    infeasible_stays : (gap : ℚ) → IsInfeasible p s m gap → IsInfeasible p s n gap
    infeasible_stays gap h = record {
      positive = h.positive;
      multipliers = multipliers_same h.multipliers;
      bound = λ x dom. subst (λ z. gap ≤ℚ z) (penalty_same x) (h.bound x dom);
    }

    optimal_stays : (v : ℚ) (x y : Point) → AreAlike p.variables x y → IsOptimal p s v x m → IsOptimal p s v y n
    optimal_stays v x y alike h = record {
      feasible = feasible_alike x y alike h.feasible;
      value = sym (objective_alike x y alike) ∙ h.value;
      multipliers = multipliers_same h.multipliers;
      bound = λ z dom. subst (λ a. v ≤ℚ objective_at p s z +ℚ a) (penalty_same z) (h.bound z dom);
    }

  shifted_alike : (x y d e : Point) (k : ℚ) → AreAlike p.variables x y → AreAlike p.variables d e → AreAlike p.variables (shifted x k d) (shifted y k e)
  shifted_alike x y d e k points rays = λ i v at j l. ap₂ (λ a b. a +ℚ k *ℚ b) (points i v at j l) (rays i v at j l)

  unbounded_stays : (x y d e : Point) (bound slope : ℚ) → AreAlike p.variables x y → AreAlike p.variables d e → IsUnbounded p s x d bound slope → IsUnbounded p s y e bound slope
  unbounded_stays x y d e bound slope points rays h = record {
    positive = h.positive;
    feasible = λ k low. feasible_alike (shifted x k d) (shifted y k e) (shifted_alike x y d e k points rays) (h.feasible k low);
    falls = λ k low. subst (λ z. z ≤ℚ bound -ℚ k *ℚ slope) (objective_alike (shifted x k d) (shifted y k e) (shifted_alike x y d e k points rays)) (h.falls k low);
  }

  pub answers_stay : StayAnswers p s
  answers_stay = record {
    optimal = λ v x y m n alike same. optimal_stays m n same v x y alike;
    infeasible = λ m n gap same. infeasible_stays m n same gap;
    unbounded = unbounded_stays;
  }
