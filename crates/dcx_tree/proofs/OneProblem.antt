-- Roots have one problem in a tree.
use Rattle.std.proofs.Common.{◌≡◌, List, [], ◌∷◌, map, refl, sym, ap, ap₂, ◌∙◌}
use Rattle.std.specs.Prelude.{filter}
use Rattle.std.proofs.Props.{props}
use Rattle.std.proofs.Math.Logic.{∥∥₁_prop}
use mathlib.Core.HLevel.{is_prop→PathP}
use Rattle.dcx_call.specs.declared.attribute.Variable.{Variable}
use Rattle.dcx_call.specs.declared.attribute.Parameter.{Parameter}
use Rattle.dcx_call.specs.Attributes.{AreSquare}
use Rattle.dcx_call.specs.Calls.{shape_of}
use Rattle.dcx_arena.specs.Nodes.{AreNodes}
use Rattle.dcx_tree.specs.declared.constraint.Constraint.{Constraint}
use Rattle.dcx_tree.specs.declared.problem.Problem.{Problem}
use Rattle.dcx_tree.specs.declared.roots.Roots.{Roots}
use Rattle.dcx_tree.specs.Nodes.{Node}
use Rattle.dcx_tree.specs.Kept.{AreNodes-prop, AreSquare-prop}
use Rattle.dcx_tree.specs.Problems.{IsObjective, AreConstraints, IsNumbered, AreDeclared, sides_in, roots_of}
use Rattle.dcx_tree.specs.Gather.{positions_of, has_variable, has_parameter, Demand, demand_of, IsProblemOf}
use Rattle.dcx_arena.proofs.OneGathering.{one_gathering}

-- a demand on two nodes is one constraint
one_constraint : (c d : Constraint) → demand_of c ≡ demand_of d → c.left.0 ≡ d.left.0 → c.right.0 ≡ d.right.0 → c ≡ d
one_constraint c d e l r = λ i. record {
  kind = ap (λ (x : Demand). x.kind) e i;
  left = record { 0 = l i };
  right = record { 0 = r i };
  shape = ap (λ (x : Demand). x.shape) e i;
  place = ap (λ (x : Demand). x.place) e i;
}

pub one_constraints : (cs ds : List Constraint) → map demand_of cs ≡ map demand_of ds → sides_in cs ≡ sides_in ds → cs ≡ ds
one_constraints [] [] e s = refl
one_constraints [] (d ∷ ds) e s = absurd (cc)
one_constraints (c ∷ cs) [] e s = absurd (cc)
one_constraints (c ∷ cs) (d ∷ ds) e s =
    let demand : demand_of c ≡ demand_of d = cc in
    let demands : map demand_of cs ≡ map demand_of ds = cc in
    let left : c.left.0 ≡ d.left.0 = cc in
    let right : c.right.0 ≡ d.right.0 = cc in
    let sides : sides_in cs ≡ sides_in ds = cc in
    ap₂ (λ x xs. x ∷ xs) (one_constraint c d demand left right) (one_constraints cs ds demands sides)

-- what a problem keeps is kept one way, so that problems of the same parts are one
same_parts : (p q : Problem) → p.tree ≡ q.tree → p.variables ≡ q.variables → p.parameters ≡ q.parameters → p.sense ≡ q.sense → p.objective ≡ q.objective
    → p.objective_place ≡ q.objective_place → p.constraints ≡ q.constraints → p ≡ q
same_parts p q t v w s o l c = λ i. record {
  tree = t i;
  variables = v i;
  parameters = w i;
  sense = s i;
  objective = o i;
  objective_place = l i;
  constraints = c i;
  nodes = is_prop→PathP (λ j. AreNodes shape_of (t j)) (λ j. AreNodes-prop (t j)) p.nodes q.nodes i;
  objective_kept = is_prop→PathP (λ j. IsObjective (t j) (o j)) (λ j. hlevel props) p.objective_kept q.objective_kept i;
  constraints_kept = is_prop→PathP (λ j. AreConstraints (t j) (c j)) (λ j. hlevel props) p.constraints_kept q.constraints_kept i;
  numbered = is_prop→PathP (λ j. IsNumbered (t j) (o j) (c j)) (λ j. hlevel props) p.numbered q.numbered i;
  declared = is_prop→PathP (λ j. ∥ AreDeclared (t j) (v j) (w j) ∥₁) (λ j. ∥∥₁_prop) p.declared q.declared i;
  squares = is_prop→PathP (λ j. AreSquare (v j)) (λ j. AreSquare-prop (v j)) p.squares q.squares i;
}

pub one_problem : (source : List Node) (roots : Roots) (p q : Problem) → IsProblemOf source roots p → IsProblemOf source roots q → p ≡ q
one_problem source roots p q h k =
    let both = one_gathering source (positions_of roots) p.tree q.tree (roots_of p.objective p.constraints) (roots_of q.objective q.constraints) h.nodes k.nodes in
    let ends : roots_of p.objective p.constraints ≡ roots_of q.objective q.constraints = both.1 in
    let first : p.objective.0 ≡ q.objective.0 = cc in
    let sides : sides_in p.constraints ≡ sides_in q.constraints = cc in
    same_parts p q both.0
    (h.variables ∙ ap (λ t. filter (λ (v : Variable). has_variable t v.name) roots.variables) both.0 ∙ sym k.variables)
    (h.parameters ∙ ap (λ t. filter (λ (w : Parameter). has_parameter t w.name) roots.parameters) both.0 ∙ sym k.parameters)
    (h.sense ∙ sym k.sense)
    (λ i. record { 0 = first i })
    (h.objective_place ∙ sym k.objective_place)
    (one_constraints p.constraints q.constraints (h.demands ∙ sym k.demands) sides)
