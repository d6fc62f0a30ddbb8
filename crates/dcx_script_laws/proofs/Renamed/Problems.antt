-- A problem under other names, in the terms of convex programming, where names go by numbers.
use Rattle.std.proofs.Common.{◌≡◌, ℕ, suc, cond, List, [], ◌∷◌, map, refl, sym, ap, ap₂, ◌∙◌}
use Rattle.dcx_shape.specs.declared.shape.Sides.{Sides}
use Rattle.dcx_call.specs.declared.attribute.Variable.{Variable}
use Rattle.dcx_call.specs.declared.attribute.Parameter.{Parameter}
use Rattle.dcx_call.specs.declared.call.Call.{Call}
use Rattle.dcx_call.specs.declared.call.Call.TheVariants as calls
use Rattle.dcx_convex.specs.Nodes as convex
use Rattle.dcx_shape.specs.Shape.{sides_of}
use Rattle.dcx_tree.specs.declared.problem.Problem.{Problem}
use Rattle.dcx_tree.specs.Nodes.{Node, Names, number_in, attribute_of, variable_attribute, head_of, arg_sides, convex_node, convex_nodes}
use Rattle.dcx_tree.specs.Meaning.{sense_of, convex_constraint, names_in, convex_problem}
use Rattle.dcx_script_laws.specs.Renamed.{variable_renamed, parameter_renamed, call_renamed, node_renamed, IsRenamedProblem}
use Rattle.dcx_script_laws.specs.Names.{IsRenaming}
use Rattle.dcx_script_laws.proofs.Renamed.Entries.{same_renamed}
use Rattle.dcx_script_laws.proofs.Renamed.Nodes.{sides_kept}
use Rattle.dcx_math.proofs.Lists.{map-map}

-- what is made of what is changed item by item
map_changed : {X Y : Type 0} (change : X → X) (f g : X → Y) → ((x : X) → g (change x) ≡ f x) → (xs : List X) → map g (map change xs) ≡ map f xs
map_changed change f g h [] = refl
map_changed change f g h (x ∷ xs) = ap₂ (λ y ys. y ∷ ys) (h x) (map_changed change f g h xs)

-- the names, renamed
abbrev names_renamed : (List ℕ → List ℕ) → Names → Names
names_renamed rename names = record { variables = map rename names.variables; parameters = map rename names.parameters }

module _ {rename : List ℕ → List ℕ} (is : IsRenaming rename) where
  number_kept : (names : List (List ℕ)) (name : List ℕ) → number_in (map rename names) (rename name) ≡ number_in names name
  number_kept [] name = refl
  number_kept (n ∷ names) name = ap₂ (λ t k. cond t 0 (suc k)) (same_renamed is n name) (number_kept names name)

  head_kept : (names : Names) (call : Call) (args : List Sides) (sides : Sides) → head_of (names_renamed rename names) (call_renamed rename call) args sides ≡ head_of names call args sides
  head_kept names (calls.Variable v) args sides =
      ap (λ k. convex.Variable (record { number = k; sides = sides_of v.shape; attribute = variable_attribute v.whole v.attribute })) (number_kept names.variables v.name)
  head_kept names (calls.Parameter p) args sides =
      ap (λ k. convex.Parameter (record { number = k; sides = sides_of p.shape; attribute = attribute_of p.attribute })) (number_kept names.parameters p.name)
  head_kept names (calls.Constant x) args sides = refl
  head_kept names (calls.Atom m) args sides = refl
  head_kept names (calls.Linear l) args sides = refl
  head_kept names (calls.Pairing p) args sides = refl

  node_kept : (names : Names) (nodes : List Node) (n : Node) → convex_node (names_renamed rename names) (map (node_renamed rename) nodes) (node_renamed rename n) ≡ convex_node names nodes n
  node_kept names nodes n =
      let e = head_kept names n.call (arg_sides nodes n) n.sides in
      ap (λ f. record { head = head_of (names_renamed rename names) (call_renamed rename n.call) (map f n.args) n.sides; args = n.args }) (sides_kept rename nodes)
      ∙ ap (λ h. record { head = h; args = n.args }) e

  nodes_kept : (names : Names) (nodes : List Node) → convex_nodes (names_renamed rename names) (map (node_renamed rename) nodes) ≡ convex_nodes names nodes
  nodes_kept names nodes = map_changed (node_renamed rename) (convex_node names nodes) (convex_node (names_renamed rename names) (map (node_renamed rename) nodes)) (node_kept names nodes) nodes

  listed_renamed : {X : Type 0} (name_of : X → List ℕ) (change : X → X) → ((x : X) → name_of (change x) ≡ rename (name_of x)) → (xs : List X)
      → map name_of (map change xs) ≡ map rename (map name_of xs)
  listed_renamed name_of change h xs = map_changed change (λ x. rename (name_of x)) name_of h xs ∙ sym (map-map name_of rename xs)

  pub same_problem : (p q : Problem) → IsRenamedProblem rename p q → convex_problem q ≡ convex_problem p
  same_problem p q r = λ i. record { nodes = nodes i; sense = sense_of (r.sense i); objective = (r.objective i).0; constraints = map convex_constraint (r.constraints i) }
    where
      names : names_in q ≡ names_renamed rename (names_in p)
      names =
          let vs : map (λ (v : Variable). v.name) q.variables ≡ map rename (map (λ v. v.name) p.variables) =
          ap (map (λ (v : Variable). v.name)) r.variables ∙ listed_renamed (λ (v : Variable). v.name) (variable_renamed rename) (λ v. refl) p.variables in
          let ps : map (λ (v : Parameter). v.name) q.parameters ≡ map rename (map (λ v. v.name) p.parameters) =
          ap (map (λ (v : Parameter). v.name)) r.parameters ∙ listed_renamed (λ (v : Parameter). v.name) (parameter_renamed rename) (λ v. refl) p.parameters in
          λ i. record { variables = vs i; parameters = ps i }

      nodes : convex_nodes (names_in q) q.tree ≡ convex_nodes (names_in p) p.tree
      nodes = ap₂ convex_nodes names r.tree ∙ nodes_kept (names_in p) p.tree
