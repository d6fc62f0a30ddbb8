-- A point is in the domain of a problem where each variable's array is in the variable's domain.
use Rattle.std.proofs.Common.{◌≡◌, ℕ, ◌↔◌, List, map, get_or, Some, option_map, sym, ap, ◌∙◌, subst, refl}
use Rattle.std.proofs.Props.{props}
use Rattle.std.specs.List.{slice_get, All}
use Rattle.std.proofs.Math.Logic.{∥∥₁_elim}
use Rattle.std.proofs.lemmas.Option.{slice_get-map, slice_get-get_or, slice_get_within, get_or_from_slice_get}
use Rattle.dcx_math.proofs.Orders.{≤ℚ_prop, ≡ℚ_prop}
use Rattle.dcx_math.proofs.Lists.{mapped}
use Rattle.dcx_shape.specs.declared.shape.Sides.{Sides}
use Rattle.dcx_shape.specs.Shape.{sides_of}
use Rattle.dcx_point.specs.Pairs.{Pairs}
use Rattle.dcx_arena.specs.Nodes.{call_at}
use Rattle.dcx_convex.specs.Nodes as convex
use Rattle.dcx_convex.specs.Nodes.{Numbers, EachNode, Keeps, VariableKeeps}
use Rattle.dcx_convex.proofs.Domains.{variable_prop}
use Rattle.dcx_call.specs.declared.attribute.Attribute.{Attribute}
use Rattle.dcx_call.specs.declared.attribute.Attribute.TheVariants.{Free, Nonneg, Nonpos, Symmetric, Diag}
use Rattle.dcx_call.specs.declared.attribute.Whole.{Whole}
use Rattle.dcx_call.specs.declared.attribute.Whole.TheVariants.{Not, Integer, Boolean}
use Rattle.dcx_call.specs.declared.attribute.Variable.{Variable}
use Rattle.dcx_call.specs.declared.attribute.Parameter.{Parameter}
use Rattle.dcx_call.specs.declared.call.Call.{Call}
use Rattle.dcx_call.specs.declared.call.Call.TheVariants as calls
use Rattle.dcx_call.specs.Attributes.{counted, IsWithin}
use Rattle.dcx_call.specs.Values.{given_by}
use Rattle.dcx_tree.specs.Nodes.{Names, Node, variable_attribute, head_of, arg_sides, convex_node, convex_nodes, numbers_by, number_in}
use Rattle.dcx_tree.specs.Problems.{IsListed, AreDeclared}
use Rattle.dcx_tree.specs.Meaning.{names_in, point_of}
use Rattle.dcx_tree.proofs.Names.{found_in}
use Rattle.dcx_tree.proofs.Sublists.{contains_at}
use Rattle.dcx_tree.proofs.Values.{taken}
use Rattle.dcx_domain.specs.Points.{IsInside}
use Rattle.dcx_domain.specs.Laws.{HoldsForPoints}

-- ---- one variable
-- what is demanded of a variable, in the terms of disciplined convex programming
pub same_attribute : (a : Attribute) (s : Sides) (x : Numbers) → Keeps (variable_attribute Not a) s x ↔ IsWithin a s x
same_attribute Free s x = ((λ h. h), (λ h. h))
same_attribute Nonneg s x = ((λ h. h), (λ h. h))
same_attribute Nonpos s x = ((λ h. h), (λ h. h))
same_attribute Symmetric s x = ((λ h. h), (λ h. h))
same_attribute Diag s x = ((λ h. h), (λ h. h))

same_demand : (w : Whole) (a : Attribute) (s : Sides) (x : Numbers) → Keeps (variable_attribute w a) s x ↔ IsWithin (counted w a) s x
same_demand Not a s x = same_attribute a s x
same_demand Integer a s x = same_attribute a s x
same_demand Boolean a s x = same_attribute Nonneg s x

-- ---- the variables and the nodes
module _ (nodes : List Node) (vs : List Variable) (ps : List Parameter) (d : AreDeclared nodes vs ps) (names : Names) (are : names.variables ≡ map (λ v. v.name) vs) (given : Pairs) where
  -- the number of a variable is that of its name
  numbers_are : (k : ℕ) (v : Variable) → slice_get vs k ≡ Some v → numbers_by names.variables given (number_in names.variables v.name) ≡ given_by given v.name
  numbers_are k v at =
      let named : slice_get names.variables k ≡ Some v.name = ap (λ ns. slice_get ns k) are ∙ slice_get-map (λ (u : Variable). u.name) vs k ∙ ap (option_map (λ (u : Variable). u.name)) at in
      taken names.variables given k v.name named

  -- a node with a variable keeps its domain exactly where the variable's array does
  demand : (k : ℕ) (v : Variable) → slice_get vs k ≡ Some v → (args : List Sides) (sides : Sides)
      → VariableKeeps (numbers_by names.variables given) (head_of names (calls.Variable v) args sides) ↔ IsInside v given
  demand k v at args sides =
      subst (λ (f : Numbers). Keeps (variable_attribute v.whole v.attribute) (sides_of v.shape) f ↔ IsInside v given) (sym (numbers_are k v at))
      (same_demand v.whole v.attribute (sides_of v.shape) (given_by given v.name))

  -- a variable that has a node
  stands_inside : EachNode (convex_nodes names nodes) (λ n. VariableKeeps (numbers_by names.variables given) n.head) → (k : ℕ) (v : Variable) → slice_get vs k ≡ Some v
      → (i : ℕ) → call_at nodes i ≡ Some (calls.Variable v) → IsInside v given
  stands_inside h k v at i call_is =
      let (n, there, is) = found_in (slice_get nodes i) (calls.Variable v) call_is in
      let kept = h i (convex_node names nodes n) (slice_get-map (convex_node names nodes) nodes i ∙ ap (option_map (convex_node names nodes)) there) in
      (demand k v at (arg_sides nodes n) n.sides).0 (subst (λ call. VariableKeeps (numbers_by names.variables given) (head_of names call (arg_sides nodes n) n.sides)) is kept)

  pub to_variables : EachNode (convex_nodes names nodes) (λ n. VariableKeeps (numbers_by names.variables given) n.head) → All (λ v. IsInside v given) vs
  to_variables h = λ k e lt. let (i, call_is) = d.variables_stand k e lt in stands_inside h k (get_or vs k e) (slice_get-get_or vs k e lt) i call_is

  call_keeps : All (λ v. IsInside v given) vs → (call : Call) (args : List Sides) (sides : Sides) → IsListed vs ps call
      → VariableKeeps (numbers_by names.variables given) (head_of names call args sides)
  call_keeps h (calls.Variable v) args sides l =
      let (k, at) = contains_at vs v l in
      let inside : IsInside v given = subst (λ (u : Variable). IsInside u given) (get_or_from_slice_get vs k v v at) (h k v (slice_get_within vs k v at)) in
      (demand k v at args sides).1 inside
  call_keeps h (calls.Parameter q) args sides l = tt
  call_keeps h (calls.Constant x) args sides l = tt
  call_keeps h (calls.Atom m) args sides l = tt
  call_keeps h (calls.Linear m) args sides l = tt
  call_keeps h (calls.Pairing m) args sides l = tt

  pub to_nodes : All (λ v. IsInside v given) vs → EachNode (convex_nodes names nodes) (λ n. VariableKeeps (numbers_by names.variables given) n.head)
  to_nodes h i m at =
      let (n, in_nodes, is) = mapped (convex_node names nodes) nodes i m at in
      subst (λ (z : convex.Node). VariableKeeps (numbers_by names.variables given) z.head) is (call_keeps h n.call (arg_sides nodes n) n.sides (d.listed i n in_nodes))

-- ---- of a problem
pub within_prop : (a : Attribute) (s : Sides) (x : Numbers) → IsProp (IsWithin a s x)
within_prop Free s x = hlevel props
within_prop Nonneg s x = hlevel ≤ℚ_prop
within_prop Nonpos s x = hlevel ≤ℚ_prop
within_prop Symmetric s x = hlevel ≡ℚ_prop
within_prop Diag s x = hlevel ≡ℚ_prop

nodes_prop : (nodes : List convex.Node) (x : convex.Point) → IsProp (EachNode nodes (λ n. VariableKeeps x n.head))
nodes_prop nodes x f g = λ z i n at. variable_prop x n.head (f i n at) (g i n at) z

inside_prop : (vs : List Variable) (given : Pairs) → IsProp (All (λ v. IsInside v given) vs)
inside_prop vs given f g = λ z k d lt.
    let v = get_or vs k d in
    within_prop (counted v.whole v.attribute) (sides_of v.shape) (given_by given v.name) (f k d lt) (g k d lt) z

pub points_hold : HoldsForPoints
points_hold p given = (
  (λ h. ∥∥₁_elim p.declared (inside_prop p.variables given) (λ d. to_variables p.tree p.variables p.parameters d (names_in p) refl given h)),
  (λ h. ∥∥₁_elim p.declared (nodes_prop (convex_nodes (names_in p) p.tree) (point_of p given)) (λ d. to_nodes p.tree p.variables p.parameters d (names_in p) refl given h)),
)
