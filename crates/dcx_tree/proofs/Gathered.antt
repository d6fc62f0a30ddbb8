-- The problem that `gather` makes.
use Rattle.std.proofs.Common.{◌≡◌, ℕ, suc, ◌+◌, ◌-◌, ◌*◌, ◌<◌, List, [], ◌∷◌, length, map, take, drop, get_or, length-drop, Some, refl, sym, ap, ap₂, subst, ◌∙◌, arith}
use Rattle.std.specs.Prelude.{filter}
use Rattle.std.specs.List.{slice_get, All}
use Rattle.std.proofs.lemmas.List.{length-map, take_rest}
use Rattle.std.proofs.lemmas.List.Elements.{All-cons, All-nil, All-filter}
use Rattle.dcx_arena.specs.declared.node.NodeId.{NodeId}
use Rattle.dcx_arena.specs.Nodes.{AreNodes, positions}
use Rattle.dcx_arena.specs.Gather.{order_of, StandFor, IsGathered}
use Rattle.dcx_call.specs.declared.attribute.Variable.{Variable}
use Rattle.dcx_call.specs.declared.attribute.Parameter.{Parameter}
use Rattle.dcx_call.specs.Attributes.{IsSquare, AreSquare}
use Rattle.dcx_call.specs.Calls.{shape_of}
use Rattle.dcx_tree.specs.declared.constraint.Constraint.{Constraint}
use Rattle.dcx_tree.specs.declared.roots.Roots.{Roots}
use Rattle.dcx_tree.specs.Nodes.{Node}
use Rattle.dcx_tree.specs.Problems as problems
use Rattle.dcx_tree.specs.Problems.{IsObjective, AreConstraints, IsNumbered, sides_in, roots_of}
use Rattle.dcx_tree.specs.Gather.{positions_of, AreDeclarations, has_variable, has_parameter, demand_of}
use Rattle.dcx_tree.proofs.Parts as parts
use Rattle.dcx_tree.proofs.Numbering as numbering

-- ---- roots
-- there are two sides for each constraint
pub length-sides : (cs : List Constraint) → length (sides_in cs) ≡ 2 * length cs
length-sides [] = refl
length-sides (c ∷ cs) = let r = length-sides cs in omega (arith, r)

sides_below : (n : ℕ) (cs : List Constraint) → ((k : ℕ) (c : Constraint) → slice_get cs k ≡ Some c → (c.left.0 < n) × (c.right.0 < n)) → All (λ r. r < n) (sides_in cs)
sides_below n [] h = All-nil (λ (r : ℕ). r < n)
sides_below n (c ∷ cs) h =
    let b = h 0 c refl in
    All-cons (λ (r : ℕ). r < n) c.left.0 (c.right.0 ∷ sides_in cs) b.0 (All-cons (λ (r : ℕ). r < n) c.right.0 (sides_in cs) b.1 (sides_below n cs (λ k. h (suc k))))

-- each root is a node
pub roots_below : (nodes : List Node) (o : NodeId) (cs : List Constraint) → IsObjective nodes o → AreConstraints nodes cs → All (λ r. r < length nodes) (roots_of o cs)
roots_below nodes o cs h k =
    All-cons (λ (r : ℕ). r < length nodes) o.0 (sides_in cs) h.there (sides_below (length nodes) cs (λ t c at. ((k.left t c at).there, (k.right t c at).there)))

-- as many ends as roots
pub length-ends : (order ends roots : List ℕ) → StandFor order ends roots → length ends ≡ length roots
length-ends order ends roots e = sym (length-map ends (slice_get order)) ∙ ap length e ∙ length-map roots Some

pub ends_length : (source part : List Node) (ends : List NodeId) (o : NodeId) (cs : List Constraint) → IsGathered source (roots_of o cs) part (positions ends) → length ends ≡ 1 + 2 * length cs
ends_length source part ends o cs g =
    let a = length-ends (order_of source (roots_of o cs)) (positions ends) (roots_of o cs) g.roots_stand in
    let b = length-map ends (λ (z : NodeId). z.0) in
    let d : length (roots_of o cs) ≡ suc (length (sides_in cs)) = refl in
    let f = length-sides cs in
    omega (arith, a, b, d, f)

-- what follows the first end
pub rest_length : (ends : List NodeId) (n : ℕ) → length ends ≡ 1 + n → length (take (length ends - 1) (drop 1 ends)) ≡ n
rest_length ends n e = ap length (take_rest ends 1) ∙ length-drop 1 ends ∙ omega (arith, e)

-- the first end, and the others
pub ends_split : (ends : List NodeId) (n : ℕ) (o : NodeId) (cs : List Constraint) → length ends ≡ 1 + n → o ≡ get_or ends 0 o
    → sides_in cs ≡ positions (take (length ends - 1) (drop 1 ends)) → positions ends ≡ roots_of o cs
ends_split [] n o cs l at s = absurd (omega arith)
ends_split (x ∷ ends) n o cs l at s =
    ap₂ (λ y ys. y ∷ ys) (ap (λ (z : NodeId). z.0) (sym at)) (sym (s ∙ ap positions (take_rest (x ∷ ends) 1)))

-- ---- the problem
-- all that a problem of these roots keeps
pub record IsWhole (source : List Node) (roots : Roots) (part : List Node) (o : NodeId) (cs : List Constraint) (vs : List Variable) (ps : List Parameter) : Type 0 where
  pub gathered : IsGathered source (positions_of roots) part (roots_of o cs)
  pub nodes : AreNodes shape_of part
  pub objective : IsObjective part o
  pub constraints : AreConstraints part cs
  pub numbered : IsNumbered part o cs
  pub declared : problems.AreDeclared part vs ps
  pub squares : AreSquare vs
  pub demands : map demand_of cs ≡ map demand_of roots.constraints
  pub variables : vs ≡ filter (λ v. has_variable part v.name) roots.variables
  pub parameters : ps ≡ filter (λ q. has_parameter part q.name) roots.parameters

module _ (source : List Node) (roots : Roots) (objective : IsObjective source roots.objective) (constraints : AreConstraints source roots.constraints) (declared : AreDeclarations source roots)
    (part : List Node) (ends : List NodeId) (g : IsGathered source (positions_of roots) part (positions ends)) (are : AreNodes shape_of source) (part_are : AreNodes shape_of part)
    (o : NodeId) (cs : List Constraint) (vs : List Variable) (ps : List Parameter) (first : o ≡ get_or ends 0 o) (sides : sides_in cs ≡ positions (take (length ends - 1) (drop 1 ends)))
    (demands : map demand_of cs ≡ map demand_of roots.constraints) (vs_are : vs ≡ filter (λ v. has_variable part v.name) roots.variables)
    (ps_are : ps ≡ filter (λ q. has_parameter part q.name) roots.parameters) where
  ends_are : positions ends ≡ roots_of o cs
  ends_are = ends_split ends (2 * length roots.constraints) o cs (ends_length source part ends roots.objective roots.constraints g) first sides

  gathered_is : IsGathered source (positions_of roots) part (roots_of o cs)
  gathered_is = subst (IsGathered source (positions_of roots) part) ends_are g

  objective_is : IsObjective part o
  objective_is = parts.objective_kept source (positions_of roots) part (positions ends) g roots.objective o roots.constraints cs refl ends_are objective

  constraints_are : AreConstraints part cs
  constraints_are = parts.constraints_kept source (positions_of roots) part (positions ends) g roots.objective o roots.constraints cs refl ends_are demands constraints

  numbered_is : IsNumbered part o cs
  numbered_is = numbering.numbered source (positions_of roots) part (roots_of o cs) are part_are gathered_is

  declared_are : problems.AreDeclared part vs ps
  declared_are =
      let d = parts.declared_kept source (positions_of roots) part (roots_of o cs) gathered_is roots.variables roots.parameters declared.reached declared.distinct in
      subst (λ v. problems.AreDeclared part v ps) (sym vs_are) (subst (problems.AreDeclared part (filter (λ (v : Variable). has_variable part v.name) roots.variables)) (sym ps_are) d)

  squares_are : AreSquare vs
  squares_are = subst AreSquare (sym vs_are) (All-filter (λ (v : Variable). has_variable part v.name) IsSquare roots.variables declared.squares)

  pub whole : IsWhole source roots part o cs vs ps
  whole = record {
    gathered = gathered_is;
    nodes = part_are;
    objective = objective_is;
    constraints = constraints_are;
    numbered = numbered_is;
    declared = declared_are;
    squares = squares_are;
    demands = demands;
    variables = vs_are;
    parameters = ps_are;
  }

-- the same of what is handed on: an equal part, an equal list of ends, and lists of the same items
pub handed_on : (source : List Node) (roots : Roots) → IsObjective source roots.objective → AreConstraints source roots.constraints → AreDeclarations source roots →
    (part at : List Node) (ends named : List NodeId) (o : NodeId) (cs to : List Constraint) (vs us : List Variable) (ps qs : List Parameter) →
    at ≡ part → named ≡ ends → to ≡ cs → us ≡ vs → qs ≡ ps →
    IsGathered source (positions_of roots) part (positions ends) → AreNodes shape_of source → AreNodes shape_of part →
    o ≡ get_or ends 0 o → sides_in cs ≡ positions (take (length named - 1) (drop 1 named)) → map demand_of cs ≡ map demand_of roots.constraints →
    vs ≡ filter (λ v. has_variable part v.name) roots.variables → ps ≡ filter (λ q. has_parameter part q.name) roots.parameters → IsWhole source roots at o to us qs
handed_on source roots objective constraints declared part at ends named o cs to vs us ps qs at_is named_is to_is us_are qs_are g are part_are first sides demands vs_are ps_are =
    let sides_are = ap sides_in to_is ∙ sides ∙ ap (λ (xs : List NodeId). positions (take (length xs - 1) (drop 1 xs))) named_is in
    subst (λ t. IsWhole source roots t o to us qs) (sym at_is)
    (whole source roots objective constraints declared part ends g are part_are o to us qs first sides_are (ap (map demand_of) to_is ∙ demands) (us_are ∙ vs_are) (qs_are ∙ ps_are))
