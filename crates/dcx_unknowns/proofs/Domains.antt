-- The domain of a problem: each variable that is listed stands in the tree under the number of its name.
use Rattle.std.proofs.Common.{◌≡◌, ℕ, zero, suc, ◌≤◌, false, if◌then◌else◌, List, [], ◌∷◌, map, Some, option_map, sym, ap, subst, ◌∙◌}
use Rattle.std.specs.Prelude.{slice_get}
use Rattle.std.specs.List.{AllByRecursion, IsDistinct}
use Rattle.std.proofs.Math.Logic.{∥∥₁_elim}
use Rattle.std.proofs.lemmas.Option.{none-some, same_Some, slice_get-map, slice_get_within, get_or_from_slice_get}
use Rattle.dcx_math.proofs.Lists.{mapped}
use Rattle.dcx_shape.specs.declared.shape.Sides.{Sides}
use Rattle.dcx_call.specs.Pairs.{same_name}
use Rattle.dcx_call.proofs.Puts.{same_name-refl}
use Rattle.dcx_call.specs.declared.attribute.Variable.{Variable}
use Rattle.dcx_call.specs.declared.call.Call.{Call}
use Rattle.dcx_call.specs.declared.call.Call.TheVariants as calls
use Rattle.dcx_convex.specs.Nodes as convex
use Rattle.dcx_convex.specs.Nodes.{Point, VariableKeeps}
use Rattle.dcx_convex.proofs.Domains.{keeps_prop, variable_prop}
use Rattle.dcx_tree.specs.declared.problem.Problem.{Problem}
use Rattle.dcx_tree.specs.Nodes.{variable_attribute, head_of, arg_sides, convex_node, convex_nodes, number_in}
use Rattle.dcx_tree.specs.Problems.{IsListed, HasCall, AreDeclared}
use Rattle.dcx_tree.specs.Meaning.{names_in, IsInDomain}
use Rattle.dcx_tree.proofs.Names.{found_in}
use Rattle.dcx_tree.proofs.Sublists.{contains_at, distinct_front}
use Rattle.dcx_tree.proofs.Few.{few_variables}
use Rattle.dcx_unknowns.specs.Unknowns.{sides_in, variable_unknowns, point_at}
use Rattle.dcx_unknowns.specs.Laws.{IsVariable, KeepsDomain, AreKept, StandForDomain}
use Rattle.dcx_unknowns.proofs.Owners.{few_unknowns}
use Rattle.dcx_unknowns.proofs.Points.{stand_for_points}

-- ---- names
name_apart : (n : List ℕ) (names : List (List ℕ)) (k : ℕ) (name : List ℕ) → AllByRecursion (λ y. same_name n y ≡ false) names → slice_get names k ≡ Some name → same_name n name ≡ false
name_apart n [] k name all e = absurd (none-some name e)
name_apart n (y ∷ names) zero name all e = subst (λ z. same_name n z ≡ false) (same_Some y name e) all.0
name_apart n (y ∷ names) (suc k) name all e = name_apart n names k name all.1 e

-- a name that stands once goes by its position
pub number_of : (names : List (List ℕ)) (k : ℕ) (name : List ℕ) → IsDistinct same_name names → slice_get names k ≡ Some name → number_in names name ≡ k
unfolding IsDistinct
number_of [] k name d e = absurd (none-some name e)
number_of (n ∷ names) zero name d e =
    ap (λ b. if b then 0 else suc (number_in names name)) (ap (same_name n) (sym (same_Some n name e)) ∙ same_name-refl n)
number_of (n ∷ names) (suc k) name d e =
    ap (λ b. if b then 0 else suc (number_in names name)) (name_apart n names k name d.0 e) ∙ ap suc (number_of names k name d.1 e)

module _ (p : Problem) where
  -- ---- where it is known what is declared
  module _ (d : AreDeclared p.tree p.variables p.parameters) where
    -- a variable goes by its position
    pub number_is : (k : ℕ) (v : Variable) → IsVariable p.variables k v → number_in (names_in p).variables v.name ≡ k
    number_is k v at =
        number_of (map (λ (w : Variable). w.name) p.variables) k v.name
        (distinct_front (map (λ (w : Variable). w.name) p.variables) (map (λ q. q.name) p.parameters) d.distinct)
        (slice_get-map (λ (w : Variable). w.name) p.variables k ∙ ap (option_map (λ (w : Variable). w.name)) at)

    keeps_at : (x : Point) (k : ℕ) (v : Variable) → IsVariable p.variables k v → KeepsDomain v (x k) → KeepsDomain v (x (number_in (names_in p).variables v.name))
    keeps_at x k v at h = subst (λ i. KeepsDomain v (x i)) (sym (number_is k v at)) h

    call_keeps : (x : Point) → AreKept p.variables x → (call : Call) (args : List Sides) (sides : Sides) → IsListed p.variables p.parameters call
        → VariableKeeps x (head_of (names_in p) call args sides)
    call_keeps x kept (calls.Variable v) args sides l = let (k, at) = contains_at p.variables v l in keeps_at x k v at (kept k v at)
    call_keeps x kept (calls.Parameter q) args sides l = tt
    call_keeps x kept (calls.Constant c) args sides l = tt
    call_keeps x kept (calls.Atom m) args sides l = tt
    call_keeps x kept (calls.Linear m) args sides l = tt
    call_keeps x kept (calls.Pairing m) args sides l = tt

    node_keeps : (x : Point) → AreKept p.variables x → (i : ℕ) (n : convex.Node) → convex.IsNode (convex_nodes (names_in p) p.tree) i n → VariableKeeps x n.head
    node_keeps x kept i n at =
        let (m, in_tree, is) = mapped (convex_node (names_in p) p.tree) p.tree i n at in
        subst (λ (z : convex.Node). VariableKeeps x z.head) is (call_keeps x kept m.call (arg_sides p.tree m) m.sides (d.listed i m in_tree))

    variable_keeps : (x : Point) → IsInDomain p x → (k : ℕ) (v : Variable) → IsVariable p.variables k v → KeepsDomain v (x k)
    variable_keeps x dom k v at =
        let stands : HasCall p.tree (calls.Variable v) =
        subst (λ (w : Variable). HasCall p.tree (calls.Variable w)) (get_or_from_slice_get p.variables k v v at) (d.variables_stand k v (slice_get_within p.variables k v at)) in
        let (i, call_is) = stands in
        let (n, there, is) = found_in (slice_get p.tree i) (calls.Variable v) call_is in
        let names = names_in p in
        let kept = dom i (convex_node names p.tree n) (slice_get-map (convex_node names p.tree) p.tree i ∙ ap (option_map (convex_node names p.tree)) there) in
        let here = subst (λ call. VariableKeeps x (head_of names call (arg_sides p.tree n) n.sides)) is kept in
        subst (λ j. KeepsDomain v (x j)) (number_is k v at) here

  -- ---- of each problem
  -- what keeps each variable's domain is in the domain, and the other way round
  pub to_domain : (x : Point) → AreKept p.variables x → IsInDomain p x
  to_domain x kept = λ i n at. ∥∥₁_elim p.declared (variable_prop x n.head) (λ d. node_keeps d x kept i n at)

  pub to_variables : (x : Point) → IsInDomain p x → AreKept p.variables x
  to_variables x dom = λ k v at. ∥∥₁_elim p.declared (keeps_prop (variable_attribute v.whole v.attribute) (sides_in v) (x k)) (λ d. variable_keeps d x dom k v at)

  pub stand_for_domain : StandForDomain p
  stand_for_domain =
      let s = stand_for_points p.variables p.squares in
      record {
        point = λ u of. to_domain (point_at p.variables u) (s.point u of);
        kinds = λ x dom. s.kinds x (to_variables x dom);
        same = λ x dom. s.same x (to_variables x dom);
      }

  pub unknowns_few : variable_unknowns p.variables ≤ 400000000
  unknowns_few = few_unknowns p.variables (few_variables p)
