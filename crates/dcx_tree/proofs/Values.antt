-- A part has the values of its whole, whatever numbers its variables and parameters go by.
use Rattle.std.proofs.Common.{◌≡◌, ℕ, zero, suc, ◌<◌, Bool, true, false, if◌then◌else◌, List, [], ◌∷◌, length, map, get_or, Some, option_map, refl, sym, ap, ap₂, ◌∙◌, arith, true≢false}
use Rattle.std.specs.Option.{unwrap_or}
use Rattle.std.specs.List.{slice_get}
use Rattle.std.proofs.lemmas.List.{length-map}
use Rattle.std.proofs.lemmas.Option.{none-some, same_Some, slice_get-map, slice_get_within, get_or_from_slice_get}
use Rattle.dcx_math.proofs.Lists.{mapped}
use Rattle.dcx_shape.specs.declared.shape.Sides.{Sides}
use Rattle.dcx_shape.specs.declared.shape.Sides.TheVariants.{Scalar}
use Rattle.dcx_shape.specs.Shape.{sides_of}
use Rattle.dcx_shape.specs.Sides.{entries_of}
use Rattle.dcx_point.specs.Pairs.{Pairs, same_name}
use Rattle.dcx_point.proofs.Puts.{same_name-refl, same_name-true}
use Rattle.dcx_arena.specs.Nodes.{IsNode, AreNodes, sides_at}
use Rattle.dcx_arena.specs.Gather.{order_of, StandFor, IsGathered}
use Rattle.dcx_convex.specs.Nodes as convex
use Rattle.dcx_convex.specs.Nodes.{Numbers, first_of, value_by}
use Rattle.dcx_convex.proofs.LawsHold.{nodes_are_told}
use Rattle.dcx_call.specs.declared.call.Call.{Call}
use Rattle.dcx_call.specs.declared.call.Call.TheVariants as calls
use Rattle.dcx_call.specs.declared.attribute.Variable.{Variable}
use Rattle.dcx_call.specs.declared.attribute.Parameter.{Parameter}
use Rattle.dcx_call.specs.Calls.{shape_of}
use Rattle.dcx_call.specs.Values.{given_by}
use Rattle.dcx_tree.specs.Nodes.{Names, Node, number_in, head_of, arg_sides, convex_node, convex_nodes, numbers_by}
use Rattle.dcx_tree.specs.Values.{IsNamed}
use Rattle.dcx_tree.specs.Problems.{IsListed}
use Rattle.dcx_tree.proofs.Parts.{part_node}
use Rattle.dcx_tree.proofs.Lawful.{tree_lawful}
use Rattle.dcx_tree.proofs.Sublists.{contains_at}

-- ---- names and their numbers
-- a name is found at its number
number_at : (names : List (List ℕ)) (k : ℕ) (name : List ℕ) → slice_get names k ≡ Some name → get_or names (number_in names name) [] ≡ name
number_at [] k name e = absurd (none-some name e)
number_at (n ∷ names) k name e = by (λ h. number_at names h name) k e (same_name n name) refl
  where
    by : ((h : ℕ) → slice_get names h ≡ Some name → get_or names (number_in names name) [] ≡ name) →
        (h : ℕ) → slice_get (n ∷ names) h ≡ Some name → (b : Bool) → same_name n name ≡ b → get_or (n ∷ names) (if b then 0 else suc (number_in names name)) [] ≡ name
    by rest h f true t = same_name-true n name t
    by rest zero f false t = absurd (true≢false (sym (same_name-refl name) ∙ ap (λ z. same_name z name) (sym (same_Some n name f)) ∙ t))
    by rest (suc h) f false t = rest h f

-- the numbers of a name are those that it is given
pub taken : (names : List (List ℕ)) (given : Pairs) (k : ℕ) (name : List ℕ) → slice_get names k ≡ Some name → numbers_by names given (number_in names name) ≡ given_by given name
taken names given k name e = ap (given_by given) (number_at names k name e)

-- what is listed is named
pub listed_named : (vs : List Variable) (ps : List Parameter) (call : Call) → IsListed vs ps call → IsNamed (record { variables = map (λ v. v.name) vs; parameters = map (λ q. q.name) ps }) call
listed_named vs ps (calls.Variable v) h =
    let (k, at) = contains_at vs v h in
    (k, slice_get-map (λ (x : Variable). x.name) vs k ∙ ap (option_map (λ (x : Variable). x.name)) at)
listed_named vs ps (calls.Parameter q) h =
    let (k, at) = contains_at ps q h in
    (k, slice_get-map (λ (x : Parameter). x.name) ps k ∙ ap (option_map (λ (x : Parameter). x.name)) at)
listed_named vs ps (calls.Constant x) h = tt
listed_named vs ps (calls.Atom m) h = tt
listed_named vs ps (calls.Linear l) h = tt
listed_named vs ps (calls.Pairing p) h = tt

-- a head has one value, by whichever names
same_head : (a b : Names) (setting point : Pairs) (call : Call) (args : List Sides) (sides : Sides) (values : List Numbers) → IsNamed a call → IsNamed b call →
    value_by (numbers_by a.parameters setting) (numbers_by a.variables point) (head_of a call args sides) values
    ≡ value_by (numbers_by b.parameters setting) (numbers_by b.variables point) (head_of b call args sides) values
same_head a b setting point (calls.Variable v) args sides values (k, e) (h, f) =
    ap (first_of (entries_of (sides_of v.shape))) (taken a.variables point k v.name e ∙ sym (taken b.variables point h v.name f))
same_head a b setting point (calls.Parameter p) args sides values (k, e) (h, f) =
    ap (first_of (entries_of (sides_of p.shape))) (taken a.parameters setting k p.name e ∙ sym (taken b.parameters setting h p.name f))
same_head a b setting point (calls.Constant x) args sides values e f = refl
same_head a b setting point (calls.Atom m) args sides values e f = refl
same_head a b setting point (calls.Linear l) args sides values e f = refl
same_head a b setting point (calls.Pairing p) args sides values e f = refl

-- what is told alike of positions that stand for each other
map_stand : {X : Type 0} (order xs' xs : List ℕ) (f g : ℕ → X) → StandFor order xs' xs → ((a' a : ℕ) → slice_get order a' ≡ Some a → f a' ≡ g a) → map f xs' ≡ map g xs
map_stand order [] [] f g e h = refl
map_stand order [] (x ∷ xs) f g e h = absurd (cc)
map_stand order (x' ∷ xs') [] f g e h = absurd (cc)
map_stand order (x' ∷ xs') (x ∷ xs) f g e h =
    let at : slice_get order x' ≡ Some x = cc in
    let rest : StandFor order xs' xs = cc in
    ap₂ (λ y ys. y ∷ ys) (h x' x at) (map_stand order xs' xs f g rest h)

-- ---- a part and its whole
module _ (nodes : List Node) (roots : List ℕ) (part : List Node) (ends : List ℕ) (are : AreNodes shape_of nodes) (are' : AreNodes shape_of part) (g : IsGathered nodes roots part ends)
    (whole_names part_names : Names) (named : (k : ℕ) (n : Node) → IsNode part k n → IsNamed whole_names n.call × IsNamed part_names n.call) (setting point : Pairs) where
  whole_value : ℕ → Numbers
  whole_value i = convex.value_at (convex_nodes whole_names nodes) (numbers_by whole_names.parameters setting) (numbers_by whole_names.variables point) i

  -- the value of the node for which one of the part stands
  stood_value : ℕ → Numbers
  stood_value k = whole_value (get_or (order_of nodes roots) k 0)

  stood_is : (k i : ℕ) → slice_get (order_of nodes roots) k ≡ Some i → stood_value k ≡ whole_value i
  unfolding stood_value
  stood_is k i e = ap whole_value (get_or_from_slice_get (order_of nodes roots) k i 0 e)

  sides_same : (k i : ℕ) → slice_get (order_of nodes roots) k ≡ Some i → sides_at part k ≡ sides_at nodes i
  sides_same k i e =
      let (n, m, at, at', ren) = part_node nodes roots part ends g k i e in
      ap (λ o. unwrap_or (option_map (λ (x : Node). x.sides) o) Scalar) at ∙ ren.same_sides ∙ sym (ap (λ o. unwrap_or (option_map (λ (x : Node). x.sides) o) Scalar) at')

  told : convex.Tells (value_by (numbers_by part_names.parameters setting) (numbers_by part_names.variables point)) (convex_nodes part_names part) stood_value
  unfolding whole_value
  told k m' at =
      let (n, in_part, is) = mapped (convex_node part_names part) part k m' at in
      let (i, m, e, in_whole, ren) = g.renamed k n in_part in
      let s = numbers_by whole_names.parameters setting in
      let x = numbers_by whole_names.variables point in
      let s' = numbers_by part_names.parameters setting in
      let x' = numbers_by part_names.variables point in
      let law = (nodes_are_told (convex_nodes whole_names nodes) (tree_lawful whole_names nodes are).ordered).values s x in
      let here = law i (convex_node whole_names nodes m) (slice_get-map (convex_node whole_names nodes) nodes i ∙ ap (option_map (convex_node whole_names nodes)) in_whole) in
      let args : map stood_value n.args ≡ map whole_value m.args = map_stand (order_of nodes roots) n.args m.args stood_value whole_value ren.same_args stood_is in
      let sides : arg_sides part n ≡ arg_sides nodes m = map_stand (order_of nodes roots) n.args m.args (sides_at part) (sides_at nodes) ren.same_args sides_same in
      let both = named k n in_part in
      let head = same_head whole_names part_names setting point n.call (arg_sides part n) n.sides (map stood_value n.args) both.0 both.1 in
      let call_is : value_by s x (head_of whole_names m.call (arg_sides nodes m) m.sides) (map whole_value m.args)
      ≡ value_by s x (head_of whole_names n.call (arg_sides part n) n.sides) (map stood_value n.args) =
      ap₂ (λ c ds. value_by s x (head_of whole_names c (arg_sides nodes m) ds) (map whole_value m.args)) (sym ren.same_call) (sym ren.same_sides)
      ∙ ap₂ (λ ss vs. value_by s x (head_of whole_names n.call ss n.sides) vs) (sym sides) (sym args) in
      stood_is k i e ∙ here ∙ call_is ∙ head ∙ ap (λ (z : convex.Node). value_by s' x' z.head (map stood_value z.args)) is

  pub part_value : (k i : ℕ) → slice_get (order_of nodes roots) k ≡ Some i →
      convex.value_at (convex_nodes part_names part) (numbers_by part_names.parameters setting) (numbers_by part_names.variables point) k
      ≡ convex.value_at (convex_nodes whole_names nodes) (numbers_by whole_names.parameters setting) (numbers_by whole_names.variables point) i
  unfolding whole_value
  part_value k i e =
      let (n, m, at, at', ren) = part_node nodes roots part ends g k i e in
      let lt : k < length (convex_nodes part_names part) = let w = slice_get_within part k n at in let l = length-map part (convex_node part_names part) in omega (arith, w, l) in
      let law = (nodes_are_told (convex_nodes part_names part) (tree_lawful part_names part are').ordered).one_value (numbers_by part_names.parameters setting)
      (numbers_by part_names.variables point) stood_value told in
      sym (law k lt) ∙ stood_is k i e
