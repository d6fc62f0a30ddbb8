-- A setting fits the parameters of a problem where the nodes of its parameters are as their attributes demand.
use Rattle.std.proofs.Common.{◌≡◌, ℕ, ◌↔◌, List, map, get_or, Some, option_map, sym, ap, ◌∙◌, subst, refl}
use Rattle.std.proofs.Props.{props}
use Rattle.std.specs.List.{slice_get, All}
use Rattle.std.proofs.Math.Logic.{∥∥₁_elim}
use Rattle.std.proofs.lemmas.Option.{slice_get-map, slice_get-get_or}
use Rattle.dcx_shape.specs.declared.shape.Sides.{Sides}
use Rattle.dcx_shape.specs.Shape.{sides_of}
use Rattle.dcx_point.specs.Pairs.{Pairs}
use Rattle.dcx_arena.specs.Nodes.{call_at}
use Rattle.dcx_convex.specs.Nodes as convex
use Rattle.dcx_convex.specs.Nodes.{Numbers, EachNode, Keeps, ParameterKeeps}
use Rattle.dcx_convex.proofs.Domains.{keeps_prop}
use Rattle.dcx_call.specs.declared.attribute.Variable.{Variable}
use Rattle.dcx_call.specs.declared.attribute.Parameter.{Parameter}
use Rattle.dcx_call.specs.declared.call.Call.{Call}
use Rattle.dcx_call.specs.declared.call.Call.TheVariants as calls
use Rattle.dcx_call.specs.Attributes.{IsWithin}
use Rattle.dcx_call.specs.Values.{given_by}
use Rattle.dcx_tree.specs.Nodes.{Names, Node, attribute_of, head_of, arg_sides, convex_node, convex_nodes, numbers_by}
use Rattle.dcx_tree.specs.Problems.{IsListed, AreDeclared}
use Rattle.dcx_tree.specs.Meaning.{names_in, setting_of}
use Rattle.dcx_tree.proofs.Names.{found_in}
use Rattle.dcx_tree.proofs.Sublists.{contains_at}
use Rattle.dcx_tree.proofs.Values.{taken}
use Rattle.dcx_domain.proofs.Points.{same_attribute, within_prop}
use Rattle.dcx_fit.specs.Laws.{HoldsForFitting}
use Rattle.dcx_math.proofs.Lists.{mapped, holds_at}

-- the numbers that the setting gives the parameter are as its attribute demands
abbrev KeptBy : Pairs → Parameter → Type 0
KeptBy given q = IsWithin q.attribute (sides_of q.shape) (given_by given q.name)

-- ---- the parameters and the nodes
module _ (nodes : List Node) (vs : List Variable) (ps : List Parameter) (d : AreDeclared nodes vs ps) (names : Names) (are : names.parameters ≡ map (λ q. q.name) ps) (given : Pairs) where
  -- a node with a parameter is as is demanded exactly where the parameter's array is
  demand : (k : ℕ) (q : Parameter) → slice_get ps k ≡ Some q → (args : List Sides) (sides : Sides)
      → ParameterKeeps (numbers_by names.parameters given) (head_of names (calls.Parameter q) args sides) ↔ KeptBy given q
  demand k q at args sides =
      let named : slice_get names.parameters k ≡ Some q.name = ap (λ ns. slice_get ns k) are ∙ slice_get-map (λ (p : Parameter). p.name) ps k ∙ ap (option_map (λ (p : Parameter). p.name)) at in
      subst (λ (f : Numbers). Keeps (attribute_of q.attribute) (sides_of q.shape) f ↔ KeptBy given q) (sym (taken names.parameters given k q.name named))
      (same_attribute q.attribute (sides_of q.shape) (given_by given q.name))

  -- a parameter that has a node
  stands_kept : EachNode (convex_nodes names nodes) (λ n. ParameterKeeps (numbers_by names.parameters given) n.head) → (k : ℕ) (q : Parameter) → slice_get ps k ≡ Some q
      → (i : ℕ) → call_at nodes i ≡ Some (calls.Parameter q) → KeptBy given q
  stands_kept h k q at i call_is =
      let (n, there, is) = found_in (slice_get nodes i) (calls.Parameter q) call_is in
      let kept = h i (convex_node names nodes n) (slice_get-map (convex_node names nodes) nodes i ∙ ap (option_map (convex_node names nodes)) there) in
      (demand k q at (arg_sides nodes n) n.sides).0 (subst (λ call. ParameterKeeps (numbers_by names.parameters given) (head_of names call (arg_sides nodes n) n.sides)) is kept)

  to_parameters : EachNode (convex_nodes names nodes) (λ n. ParameterKeeps (numbers_by names.parameters given) n.head) → All (KeptBy given) ps
  to_parameters h = λ k e lt. let (i, call_is) = d.parameters_stand k e lt in stands_kept h k (get_or ps k e) (slice_get-get_or ps k e lt) i call_is

  call_keeps : All (KeptBy given) ps → (call : Call) (args : List Sides) (sides : Sides) → IsListed vs ps call → ParameterKeeps (numbers_by names.parameters given) (head_of names call args sides)
  call_keeps h (calls.Variable v) args sides l = tt
  call_keeps h (calls.Parameter q) args sides l = let (k, at) = contains_at ps q l in (demand k q at args sides).1 (holds_at (KeptBy given) ps k q h at)
  call_keeps h (calls.Constant x) args sides l = tt
  call_keeps h (calls.Atom m) args sides l = tt
  call_keeps h (calls.Linear m) args sides l = tt
  call_keeps h (calls.Pairing m) args sides l = tt

  to_nodes : All (KeptBy given) ps → EachNode (convex_nodes names nodes) (λ n. ParameterKeeps (numbers_by names.parameters given) n.head)
  to_nodes h i m at =
      let (n, in_nodes, is) = mapped (convex_node names nodes) nodes i m at in
      subst (λ (z : convex.Node). ParameterKeeps (numbers_by names.parameters given) z.head) is (call_keeps h n.call (arg_sides nodes n) n.sides (d.listed i n in_nodes))

-- ---- of a problem
parameter_prop : (s : convex.Setting) (h : convex.Head) → IsProp (ParameterKeeps s h)
parameter_prop s (convex.Variable d) = hlevel props
parameter_prop s (convex.Parameter d) = keeps_prop d.attribute d.sides (s d.number)
parameter_prop s (convex.Constant ys) = hlevel props
parameter_prop s (convex.Apply c) = hlevel props

nodes_prop : (nodes : List convex.Node) (s : convex.Setting) → IsProp (EachNode nodes (λ n. ParameterKeeps s n.head))
nodes_prop nodes s f g = λ z i n at. parameter_prop s n.head (f i n at) (g i n at) z

kept_prop : (ps : List Parameter) (given : Pairs) → IsProp (All (KeptBy given) ps)
kept_prop ps given f g = λ z k e lt.
    let q = get_or ps k e in
    within_prop q.attribute (sides_of q.shape) (given_by given q.name) (f k e lt) (g k e lt) z

pub fitting_holds : HoldsForFitting
fitting_holds p given = (
  (λ h.
      let kept : All (KeptBy given) p.parameters =
      ∥∥₁_elim p.declared (kept_prop p.parameters given) (λ d. to_parameters p.tree p.variables p.parameters d (names_in p) refl given h.fits.parameters) in
      (record { named = h.named; met = λ k e lt. record { shaped = h.shaped k e lt; within = kept k e lt } }, h.fits.divisors)),
  (λ (f, divisors). record {
    named = f.named;
    shaped = λ k e lt. (f.met k e lt).shaped;
    fits = record {
      parameters = ∥∥₁_elim p.declared (nodes_prop (convex_nodes (names_in p) p.tree) (setting_of p given))
          (λ d. to_nodes p.tree p.variables p.parameters d (names_in p) refl given (λ k e lt. (f.met k e lt).within));
      divisors = divisors;
    };
  }),
)
