-- The unknown of an entry: at the unknowns of a point it is that entry.
use Rattle.std.proofs.Common.{◌≡◌, ℕ, ◌<◌, map, Some, option_map, slice_get, sym, ap, ◌∙◌, subst}
use Rattle.std.proofs.Math.Logic.{∥∥₁_elim}
use Rattle.std.proofs.lemmas.Option.{slice_get-map, slice_get_within, get_or_from_slice_get}
use Rattle.dcx_math.proofs.Orders.{≡ℚ_prop}
use Rattle.dcx_shape.specs.Sides.{entries_of}
use Rattle.dcx_call.specs.declared.attribute.Variable.{Variable}
use Rattle.dcx_call.specs.declared.call.Call.TheVariants as calls
use Rattle.dcx_convex.specs.Nodes as convex
use Rattle.dcx_convex.specs.Nodes.{Numbers, Point, Setting, first_of, value_by, value_at}
use Rattle.dcx_convex.specs.Rules.{Rules, judgement_at}
use Rattle.dcx_convex.specs.Reductions.{Unknowns, StandsFor, IsLifted}
use Rattle.dcx_convex.proofs.Told.{value_tells}
use Rattle.dcx_convex.proofs.Signs.{first_in}
use Rattle.dcx_tree.specs.declared.problem.Problem.{Problem}
use Rattle.dcx_tree.specs.Nodes.{head_of, arg_sides, convex_node, number_in}
use Rattle.dcx_tree.specs.Problems.{HasCall, AreDeclared}
use Rattle.dcx_tree.specs.Meaning.{names_in, convex_problem}
use Rattle.dcx_tree.proofs.Lawful.{problem_lawful}
use Rattle.dcx_tree.proofs.Names.{found_in}
use Rattle.dcx_linear.specs.Rows.{LinearProgram}
use Rattle.dcx_unknowns.specs.Unknowns.{sides_in, first_unknown, unknown_from, number_at, point_at}
use Rattle.dcx_unknowns.specs.Laws.{IsVariable}
use Rattle.dcx_unknowns.proofs.Domains.{number_is}
use Rattle.dcx_unknowns.proofs.Points.{array_is}
use Rattle.dcx_graph.specs.AsLinear.{IsReductionAt}

-- an entry of a point of unknowns is its unknown
pub entry_unknown : (p : Problem) (u : Unknowns) (k j n : ℕ) (v : Variable) → IsVariable p.variables k v → j < entries_of (sides_in v) → unknown_from (first_unknown p.variables k) v j ≡ Some n →
    point_at p.variables u k j ≡ u n
entry_unknown p u k j n v at b e =
    ap (λ (f : Numbers). f j) (array_is p.variables u k v at)
    ∙ first_in (entries_of (sides_in v)) (λ i. number_at u (unknown_from (first_unknown p.variables k) v i)) j b
    ∙ ap (number_at u) e

module _ (rules : Rules) (p : Problem) (s : Setting) (l : LinearProgram) (is : IsReductionAt rules p s l) (y : Point) (t : Unknowns) (low : IsLifted is.reduced (convex_problem p) s y t) where
  -- the array that stands for a variable's node is that of the point
  node_entry : (i : ℕ) (n : convex.Node) (d : convex.Declared) → convex.IsNode (convex_problem p).nodes i n → n.head ≡ convex.Variable d
      → first_of (entries_of d.sides) (is.reduced.point t d.number) ≡ first_of (entries_of d.sides) (y d.number)
  node_entry i n d at e =
      let forms = is.reduced.forms t in
      let stands = is.reduction.sound t low.assignment low.rows i n at in
      let here : forms i ≡ first_of (entries_of d.sides) (is.reduced.point t d.number) =
      subst (λ h. StandsFor rules s (is.reduced.point t) h (map (judgement_at rules (convex_problem p).nodes) n.args) (map forms n.args) (forms i)) e stands in
      let told = value_tells (convex_problem p).nodes (problem_lawful p).ordered s y i n at in
      let there : value_at (convex_problem p).nodes s y i ≡ first_of (entries_of d.sides) (y d.number) =
      told ∙ ap (λ h. value_by s y h (map (value_at (convex_problem p).nodes s y) n.args)) e in
      sym here ∙ low.same i (slice_get_within (convex_problem p).nodes i n at) ∙ there

  declared_entry : AreDeclared p.tree p.variables p.parameters → (k j : ℕ) (v : Variable) → IsVariable p.variables k v → j < entries_of (sides_in v) → is.reduced.point t k j ≡ y k j
  declared_entry d k j v at b =
      let stands : HasCall p.tree (calls.Variable v) =
      subst (λ (w : Variable). HasCall p.tree (calls.Variable w)) (get_or_from_slice_get p.variables k v v at) (d.variables_stand k v (slice_get_within p.variables k v at)) in
      let (i, call_is) = stands in
      let (n, there, call) = found_in (slice_get p.tree i) (calls.Variable v) call_is in
      let names = names_in p in
      let same = node_entry i (convex_node names p.tree n) _
      (slice_get-map (convex_node names p.tree) p.tree i ∙ ap (option_map (convex_node names p.tree)) there)
      (ap (λ c. head_of names c (arg_sides p.tree n) n.sides) call) in
      let number = number_is p d k v at in
      subst (λ m. is.reduced.point t m j ≡ y m j) number
      (sym (first_in (entries_of (sides_in v)) (is.reduced.point t (number_in names.variables v.name)) j b) ∙ ap (λ (f : Numbers). f j) same
      ∙ first_in (entries_of (sides_in v)) (y (number_in names.variables v.name)) j b)

  pub lifted_entry : (k j n : ℕ) (v : Variable) → IsVariable p.variables k v → j < entries_of (sides_in v) → unknown_from (first_unknown p.variables k) v j ≡ Some n → t n ≡ y k j
  lifted_entry k j n v at b e =
      sym (entry_unknown p t k j n v at b e)
      ∙ ap (λ (x : Point). x k j) (sym (is.point t))
      ∙ ∥∥₁_elim p.declared (≡ℚ_prop (is.reduced.point t k j) (y k j)) (λ d. declared_entry d k j v at b)
