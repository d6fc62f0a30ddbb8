-- What the equations say of node i: its form is its value, or its entries.
use Rattle.std.proofs.Common.{◌≡◌, inl, inr, ℕ, ◌<◌, arith, Bool, true, false, not, IsTrue, List, length, map, refl, sym, ap, ◌∙◌, subst}
use Rattle.std.proofs.Math.Path.{fun_ext}
use Rattle.std.proofs.lemmas.Bool.{false≢true}
use Rattle.std.proofs.lemmas.List.{length-map}
use Rattle.std.proofs.lemmas.Option.{slice_get_cases}
use Rattle.dcx_shape.specs.Sides.{entries_of}
use Rattle.dcx_arena.specs.Nodes.{IsNode}
use Rattle.dcx_call.specs.declared.call.Call.{Call}
use Rattle.dcx_call.specs.declared.call.Call.TheVariants as calls
use Rattle.dcx_convex.specs.Nodes as convex
use Rattle.dcx_convex.specs.Nodes.{Point, Setting, IsOrdered, first_of}
use Rattle.dcx_convex.specs.Rules.{Rules, Judgement, is_constant, judgement_by, judgement_at}
use Rattle.dcx_convex.specs.Reductions.{Unknowns}
use Rattle.dcx_convex.proofs.Told.{judgement_tells}
use Rattle.dcx_tree.specs.declared.problem.Problem.{Problem}
use Rattle.dcx_tree.specs.Nodes.{Node, head_of, arg_sides, convex_node}
use Rattle.dcx_tree.specs.Meaning.{names_in, convex_problem}
use Rattle.dcx_tree.proofs.Lawful.{problem_lawful}
use Rattle.dcx_tree.proofs.AllReached.{convex_at}
use Rattle.dcx_unknowns.specs.Layout.{is_reduced}
use Rattle.dcx_unknowns.specs.Equations.{Forms, entry_by, Stands, AllStand}
use Rattle.dcx_unknowns.proofs.Constants.{numbers_constant}
use Rattle.dcx_unknowns.proofs.CallGraphs.{IsReducible}

module _ (p : Problem) where
  abbrev pub nodes_of : List convex.Node
  nodes_of = (convex_problem p).nodes

  pub nodes_ordered : IsOrdered nodes_of
  nodes_ordered = (problem_lawful p).ordered

  pub nodes_counted : length nodes_of ≡ length p.tree
  nodes_counted = length-map p.tree (convex_node (names_in p) p.tree)

  pub node_at : (i : ℕ) → i < length p.tree → (n : Node) × IsNode p.tree i n
  node_at i b = elim (slice_get_cases p.tree i).1 [ inl h ↦ (h.0, h.2) | inr h ↦ let l = h.0 in absurd (omega (arith, l, b)) ]

  -- a node that is reduced is no number by the rules
  module _ (rules : Rules) (i : ℕ) (n : Node) (at : IsNode p.tree i n) (reduced : is_reduced rules p i ≡ true) where
    pub not_constant : ¬ IsTrue (is_constant rules (judgement_by rules (head_of (names_in p) n.call (arg_sides p.tree n) n.sides) (map (judgement_at rules nodes_of) n.args)))
    not_constant t =
        let told = subst (λ (g : Judgement). IsTrue (is_constant rules g)) (sym (judgement_tells rules nodes_of nodes_ordered i (convex_node (names_in p) p.tree n) (convex_at p i n at))) t in
        false≢true (sym (ap not told) ∙ reduced)

    pub reducible : IsReducible n.call
    reducible = by n.call not_constant
      where
        by : (call : Call) → ¬ IsTrue (is_constant rules (judgement_by rules (head_of (names_in p) call (arg_sides p.tree n) n.sides) (map (judgement_at rules nodes_of) n.args))) → IsReducible call
        by (calls.Variable v) h = tt
        by (calls.Parameter q) h = tt
        by (calls.Constant c) h = absurd (h (numbers_constant rules _ (map (judgement_at rules nodes_of) n.args)))
        by (calls.Atom m) h = tt
        by (calls.Linear l) h = tt
        by (calls.Pairing q) h = tt

  -- ---- forms that meet the equations
  module _ (rules : Rules) (s : Setting) (forms : Forms) (all : AllStand rules p s forms) where
    -- of a number
    pub constant_form : (u : Unknowns) (x : Point) (i : ℕ) → i < length p.tree → IsTrue (is_constant rules (judgement_at rules nodes_of i)) → forms u i ≡ convex.value_at nodes_of s x i
    constant_form u x i b t =
        let (n, at) = node_at i b in
        fun_ext (λ j. subst (Stands rules p s forms i n) (ap not t) (all i n at) u x j)

    -- of a node that is reduced
    pub reduced_form : (i : ℕ) (n : Node) → IsNode p.tree i n → is_reduced rules p i ≡ true → (u : Unknowns) (j : ℕ) →
        forms u i j ≡ first_of (entries_of n.sides) (entry_by rules p s forms i n u) j
    reduced_form i n at e = subst (Stands rules p s forms i n) e (all i n at)

-- the other side of a test
pub not_reduced : (b : Bool) → not b ≡ false → IsTrue b
not_reduced true e = refl
not_reduced false e = absurd (false≢true (sym e))
