-- Forms that meet the equations: each node's from those of its arguments, which stand before it.
use Rattle.std.proofs.Common.{◌≡◌, ℕ, zero, suc, ◌<◌, arith, Bool, true, false, IsTrue, List, map, Option, Some, None, slice_get, refl, ap, ap₂, ◌∙◌}
use Rattle.std.proofs.lemmas.Bool.{and_parts}
use Rattle.dcx_shape.specs.Sides.{entries_of}
use Rattle.dcx_convex.specs.Nodes as convex
use Rattle.dcx_convex.specs.Nodes.{Numbers, Point, Setting, zeros, first_of, arguments}
use Rattle.dcx_convex.specs.Rules.{Rules, Plain, Parametrized, Judgement, is_constant, judgement_at}
use Rattle.dcx_convex.specs.Reductions.{Unknowns}
use Rattle.dcx_convex.proofs.Told.{map-same}
use Rattle.dcx_convex.proofs.LawsHold.{constants_are_fixed}
use Rattle.dcx_tree.specs.declared.problem.Problem.{Problem}
use Rattle.dcx_tree.specs.Nodes.{Node, arg_sides}
use Rattle.dcx_tree.specs.Meaning.{names_in}
use Rattle.dcx_unknowns.specs.Unknowns.{point_at}
use Rattle.dcx_unknowns.specs.Layout.{is_reduced}
use Rattle.dcx_unknowns.specs.Equations.{Forms, call_entry, filling_of, Stands, AllStand}
use Rattle.dcx_unknowns.proofs.NodeForms.{nodes_of, not_reduced}

-- a number reaches no variable
constant_fixed : (rules : Rules) (g : Judgement) → IsTrue (is_constant rules g) → IsTrue g.fixed
constant_fixed Plain g t = t
constant_fixed Parametrized g t = (and_parts g.fixed g.unparametrized t).0

module _ (rules : Rules) (p : Problem) (s : Setting) where
  module _ (u : Unknowns) where
    -- the form of node i, where it is reduced, from these forms of its arguments
    abbrev entries_from : ℕ → Node → List Numbers → Numbers
    entries_from i n fs = first_of (entries_of n.sides) (call_entry (names_in p) s (point_at p.variables u) n.call (arg_sides p.tree n) (arguments fs) (filling_of rules p i u))

    abbrev form_by : ℕ → (ℕ → Numbers) → Bool → Option Node → Numbers
    form_by i f false o = convex.value_at (nodes_of p) s (point_at p.variables u) i
    form_by i f true None = zeros
    form_by i f true (Some n) = entries_from i n (map f n.args)

    -- the same, followed through so many calls of calls
    abbrev form_within : ℕ → ℕ → Numbers
    form_within zero i = zeros
    form_within (suc depth) i = form_by i (form_within depth) (is_reduced rules p i) (slice_get p.tree i)

    -- deep enough is deep enough
    within_same : (d e i : ℕ) → i < d → i < e → form_within d i ≡ form_within e i
    within_same zero e i b c = absurd (omega arith)
    within_same (suc d) zero i b c = absurd (omega arith)
    within_same (suc d) (suc e) i b c = by (is_reduced rules p i) (slice_get p.tree i) refl (λ a l m. within_same d e a l m)
      where
        by : (r : Bool) (o : Option Node) → slice_get p.tree i ≡ o → ((a : ℕ) → a < d → a < e → form_within d a ≡ form_within e a) → form_by i (form_within d) r o ≡ form_by i (form_within e) r o
        by false o at ih = refl
        by true None at ih = refl
        by true (Some n) at ih = ap (entries_from i n) (map-same (λ a. a < i) (form_within d) (form_within e) (λ a l. ih a (omega (arith, l, b)) (omega (arith, l, c))) n.args (p.nodes.earlier i n at))

  abbrev pub formed : Forms
  formed u i = form_within u (suc i) i

  pub formed_stand : AllStand rules p s formed
  formed_stand i n at = by (is_reduced rules p i) refl
    where
      by : (b : Bool) → is_reduced rules p i ≡ b → Stands rules p s formed i n b
      by true e = λ u j.
          ap (λ (f : Numbers). f j)
          (ap₂ (form_by u i (form_within u i)) e at
          ∙ ap (entries_from u i n) (map-same (λ a. a < i) (form_within u i) (formed u) (λ a l. within_same u i (suc a) a l (omega arith)) n.args (p.nodes.earlier i n at)))
      by false e = λ u x j.
          ap (λ (f : Numbers). f j)
          (ap₂ (form_by u i (form_within u i)) e at
          ∙ constants_are_fixed rules (nodes_of p) s (point_at p.variables u) x i
          (constant_fixed rules (judgement_at rules (nodes_of p) i) (not_reduced (is_constant rules (judgement_at rules (nodes_of p) i)) e)))
