-- The laws of forms that meet the equations hold.
use Rattle.std.proofs.Common.{◌≡◌, ℕ, zero, suc, ◌<◌, arith, Bool, true, false, List, length, map, refl, sym, ap, ◌∙◌}
use Rattle.std.proofs.Math.Path.{fun_ext}
use Rattle.dcx_shape.specs.Sides.{entries_of}
use Rattle.dcx_arena.specs.Nodes.{IsNode}
use Rattle.dcx_convex.specs.Nodes.{Numbers, Setting, first_of, arguments}
use Rattle.dcx_convex.specs.Rules.{Rules, is_constant, judgement_at}
use Rattle.dcx_convex.specs.Reductions.{Unknowns}
use Rattle.dcx_convex.proofs.Told.{map-same}
use Rattle.dcx_tree.specs.declared.problem.Problem.{Problem}
use Rattle.dcx_tree.specs.Nodes.{Node, arg_sides}
use Rattle.dcx_tree.specs.Meaning.{names_in}
use Rattle.dcx_unknowns.specs.Unknowns.{variable_kinds, point_at}
use Rattle.dcx_unknowns.specs.Layout.{is_reduced, aux_kind, aux_before}
use Rattle.dcx_unknowns.proofs.LawsHold as unknowns
use Rattle.dcx_unknowns.specs.Equations.{Forms, call_entry, filling_of, AllStand}
use Rattle.dcx_unknowns.specs.EquationLaws.{EquationsReduce, EquationsHaveForms, EquationsDetermine}
use Rattle.dcx_unknowns.proofs.OfKinds.{kinds_left}
use Rattle.dcx_unknowns.proofs.NodeForms.{nodes_of, node_at, constant_form, reduced_form, not_reduced}
use Rattle.dcx_unknowns.proofs.Sound.{assigned_kinds, all_stand}
use Rattle.dcx_unknowns.proofs.Lift.{filling_at, lift}
use Rattle.dcx_unknowns.proofs.Lifted.{lifted}
use Rattle.dcx_unknowns.proofs.Formed.{formed, formed_stand}

pub equations_reduce : EquationsReduce
equations_reduce rules p s forms all = record {
  domain = λ u a. (unknowns.domains_are_unknowns p).point u
      (kinds_left (variable_kinds p.variables) (map aux_kind (aux_before rules p (length p.tree))) u (assigned_kinds rules p s forms u a));
  ray = unknowns.rays_are_unknowns p.variables;
  sound = λ u a holds. all_stand rules p s forms u all (assigned_kinds rules p s forms u a) holds;
  lift = λ y. lift rules p y (filling_at p s y);
  lifts = λ y dom. lifted rules p s y dom forms all;
}

-- ---- forms that meet the equations
pub equations_have_forms : EquationsHaveForms
equations_have_forms rules p s = (formed rules p s, formed_stand rules p s)

module _ (rules : Rules) (p : Problem) (s : Setting) (f g : Forms) (stand : AllStand rules p s f) (also : AllStand rules p s g) (u : Unknowns) where
  -- of one node they are the same, where they are of its arguments
  node_determined : (i : ℕ) (n : Node) → IsNode p.tree i n → is_reduced rules p i ≡ true → map (f u) n.args ≡ map (g u) n.args → f u i ≡ g u i
  node_determined i n at e args = fun_ext (λ j.
      reduced_form p rules s f stand i n at e u j
      ∙ ap (λ (fs : List Numbers). first_of (entries_of n.sides) (call_entry (names_in p) s (point_at p.variables u) n.call (arg_sides p.tree n) (arguments fs) (filling_of rules p i u)) j) args
      ∙ sym (reduced_form p rules s g also i n at e u j))

  determined_below : (m i : ℕ) → i < m → i < length p.tree → f u i ≡ g u i
  determined_below zero i b c = absurd (omega arith)
  determined_below (suc m) i b c = by (is_reduced rules p i) refl (λ a l k. determined_below m a l k)
    where
      by : (r : Bool) → is_reduced rules p i ≡ r → ((a : ℕ) → a < m → a < length p.tree → f u a ≡ g u a) → f u i ≡ g u i
      by true e earlier =
          let (n, at) = node_at p i c in
          node_determined i n at e (map-same (λ a. a < i) (f u) (g u) (λ a l. earlier a (omega (arith, l, b)) (omega (arith, l, c))) n.args (p.nodes.earlier i n at))
      by false e earlier =
          let x = point_at p.variables u in
          let t = not_reduced (is_constant rules (judgement_at rules (nodes_of p) i)) e in
          constant_form p rules s f stand u x i c t ∙ sym (constant_form p rules s g also u x i c t)

pub equations_determine : EquationsDetermine
equations_determine rules p s f g stand also u i b = determined_below rules p s f g stand also u (suc i) i (omega arith) b
