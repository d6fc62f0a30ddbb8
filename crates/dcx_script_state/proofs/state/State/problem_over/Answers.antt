-- What is declared is what the roots say.
use Rattle.std.proofs.Common.{ap, sym, ◌∙◌, subst}
use Rattle.std.specs.List.{IsDistinct}
use Rattle.dcx_point.specs.Pairs.{same_name}
use Rattle.dcx_call.specs.Attributes.{AreSquare}
use Rattle.dcx_tree.specs.declared.roots.Roots.{Roots}
use Rattle.dcx_tree.specs.Problems.{declared_names}
use Rattle.dcx_script_values.specs.Values.{State}
use Rattle.dcx_script_state.proofs.Asks.{declarations_are}
use Rattle.dcx_script_state.proofs.state.State.problem_over.Goals as goal

pub gather-requires-clause-declared : goal.gather-requires-clause-declared
gather-requires-clause-declared c =
    declarations_are c.self.inside.tree c.in_ok-roots.roots c.self.inside.declared.variables c.self.inside.declared.parameters
    (ap (λ (r : Roots). r.variables) c.in_ok-roots.ensures.roots ∙ sym (ap (λ (s : State). s.variables) c.self.view_is))
    (ap (λ (r : Roots). r.parameters) c.in_ok-roots.ensures.roots ∙ sym (ap (λ (s : State). s.parameters) c.self.view_is))
    c.self.invariant.listed
    (subst (λ (s : State). IsDistinct same_name (declared_names s.variables s.parameters)) (sym c.self.view_is) c.in_ok-roots.ensures.distinct)
    (subst (λ (s : State). AreSquare s.variables) (sym c.self.view_is) c.in_ok-roots.ensures.squares)
