-- The names are those of the parameters of the problem.
use Rattle.std.proofs.Common.{◌≡◌, ℕ, List, sym, ap, ◌∙◌, subst}
use Rattle.std.specs.List.{list_any}
use Rattle.std.specs.HashSet.{contains}
use Rattle.std.proofs.lemmas.Result.{IfOk-weaker}
use Rattle.dcx_point.specs.Pairs.{same_name}
use Rattle.dcx_call.specs.declared.attribute.Parameter.{Parameter}
use Rattle.dcx_tree.specs.Gather.{IsProblemOf}
use Rattle.dcx_script_values.specs.Values.{State}
use Rattle.dcx_script_state.specs.Declarations.{is_reached}
use Rattle.dcx_script_state.specs.Ends.{asked_for, roots_in}
use Rattle.dcx_script_state.specs.Kept.{state_of}
use Rattle.dcx_script_state.proofs.Asks.{names_reached}
use Rattle.dcx_script_state.proofs.state.State.reached_by.Goals as goal

pub returns : goal.returns
returns c =
    let asked = asked_for c.args.objective c.args.constraints.now in
    let problem = subst (λ (s : State). IsProblemOf s.nodes (roots_in s asked) c.in_ok-problem.problem) (sym c.self.view_is) c.in_ok-problem.ensures in
    IfOk-weaker c.names_of.result _ _
    (λ names h. subst (λ (s : State). (name : List ℕ) → contains same_name names name ≡ is_reached s.nodes asked name) c.self.view_is
    (names_reached (state_of c.self.inside) asked c.in_ok-problem.problem (contains same_name names) c.self.invariant.listed problem
    (λ name. h name ∙ ap (list_any (λ (x : Parameter). same_name name x.name)) c.as_slice.ensures)))
    c.names_of.ensures
