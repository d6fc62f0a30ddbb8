-- The tests are those of the definition, and the names are those that the problem reaches.
use Rattle.std.proofs.Common.{◌≡◌, ℕ, false, not, ◌&&◌, List, map, sym, ap, ap₂, ◌∙◌, subst}
use Rattle.std.specs.List.{list_all}
use Rattle.std.specs.HashSet.{contains}
use Rattle.dcx_point.specs.Pairs.{same_name}
use Rattle.dcx_tree.specs.declared.constraint.Constraint.{Constraint}
use Rattle.dcx_tree.specs.Problems.{AreConstraints}
use Rattle.dcx_script_values.specs.Values.{State}
use Rattle.dcx_script_values.specs.Meant.{meant}
use Rattle.dcx_script_state.specs.Declarations.{is_objective, are_sides, is_reached}
use Rattle.dcx_script_state.specs.Ends.{asked_for}
use Rattle.dcx_script_state.specs.Kept.{state_of, asked_of}
use Rattle.dcx_script_state.proofs.Asks.{kept_asked}
use Rattle.dcx_script_state.proofs.Bindings.{is_none-seen}
use Rattle.dcx_script_state.proofs.Solves.{problem_refused, problem_again, problem_made}
use Rattle.dcx_script_state.proofs.Tested.{objective_is, constraints_are, few_constraints}
use Rattle.dcx_script_state.proofs.state.State.make_problem.Goals as goal
use Rattle.dcx_script_state.proofs.state.State.make_problem.Goals.{then-not-is_objective-via-then-not-is_objective, then-not-is_objective-via-else-not-is_objective+then-not-are_constraints}

pub returns-then-not-is_objective : goal.returns-then-not-is_objective
returns-then-not-is_objective c =
    let few = few_constraints c.args.values.now c.in_ok-constraints.constraints.items c.in_ok-constraints.ensures c.requires.few in
    let objective = objective_is c.self.inside.tree c.args.objective.node c.is_objective.result c.is_objective.ensures in
    let may = elim c.then-not-is_objective.branch as
    (λ _. (is_objective c.self.inside.tree c.args.objective.node.0 && list_all (are_sides c.self.inside.tree) c.in_ok-constraints.constraints.items) ≡ false) [
      | then-not-is_objective-via-then-not-is_objective w ↦
          ap (λ a. a && list_all (are_sides c.self.inside.tree) c.in_ok-constraints.constraints.items) (objective ∙ w.if-not-is_objective.true)
      | then-not-is_objective-via-else-not-is_objective+then-not-are_constraints w ↦
          ap₂ (λ a b. a && b) (objective ∙ w.if-not-is_objective.false)
          (constraints_are c.self.inside.tree c.in_ok-constraints.constraints.items w.deref.result.now w.are_constraints.result few w.deref.ensures.value
          w.are_constraints.ensures ∙ w.if-not-are_constraints.true)
    ] in
    problem_refused c.args.place c.args.objective.sense c.args.objective.node.0 c.args.objective.place (map meant c.args.values.now)
    (state_of c.self.inside) c.args.self.now c.in_ok-constraints.constraints.items c.self.view_is c.in_ok-constraints.ensures may

pub returns-then-is_some : goal.returns-then-is_some
returns-then-is_some c =
    let few = few_constraints c.args.values.now c.in_ok-constraints.constraints.items c.in_ok-constraints.ensures c.requires.few in
    let may =
    ap₂ (λ a b. a && b)
    (objective_is c.self.inside.tree c.args.objective.node c.is_objective.result c.is_objective.ensures ∙ c.if-not-is_objective.false)
    (constraints_are c.self.inside.tree c.in_ok-constraints.constraints.items c.deref.result.now c.are_constraints.result few c.deref.ensures.value c.are_constraints.ensures
    ∙ c.if-not-are_constraints.false) in
    problem_again c.args.place c.args.objective.sense c.args.objective.node.0 c.args.objective.place (map meant c.args.values.now)
    (state_of c.self.inside) c.args.self.now c.in_ok-constraints.constraints.items c.self.view_is c.in_ok-constraints.ensures may
    (is_none-seen asked_of c.self.inside.asked c.is_some.result c.is_some.ensures ∙ ap not c.if-is_some.true)

pub invariant_of-self : goal.invariant_of-self
invariant_of-self c =
    kept_asked (state_of c.self.inside) c.self.inside.asked (record { objective = c.args.objective; constraints = c.in_ok-constraints.constraints; reached = c.in_ok-reached.reached })
    c.self.invariant
    (c.is_objective.ensures.0 c.if-not-is_objective.false)
    (subst (AreConstraints c.self.inside.tree) c.deref.ensures.value (c.are_constraints.ensures.0 c.if-not-are_constraints.false))
    (subst (λ (s : State). (name : List ℕ)
    → contains same_name c.in_ok-reached.reached name ≡ is_reached s.nodes (asked_for c.args.objective c.in_ok-constraints.constraints.items) name) (sym c.self.view_is)
    (subst (λ (cs : List Constraint). (name : List ℕ) → contains same_name c.in_ok-reached.reached name ≡ is_reached c.args.self.now.nodes (asked_for c.args.objective cs) name) c.deref-2.ensures.value
    c.in_ok-reached.ensures))

pub returns : goal.returns
returns c =
    let few = few_constraints c.args.values.now c.in_ok-constraints.constraints.items c.in_ok-constraints.ensures c.requires.few in
    let may =
    ap₂ (λ a b. a && b)
    (objective_is c.self.inside.tree c.args.objective.node c.is_objective.result c.is_objective.ensures ∙ c.if-not-is_objective.false)
    (constraints_are c.self.inside.tree c.in_ok-constraints.constraints.items c.deref.result.now c.are_constraints.result few c.deref.ensures.value c.are_constraints.ensures
    ∙ c.if-not-are_constraints.false) in
    problem_made c.args.place c.args.objective.sense c.args.objective.node.0 c.args.objective.place (map meant c.args.values.now)
    (state_of c.self.inside) c.args.self.now c.in_ok-constraints.constraints.items c.self.view_is c.in_ok-constraints.ensures may
    (is_none-seen asked_of c.self.inside.asked c.is_some.result c.is_some.ensures ∙ ap not c.if-is_some.false)
