-- Where the objective keeps its rule, the constraints decide.
use Rattle.std.proofs.Common.{◌≡◌, ◌<◌, List, true, false, length, IfNone, IfSome, arith, sym, subst, true≢false, ◌∙◌}
use Rattle.std.specs.List.{list_all}
use Rattle.std.proofs.lemmas.Bool.{and_parts}
use Rattle.dcx_tree.specs.declared.constraint.Constraint.{Constraint}
use Rattle.dcx_rules.specs.Accepted.{AreSides, IsBroken, objective_stands, stands}
use Rattle.dcx_rules.proofs.Accepting.{sides_below}
use Rattle.dcx_rules.proofs.Breaches.{objective_at, rest_none, rest_some}
use Rattle.dcx_rules.proofs.acceptance.first_breach.Goals as goal

pub first_constraint-requires-clause-sides : goal.first_constraint-requires-clause-sides
first_constraint-requires-clause-sides c =
    subst (λ (cs : List Constraint). AreSides cs (length c.args.judgements.now)) (sym c.as_slice.ensures) (sides_below c.args.problem.now (length c.args.judgements.now) c.requires)

pub returns-clause-none : goal.returns-clause-none
returns-clause-none c =
    let p = c.args.problem.now in
    let gs = c.args.judgements.now in
    let there = p.objective_kept.there in
    let count = c.requires in
    let lt : p.objective.0 < length gs = omega arith in
    rest_none p gs c.first_constraint.result (objective_at p gs _ lt ∙ sym c.may_be_objective.ensures ∙ c.if-not-may_be_objective.false)
    (subst (λ (cs : List Constraint). IfNone c.first_constraint.result (list_all (stands gs) cs ≡ true)) c.as_slice.ensures c.first_constraint.ensures.none)
    (subst (λ (cs : List Constraint). IfSome c.first_constraint.result (IsBroken cs gs)) c.as_slice.ensures c.first_constraint.ensures.some)

pub returns-clause-some : goal.returns-clause-some
returns-clause-some c =
    let p = c.args.problem.now in
    let gs = c.args.judgements.now in
    let there = p.objective_kept.there in
    let count = c.requires in
    let lt : p.objective.0 < length gs = omega arith in
    rest_some p gs c.first_constraint.result (objective_at p gs _ lt ∙ sym c.may_be_objective.ensures ∙ c.if-not-may_be_objective.false)
    (subst (λ (cs : List Constraint). IfSome c.first_constraint.result (IsBroken cs gs)) c.as_slice.ensures c.first_constraint.ensures.some)

pub returns-then-not-may_be_objective-clause-some : goal.returns-then-not-may_be_objective-clause-some
returns-then-not-may_be_objective-clause-some c =
    let p = c.args.problem.now in
    let gs = c.args.judgements.now in
    let there = p.objective_kept.there in
    let count = c.requires in
    let lt : p.objective.0 < length gs = omega arith in
    (objective_at p gs _ lt ∙ sym c.may_be_objective.ensures ∙ c.if-not-may_be_objective.true, c.rule_of_sense.ensures)

pub returns-then-not-may_be_objective-clause-none : goal.returns-then-not-may_be_objective-clause-none
returns-then-not-may_be_objective-clause-none c =
    let p = c.args.problem.now in
    let gs = c.args.judgements.now in
    let there = p.objective_kept.there in
    let count = c.requires in
    let lt : p.objective.0 < length gs = omega arith in
    let breaks : objective_stands p gs ≡ false = objective_at p gs _ lt ∙ sym c.may_be_objective.ensures ∙ c.if-not-may_be_objective.true in
    (λ e. absurd (true≢false e), λ e. absurd (true≢false (sym (and_parts (objective_stands p gs) (list_all (stands gs) p.constraints) e).0 ∙ breaks)))
