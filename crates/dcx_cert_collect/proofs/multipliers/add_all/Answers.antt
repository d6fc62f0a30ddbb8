-- The objective first, and then the constraints.
use Rattle.std.proofs.Common.{◌≡◌, ◌∙◌, sym, ap, subst, List, length, slice_get, Ok, Err, OnOk, IfErr}
use Rattle.std.proofs.lemmas.Result.{err_from_is_err_and}
use Rattle.dcx_atom.specs.Arrays.{joined_below}
use Rattle.dcx_tree.specs.declared.constraint.Constraint.{Constraint}
use Rattle.dcx_cert_collect.specs.Shares.{with_shares}
use Rattle.dcx_cert_collect.specs.Multipliers.{objective_shares, constraint_shares}
use Rattle.dcx_cert_collect.proofs.Sharing.{shares-after, shares-stopped}
use Rattle.dcx_cert_collect.proofs.multipliers.add_all.Goals as goal

pub returns-in_err-add_objective-clause-passes : goal.returns-in_err-add_objective-clause-passes
returns-in_err-add_objective-clause-passes c =
    let r = err_from_is_err_and c.from_residual.result c.from_residual.ensures.1 in
    let p = c.args.problem.now in
    rw (r.1, r.2) (shares-stopped c.args.table.now.items (objective_shares c.args.with_objective p)
    (joined_below (length p.constraints) (λ k. constraint_shares p.tree (slice_get p.constraints k) (slice_get c.args.duals.now k))) c.in_err-add_objective.field-0.0
    c.in_err-add_objective.ensures.passes)

pub returns-clause-ok : goal.returns-clause-ok
returns-clause-ok c =
    let p = c.args.problem.now in
    let shares = λ (cs : List Constraint). joined_below (length cs) (λ k. constraint_shares p.tree (slice_get cs k) (slice_get c.args.duals.now k)) in
    subst (λ r. OnOk c.add_constraints.result (r ≡ Ok c.add_constraints.new.table.items))
    (ap (λ cs. with_shares c.add_objective.new.table.items (shares cs)) c.as_slice.ensures
    ∙ sym (shares-after c.args.table.now.items c.add_objective.new.table.items (objective_shares c.args.with_objective p) (shares p.constraints) c.in_ok-add_objective.ensures.ok))
    c.add_constraints.ensures.ok

pub returns-clause-passes : goal.returns-clause-passes
returns-clause-passes c =
    let p = c.args.problem.now in
    let shares = λ (cs : List Constraint). joined_below (length cs) (λ k. constraint_shares p.tree (slice_get cs k) (slice_get c.args.duals.now k)) in
    subst (λ r. IfErr c.add_constraints.result (λ q. r ≡ Err q))
    (ap (λ cs. with_shares c.add_objective.new.table.items (shares cs)) c.as_slice.ensures
    ∙ sym (shares-after c.args.table.now.items c.add_objective.new.table.items (objective_shares c.args.with_objective p) (shares p.constraints) c.in_ok-add_objective.ensures.ok))
    c.add_constraints.ensures.passes
