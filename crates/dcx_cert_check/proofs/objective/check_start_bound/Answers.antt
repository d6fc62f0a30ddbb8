-- The comparison is exact.
use Rattle.std.proofs.Common.{inr}
use Rattle.dcx_tree.specs.Meaning.{setting_of, point_of, objective_at}
use Rattle.dcx_cert_check.proofs.Demands.{bound_passes, bound_fails}
use Rattle.dcx_cert_check.proofs.objective.check_start_bound.Goals as goal

pub returns-then-is_at_most-clause-checked : goal.returns-then-is_at_most-clause-checked
returns-then-is_at_most-clause-checked c =
    let x = objective_at c.args.problem.now (setting_of c.args.problem.now c.args.setting.now) (point_of c.args.problem.now c.args.point.now) in
    (c.in_ok-found.ensures.checked, bound_passes c.is_at_most.result c.in_ok-found.found c.args.bound x c.in_ok-found.ensures.number c.is_at_most.ensures c.if-is_at_most.true)

pub returns-clause-checked : goal.returns-clause-checked
returns-clause-checked c =
    let x = objective_at c.args.problem.now (setting_of c.args.problem.now c.args.setting.now) (point_of c.args.problem.now c.args.point.now) in
    inr (inr (c.in_ok-found.ensures.checked, bound_fails c.is_at_most.result c.in_ok-found.found c.args.bound x c.in_ok-found.ensures.number c.is_at_most.ensures c.if-is_at_most.false))
