-- The comparison is exact.
use Rattle.std.proofs.Common.{inr}
use Rattle.dcx_tree.specs.Meaning.{setting_of, point_of, objective_at}
use Rattle.dcx_cert_check.proofs.Demands.{stated_passes, stated_fails}
use Rattle.dcx_cert_check.proofs.objective.check_value.Goals as goal

pub returns-then-is_equal-clause-checked : goal.returns-then-is_equal-clause-checked
returns-then-is_equal-clause-checked c =
    let x = objective_at c.args.problem.now (setting_of c.args.problem.now c.args.setting.now) (point_of c.args.problem.now c.args.point.now) in
    (c.in_ok-found.ensures.checked, stated_passes c.is_equal.result c.in_ok-found.found c.args.stated x c.in_ok-found.ensures.number c.is_equal.ensures c.if-is_equal.true)

pub returns-clause-checked : goal.returns-clause-checked
returns-clause-checked c =
    let x = objective_at c.args.problem.now (setting_of c.args.problem.now c.args.setting.now) (point_of c.args.problem.now c.args.point.now) in
    inr (inr (c.in_ok-found.ensures.checked, stated_fails c.is_equal.result c.in_ok-found.found c.args.stated x c.in_ok-found.ensures.number c.is_equal.ensures c.if-is_equal.false))
