-- The objective is formed, and negated where it is to be maximized.
use Rattle.std.proofs.Common.{[], ◌∷◌}
use Rattle.dcx_arena.proofs.Orders.{has_one}
use Rattle.dcx_cert_check.proofs.Sides.{root_reached, objective_is_value}
use Rattle.dcx_cert_check.proofs.objective.objective.Goals as goal

pub kept-requires : goal.kept-requires
kept-requires c =
    let root = c.args.problem.now.objective.0 in
    c.in_ok-form.ensures.kept root (root_reached c.args.problem.now.tree (root ∷ []) root (has_one root []))

pub returns-clause-number : goal.returns-clause-number
returns-clause-number c =
    let p = c.args.problem.now in
    let values = c.form.ensures.values in
    objective_is_value p c.args.setting.now c.args.point.now c.kept.result.now (values.values p.objective.0 c.kept.result.now c.kept.ensures) _ c.minimized.ensures
