-- Both sides are formed, and then compared.
use Rattle.std.proofs.Common.{[], ◌∷◌}
use Rattle.dcx_arena.proofs.Orders.{has_one, tail_has}
use Rattle.dcx_cert_sections.proofs.Turns.{second_checked}
use Rattle.dcx_cert_values.specs.Forming.{forming}
use Rattle.dcx_cert_check.specs.SingleChecks.{entries_hold}
use Rattle.dcx_cert_check.proofs.Sides.{root_reached, sides_there, sides_are}
use Rattle.dcx_cert_check.proofs.constraints.check_constraint.Goals as goal

pub form-requires-clause-roots : goal.form-requires-clause-roots
form-requires-clause-roots c = sides_there c.args.problem.now c.args.number c.args.constraint.now c.requires.there

pub kept-left-requires : goal.kept-left-requires
kept-left-requires c =
    let left = c.args.constraint.now.left.0 in
    let right = c.args.constraint.now.right.0 in
    c.in_ok-form.ensures.kept left (root_reached c.args.problem.now.tree (left ∷ right ∷ []) left (has_one left (right ∷ [])))

pub kept-right-requires : goal.kept-right-requires
kept-right-requires c =
    let left = c.args.constraint.now.left.0 in
    let right = c.args.constraint.now.right.0 in
    c.in_ok-form.ensures.kept right (root_reached c.args.problem.now.tree (left ∷ right ∷ []) right (tail_has left right (right ∷ []) (has_one right [])))

pub returns-clause-checked : goal.returns-clause-checked
returns-clause-checked c =
    let p = c.args.problem.now in
    let s = c.args.setting.now in
    let x = c.args.point.now in
    let row = c.args.constraint.now in
    let values = c.form.ensures.values in
    second_checked (forming p s x (row.left.0 ∷ row.right.0 ∷ [])) (entries_hold p s x c.args.number row) c.compare.result c.in_ok-form.ensures.checked
    (sides_are p s x c.args.number row c.kept-left.result.now c.kept-right.result.now c.requires.there
    (values.values row.left.0 c.kept-left.result.now c.kept-left.ensures) (values.values row.right.0 c.kept-right.result.now c.kept-right.ensures)
    c.compare.result c.compare.ensures)
