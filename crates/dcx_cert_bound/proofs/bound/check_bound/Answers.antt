-- The checks in order.
use Rattle.std.proofs.Common.{List, Option, sym, subst}
use Rattle.std.proofs.lemmas.Result.{err_from_is_err_and}
use Rattle.dcx_atom.specs.declared.array.Array.{Array}
use Rattle.dcx_cert_bound.specs.Fixed.{AreFixedValues}
use Rattle.dcx_cert_bound.proofs.ByNode.{weights_there, weights_have}
use Rattle.dcx_cert_bound.proofs.Making.{bound_told, unformed_told, fixed_are}
use Rattle.dcx_cert_bound.proofs.Shown.{duals_are}
use Rattle.dcx_cert_bound.proofs.Sides.{has_value}
use Rattle.dcx_cert_bound.proofs.bound.check_bound.Goals as goal

pub check_with-requires-clause-duals : goal.check_with-requires-clause-duals
check_with-requires-clause-duals c = duals_are c.args.problem.now c.args.duals.now c.requires.duals

pub check_with-requires-clause-nodes : goal.check_with-requires-clause-nodes
check_with-requires-clause-nodes c = weights_there c.args.problem.now c.args.weights.now c.requires.weights

pub check_with-requires-clause-weights : goal.check_with-requires-clause-weights
check_with-requires-clause-weights c =
    let p = c.args.problem.now in
    let formed = c.in_ok-form_fixed.ensures in
    let values = c.as_slice.result.now in
    weights_have p c.args.weights.now values c.requires.weights
    (has_value p c.args.setting.now values (subst (λ (xs : List (Option Array)). AreFixedValues p c.args.setting.now xs) (sym c.as_slice.ensures)
    (fixed_are p c.args.setting.now c.form_fixed.new.self formed.values formed.kept (formed.only c.requires.only))))

pub returns : goal.returns
returns c =
    let p = c.args.problem.now in
    let formed = c.in_ok-form_fixed.ensures in
    let values = c.as_slice.result.now in
    bound_told p c.args.setting.now c.args.duals.now c.args.weights.now c.args.with_objective c.args.stated values formed.checked
    (subst (λ (xs : List (Option Array)). AreFixedValues p c.args.setting.now xs) (sym c.as_slice.ensures)
    (fixed_are p c.args.setting.now c.form_fixed.new.self formed.values formed.kept (formed.only c.requires.only))) c.check_with.result c.check_with.ensures

pub returns-in_err-form_fixed : goal.returns-in_err-form_fixed
returns-in_err-form_fixed c =
    let r = err_from_is_err_and c.from_residual.result c.from_residual.ensures.1 in
    rw (r.1, r.2) (unformed_told c.args.problem.now c.args.setting.now c.args.duals.now c.args.weights.now c.args.with_objective c.args.stated _ c.in_err-form_fixed.ensures.checked)
