-- Both sides are formed, and then compared.
use Rattle.std.proofs.Common.{◌≡◌, ◌<◌, ◌∙◌, ℕ, length, List, Some, get_or, slice_get, sym, ap}
use Rattle.std.proofs.lemmas.Option.{slice_get_read}
use Rattle.std.proofs.lemmas.Result.{err_from_is_err_and}
use Rattle.dcx_tree.specs.declared.constraint.Constraint.{Constraint}
use Rattle.dcx_cert_rays.proofs.Turns.{two_below, constraint_fails, constraint_then}
use Rattle.dcx_cert_rays.proofs.checks.check_constraint.Goals as goal

-- what is read at a place of a list that is the constraints
found : (list constraints : List Constraint) (k : ℕ) (c : Constraint) → list ≡ constraints → k < length constraints → c ≡ get_or list k c → slice_get constraints k ≡ Some c
found list constraints k c e lt is = ap (λ xs. slice_get xs k) (sym e) ∙ slice_get_read list (length constraints) k c (ap length (sym e)) lt is

pub form_below-requires-clause-roots : goal.form_below-requires-clause-roots
form_below-requires-clause-roots c =
    let p = c.args.along.now.problem.now in
    let k = c.args.number in
    let con = c.index-as_slice-number.result in
    let there = found c.as_slice.result.now p.constraints k con c.as_slice.ensures c.requires.there c.index-as_slice-number.is in
    two_below (length p.tree) con.left.0 con.right.0 (p.constraints_kept.left k con there).there (p.constraints_kept.right k con there).there

pub compare-requires-clause-left_there : goal.compare-requires-clause-left_there
compare-requires-clause-left_there c =
    let p = c.args.along.now.problem.now in
    let k = c.args.number in
    let con = c.index-as_slice-number.result in
    let there = found c.as_slice.result.now p.constraints k con c.as_slice.ensures c.requires.there c.index-as_slice-number.is in
    (p.constraints_kept.left k con there).there

pub compare-requires-clause-right_there : goal.compare-requires-clause-right_there
compare-requires-clause-right_there c =
    let p = c.args.along.now.problem.now in
    let k = c.args.number in
    let con = c.index-as_slice-number.result in
    let there = found c.as_slice.result.now p.constraints k con c.as_slice.ensures c.requires.there c.index-as_slice-number.is in
    (p.constraints_kept.right k con there).there

pub returns-in_err-form_below-clause-checked : goal.returns-in_err-form_below-clause-checked
returns-in_err-form_below-clause-checked c =
    let a = c.args.along.now in
    let p = a.problem.now in
    let k = c.args.number in
    let con = c.index-as_slice-number.result in
    let there = found c.as_slice.result.now p.constraints k con c.as_slice.ensures c.requires.there c.index-as_slice-number.is in
    let r = err_from_is_err_and c.from_residual.result c.from_residual.ensures.1 in
    rw (r.1, r.2) (constraint_fails p a.setting.now a.ray.now k con there c.in_err-form_below.field-0.0 c.in_err-form_below.ensures.checked)

pub returns-clause-checked : goal.returns-clause-checked
returns-clause-checked c =
    let a = c.args.along.now in
    let p = a.problem.now in
    let k = c.args.number in
    let con = c.index-as_slice-number.result in
    let there = found c.as_slice.result.now p.constraints k con c.as_slice.ensures c.requires.there c.index-as_slice-number.is in
    constraint_then p a.setting.now a.ray.now k con there c.compare.result c.in_ok-form_below.ensures.checked c.compare.ensures
