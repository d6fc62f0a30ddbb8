-- What is kept stands at the point, and what is left of it needs none.
use Rattle.std.proofs.Common.{[]}
use Rattle.dcx_cert_values.proofs.Anywhere.{kept_alike}
use Rattle.dcx_cert_values.proofs.Left.{left_only, left_kept}
use Rattle.dcx_cert_check.proofs.checking.check_optimal.Goals as goal

pub check_point-requires-clause-kept : goal.check_point-requires-clause-kept
check_point-requires-clause-kept c = kept_alike c.args.problem.now c.args.setting.now [] c.args.point.now c.args.values.now c.requires.only c.requires.values

pub check_bound-requires-clause-only : goal.check_bound-requires-clause-only
check_bound-requires-clause-only c =
    left_only c.args.problem.now c.args.fixed.now c.check_value.new.values c.keep.new.self c.keep.ensures.count c.keep.ensures.each c.requires.fixed.each c.requires.fixed.counted

pub check_bound-requires-clause-values : goal.check_bound-requires-clause-values
check_bound-requires-clause-values c =
    let p = c.args.problem.now in
    let s = c.args.setting.now in
    let old = c.check_value.new.values in
    let now = c.keep.new.self in
    kept_alike p s c.args.point.now [] now (left_only p c.args.fixed.now old now c.keep.ensures.count c.keep.ensures.each c.requires.fixed.each c.requires.fixed.counted)
    (left_kept p c.args.fixed.now old now c.keep.ensures.count c.keep.ensures.each c.requires.fixed.each c.requires.fixed.counted s c.args.point.now c.check_value.ensures.kept)
